-- The survey's loop: what is found so far and what is left make the whole, and the carries found so far are kept. Assumes nothing.
use Rattle.std.specs.Prelude.{◌≡◌, ◌&&◌, ◌+◌, ◌*◌, ◌≤◌}
use Rattle.laws.proofs.Prelude.{refl, sym, ap, ◌∙◌, Bool, true, false, cond, List, map, ℕ, arith, lt-ltb, ltb, ℤ, length}
use Rattle.laws.proofs.Prelude.{drop, length-map, given, refused, is_given, left, right, cons_lt, map_drop, all_again, all_end, filled}
use Rattle.laws.proofs.Prelude.{filled_all}
use Rattle.pixel_segment.specs.Field.{cpu}
use Rattle.segment_rows.specs.Search.{between}
use Rattle.cover_statements.specs.Carry.{is_light, carry_of}
use Rattle.cover_statements.specs.Entry.{cover_entry, put_entry}
use Rattle.cover.specs.Adding.{Adding}
use Rattle.cover.specs.declared.carry.Carried.{Carried}
use Rattle.layer_table.specs.Lookup.{lookup}
use Rattle.styling.specs.declared.Layer.{Layer}
use Rattle.queue_statements.specs.Queue.{queue_of, covers_in, zeros}
use Rattle.queue_statements.proofs.Columns.{length_covers}
use Rattle.tile_layers.specs.Listing.{Listed, layers_in, are_known, are_light}
use Rattle.tile_layers.specs.InnerWalk.{Stepped, Moved}
use Rattle.tile_layers.specs.declared.walk.Next.{Next}
use Rattle.tile_layers.proofs.Filling.{put_filled}
use Rattle.tile_layers.proofs.Walking.{Walking, walk_here, walk_next_lem, walk_end, walk_all}
use Rattle.layer_carrying.specs.Carrying.{carry_for}
use Rattle.layer_carrying.proofs.Handing.{carries_wide}
use Rattle.layer_listing.specs.Survey.{Surveyed}

-- what adding accepts is what number 9 does not refuse, and its cover is then the carry
given_cond : (b : Bool) (covers : List ℤ) → is_given (cond b (given covers) (refused 9)) ≡ b
given_cond true covers = refl
given_cond false covers = refl

accepted_is : {covers : List ℤ} {part : List ℕ} {r : Carried} → Adding cpu 16 covers part r → r.accepted ≡ is_light cpu 16 covers part
accepted_is {covers} {part} {r} h =
    sym (given_cond r.accepted r.cover.covers) ∙ ap is_given h.answer ∙ given_cond (is_light cpu 16 covers part) (carry_of cpu 16 covers part)

carry_is : {covers : List ℤ} {part : List ℕ} {r : Carried} → Adding cpu 16 covers part r → r.accepted ≡ true → r.cover.covers ≡ carry_of cpu 16 covers part
carry_is h e = rw (sym (accepted_is h) ∙ e) at h.covers_are

module _ (n : ℕ) (ids : List ℕ) (covers : List ℤ) (part : List ℕ) (table : List Layer) (old : List ℤ) where
  abbrev whole : List Listed
  whole = layers_in (queue_of n ids covers) part

  pub record Surveying (total : ℕ) (known light : Bool) (sums : List ℤ) (i j : ℕ) : Type 0 where
    pub walking : Walking n ids covers part i j total
    pub long : 4096 ≤ length old
    pub same : length sums ≡ length old
    pub known_is : (known && are_known table (drop total whole)) ≡ are_known table whole
    pub light_is : (light && are_light (drop total whole)) ≡ are_light whole
    pub sums_are : length whole ≤ 256 → light ≡ true → sums ≡ filled old (covers_in (map carry_for whole)) (total * 16)

  pub survey_next : {total i j : ℕ} {known light : Bool} {sums : List ℤ} → Surveying total known light sums i j → (r : Next) → Stepped n ids covers part i j r → Moved n part i j r → (is_known : Bool) (cover next : List ℤ) (c : Carried) → is_known ≡ is_given (lookup table r.id) → cover ≡ cond r.carried (cover_entry 16 i covers) zeros → Adding cpu 16 cover (between j r.end part) c → next ≡ cond (ltb total 256) (put_entry 16 total c.cover.covers sums) sums → length next ≡ length sums → Surveying (total + 1) (known && is_known) (light && c.accepted) next r.i r.end
  survey_next {total} {i} {j} {known} {light} {sums} s r p m is_known cover next c ek ec el en es =
      let e = walk_here n ids covers part s.walking r p in
      let inside = cons_lt whole total e in
      record {
        walking = walk_next_lem n ids covers part s.walking r p m;
        long = s.long;
        same = es ∙ s.same;
        known_is = rw ek (all_again whole total e (λ l. is_given (lookup table l.id)) known (are_known table whole) s.known_is);
        light_is = rw (accepted_is el, ec) (all_again whole total e (λ l. is_light cpu 16 l.cover l.own) light (are_light whole) s.light_is);
        sums_are =
            λ few h.
            en
            ∙ ap (λ (b : Bool). cond b (put_entry 16 total c.cover.covers sums) sums) (lt-ltb total 256 (omega (arith, inside)))
            ∙ ap (λ (l : List ℤ). put_entry 16 total l sums) (carry_is el (right light c.accepted h) ∙ ap (λ (l : List ℤ). carry_of cpu 16 l (between j r.end part)) ec)
            ∙ ap (put_entry 16 total (carry_of cpu 16 (cond r.carried (cover_entry 16 i covers) zeros) (between j r.end part))) (s.sums_are few (left light c.accepted h))
            ∙ put_filled (map carry_for whole) old total (carries_wide whole) (map_drop carry_for whole total ∙ ap (map carry_for) e) (omega (arith, length-map whole carry_for, s.long));
      }

  pub survey_end : {total i j : ℕ} {known light : Bool} {sums : List ℤ} → Surveying total known light sums i j → n + length part ≤ i + j → Surveyed table whole (record { count = total; known = known; light = light }) sums
  survey_end {total} {i} {j} {known} {light} {sums} s h =
      let e = walk_end n ids covers part s.walking h in
      let all = walk_all n ids covers part s.walking h in
      record {
        count = sym all;
        known = all_end whole total (λ l. is_given (lookup table l.id)) known (are_known table whole) e s.known_is;
        light = all_end whole total (λ l. is_light cpu 16 l.cover l.own) light (are_light whole) e s.light_is;
        carries =
            λ few t.
            record {
              old = old;
              sums_are = s.sums_are few t ∙ filled_all old (covers_in (map carry_for whole)) (total * 16) (length_covers (map carry_for whole) (carries_wide whole) ∙ ap (λ (k : ℕ). k * 16) (length-map whole carry_for ∙ all));
            };
      }
