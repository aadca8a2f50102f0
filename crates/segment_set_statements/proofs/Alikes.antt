-- Taking in is judged as a beginning with one word more is; so sets with the same words are answered alike. Assumes nothing.
use Rattle.std.specs.Prelude.{◌≡◌, ◌&&◌, ◌∷◌, ◌+◌, ◌≤◌, ◌<◌}
use Rattle.laws.proofs.Prelude.{refl, sym, ap, ◌∙◌, Bool, true, false, not, List, ⊎_elim, ℕ, suc, arith, lt-ltb}
use Rattle.laws.proofs.Prelude.{le-ltb, ltb-true, leb-true, le-leb, leb, ltb, ℤ, length, get_or, length-set, all, same, le_or_lt}
use Rattle.laws.proofs.Bools.{not-true}
use Rattle.refusals.specs.Refusal.{Judgement, pass, refuse, unless}
use Rattle.pixel_segment.specs.Field.{cpu, local_y_of}
use Rattle.cover_statements.specs.Carry.{abs_cover, is_light}
use Rattle.cover_statements.proofs.Carries.{light}
use Rattle.segment_set_statements.specs.Set.{SetState, held_of, is_of, is_here, loads_from, beginning, begin_verdict}
use Rattle.segment_set_statements.specs.Set.{take_verdict, taken_in, let_verdict, let_out, settled}
use Rattle.segment_set_statements.specs.Kept.{Kept, SameWords}
use Rattle.segment_set_statements.specs.Alike.{Alike, OrderLaw}
use Rattle.segment_set_statements.proofs.Keeping.{count_held, take_passed, let_passed, same_taken, same_let, kept_taken, kept_let}
use Rattle.segment_set_statements.proofs.Sames.{same_refl, same_sym, same_length, same_held, same_all}
use Rattle.segment_set_statements.proofs.Steps.{same_light, light_taken, loads_at, own_load}

-- ---- taking in, judged as a beginning with one word more

and-true : (a b : Bool) → b ≡ true → (a && b) ≡ a
and-true true b e = e
and-true false b e = refl

-- fewer slots than one word more needs
full : (slots count : ℕ) → leb slots count ≡ ltb slots (suc count)
full slots count =
    same (leb slots count) (ltb slots (suc count))
    (λ e. let l : slots ≤ count = leb-true slots count e in lt-ltb slots (suc count) (omega arith))
    (λ e. let l : slots < suc count = ltb-true slots (suc count) e in le-leb slots count (omega arith))

module _ {incoming : List ℤ} {s : SetState} (k : Kept incoming s) (w : ℕ) where
  here_more : is_here s.set w ≡ all (is_here s.set) (w ∷ held_of s)
  here_more = sym (and-true (is_here s.set w) (all (is_here s.set) (held_of s)) k.here)

  heavy_more : ltb 127 (get_or s.set.loads (local_y_of cpu w) 0 + abs_cover cpu w) ≡ not (is_light cpu 16 incoming (w ∷ held_of s))
  heavy_more =
      let y = local_y_of cpu w in
      let more = same_refl (w ∷ held_of s) in
      ap (λ (loads : List ℕ). ltb 127 (get_or loads y 0 + abs_cover cpu w)) k.loads_are
      ∙ by (get_or (loads_from cpu 16 incoming (held_of s)) y 0 + abs_cover cpu w) (light_taken incoming w more k.light)
      (λ l. omega (arith, (light l).at y (omega arith), loads_at incoming (held_of s) y (omega arith), own_load incoming w more))
    where
      by : (load : ℕ) → (load ≤ 127 → is_light cpu 16 incoming (w ∷ held_of s) ≡ true) → (is_light cpu 16 incoming (w ∷ held_of s) ≡ true → load ≤ 127) →
          ltb 127 load ≡ not (is_light cpu 16 incoming (w ∷ held_of s))
      by load f g =
          ⊎_elim
          (λ (l : load ≤ 127). le-ltb 127 load l ∙ ap not (sym (f l)))
          (λ (l : 127 < load). lt-ltb 127 load l ∙ ap not (sym (not-true (is_light cpu 16 incoming (w ∷ held_of s)) (λ e. let m = g e in absurd (omega arith)))))
          (le_or_lt load 127)

  pub taken_as_begun : take_verdict s w ≡
      begin_verdict (beginning s.set.layer_id s.set.tile_x s.set.tile_y incoming (w ∷ held_of s)) s.slots s.areas
  unfolding take_verdict begin_verdict
  taken_as_begun =
      let heavy = heavy_more in
      let here = here_more in
      let filled = full (length s.slots) s.set.count ∙ ap (λ (n : ℕ). ltb (length s.slots) (suc n)) (sym (count_held k)) in
      λ i. unless (ltb (length s.areas) 256) 1 (unless (not (here i)) 3 (unless (heavy i) 9 (unless (filled i) 13 pass)))

-- ---- a beginning is judged alike by the same words, whatever stands in the slots and in d

all_same : (p : ℕ → Bool) {xs ys : List ℕ} → SameWords xs ys → all p xs ≡ all p ys
all_same p {xs} {ys} s = same (all p xs) (all p ys) (same_all p s) (same_all p (same_sym s))

light_same : (incoming : List ℤ) {xs ys : List ℕ} → SameWords xs ys → is_light cpu 16 incoming xs ≡ is_light cpu 16 incoming ys
light_same incoming {xs} {ys} s = same (is_light cpu 16 incoming xs) (is_light cpu 16 incoming ys) (same_light incoming s) (same_light incoming (same_sym s))

module _ {incoming : List ℤ} {s t : SetState} (a : Alike incoming s t) where
  long : ltb (length s.areas) 256 ≡ ltb (length t.areas) 256
  long = le-ltb (length s.areas) 256 a.one.room ∙ sym (le-ltb (length t.areas) 256 a.other.room)

  module _ (w : ℕ) where
    more : SameWords (w ∷ held_of s) (w ∷ held_of t)
    more = record { at = λ v. omega (arith, a.words.at v) }

    pub same_taking : take_verdict s w ≡ take_verdict t w
    unfolding begin_verdict
    same_taking =
        let all_here : all (is_here s.set) (w ∷ held_of s) ≡ all (is_here t.set) (w ∷ held_of t) =
        (λ i. all (is_of (a.layer i) (a.tile_x i) (a.tile_y i)) (w ∷ held_of s)) ∙ all_same (is_here t.set) more in
        let lit = light_same incoming more in
        let count = same_length more in
        taken_as_begun a.one w
        ∙ (λ i. unless (long i) 1 (unless (not (all_here i)) 3 (unless (not (lit i)) 9 (unless (ltb (a.slots i) (count i)) 13 pass))))
        ∙ sym (taken_as_begun a.other w)

    pub same_letting : let_verdict s w ≡ let_verdict t w
    unfolding let_verdict
    same_letting =
        let held = same_held w a.words in
        λ i. unless (long i) 1 (unless (not (is_of (a.layer i) (a.tile_x i) (a.tile_y i) w)) 3 (unless (not (held i)) 12 pass))

    -- ---- and they are alike again

    alike_taken : (j : Judgement) → take_verdict s w ≡ j → take_verdict t w ≡ j → Alike incoming (settled j (taken_in s w) s) (settled j (taken_in t w) t)
    alike_taken pass e f =
        let p = take_passed s w e in
        let q = take_passed t w f in
        record {
          one = kept_taken a.one w p;
          other = kept_taken a.other w q;
          layer = a.layer;
          tile_x = a.tile_x;
          tile_y = a.tile_y;
          words = record { at = λ v. omega (arith, (same_taken s w p).at v, (same_taken t w q).at v, a.words.at v) };
          slots = length-set s.slots s.set.count w ∙ a.slots ∙ sym (length-set t.slots t.set.count w);
        }
    alike_taken (refuse n) e f = a

    alike_let : (j : Judgement) → let_verdict s w ≡ j → let_verdict t w ≡ j → Alike incoming (settled j (let_out s w) s) (settled j (let_out t w) t)
    alike_let pass e f =
        let p = (let_passed s w e).held in
        let q = (let_passed t w f).held in
        record {
          one = kept_let s w p a.one;
          other = kept_let t w q a.other;
          layer = a.layer;
          tile_x = a.tile_x;
          tile_y = a.tile_y;
          words = record { at = λ v. omega (arith, (same_let s w p).at v, (same_let t w q).at v, a.words.at v) };
          slots = length-set s.slots _ _ ∙ a.slots ∙ sym (length-set t.slots _ _);
        }
    alike_let (refuse n) e f = a

pub order_law : OrderLaw
order_law incoming s t a =
    record {
      taking = same_taking a;
      letting = same_letting a;
      taken = λ w. rw (same_taking a w) (alike_taken a w (take_verdict t w) (same_taking a w) refl);
      let_out_step = λ w. rw (same_letting a w) (alike_let a w (let_verdict t w) (same_letting a w) refl);
    }
