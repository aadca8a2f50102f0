-- A set begun with nothing and then word by word is the fresh working of the part. Assumes nothing.
use Rattle.std.specs.Prelude.{◌≡◌, ◌∷◌, ◌++◌, ◌+◌, ◌%◌, ◌≤◌, ◌<◌, ◌+ℤ◌, ◌*ℤ◌}
use Rattle.laws.proofs.Prelude.{sym, ap, ap₂, ◌∙◌, true, List, [], map, ℕ}
use Rattle.laws.proofs.Prelude.{add-one, arith, ltb-false, not-false, eqb, ℤ, pos, nat_abs, +ℤ_idr, length, get_or, take, drop, set}
use Rattle.laws.proofs.Prelude.{length-set, length-map, take-append-drop, List·getD-map, take_at, drop_at, take-suc, take_all}
use Rattle.laws.proofs.Prelude.{length-take-le, over, all, filled, filled_more, filled_all, is_tabulate, length_over, sum_append}
use Rattle.refusals.specs.Refusal.{pass}
use Rattle.refusals.proofs.Judging.{passed}
use Rattle.pixel_segment.specs.Field.{cpu, local_y_of}
use Rattle.cover_statements.specs.Area.{doubled_area, areas_of}
use Rattle.cover_statements.specs.Carry.{in_row, abs_cover, load_in, is_light, carry_of}
use Rattle.cover_statements.specs.Cover.{cover_at}
use Rattle.cover_statements.specs.InnerLoad.{Magnitudes}
use Rattle.cover_statements.proofs.Carries.{light}
use Rattle.cover_statements.proofs.Planes.{areas_length, areas_at}
use Rattle.segment_set_statements.specs.Effect.{areas_after, carry_after, loads_after}
use Rattle.segment_set_statements.specs.Set.{SetState, state, Beginning, beginning, begin_verdict, fresh_set, fresh_state, is_of, loads_from, taken_in}
use Rattle.segment_set_statements.specs.Kept.{SameWords}
use Rattle.segment_set_statements.specs.InnerSpread.{Addable}
use Rattle.segment_set_statements.specs.declared.SegmentSet.{SegmentSet}
use Rattle.segment_set_statements.proofs.Steps.{areas_taken, carry_taken, loads_taken, loads_at, own_load, is_light_lem}

-- ---- what a verdict that passes tells

pub record Begun (b : Beginning) (slots : List ℕ) (areas : List ℤ) : Type 0 where
  pub room : 256 ≤ length areas
  pub here : all (is_of b.layer b.tile_x b.tile_y) b.part ≡ true
  pub light : is_light cpu 16 b.incoming b.part ≡ true
  pub free : length b.part ≤ length slots

pub begin_passed : {b : Beginning} {slots : List ℕ} {areas : List ℤ} → begin_verdict b slots areas ≡ pass → Begun b slots areas
unfolding begin_verdict
begin_passed {b} {slots} {areas} e =
    let p = passed _ _ _ e in
    let q = passed _ _ _ p.1 in
    let r = passed _ _ _ q.1 in
    let s = passed _ _ _ r.1 in
    record {
      room = ltb-false (length areas) 256 p.0;
      here = not-false _ q.0;
      light = not-false _ r.0;
      free = ltb-false (length slots) (length b.part) s.0;
    }

-- ---- lists

pub over_over : {A : Type 0} (xs ys old : List A) → length xs ≡ length ys → over xs (over ys old) ≡ over xs old
unfolding over
over_over {A = A} xs ys old e =
    ap (λ (r : List A). xs ++ r) (drop_at ys (drop (length ys) old) (length xs) (sym e) ∙ ap (λ (n : ℕ). drop n old) (sym e))

pub take_over : {A : Type 0} (xs old : List A) (n : ℕ) → length xs ≡ n → take n (over xs old) ≡ xs
unfolding over
take_over xs old n e = take_at xs (drop (length xs) old) n e

over_filled : {A : Type 0} (part old : List A) (i : ℕ) → i ≤ length part → over (take i part) old ≡ filled old part i
unfolding over
over_filled {A = A} part old i h = ap (λ (n : ℕ). take i part ++ drop n old) (length-take-le i part h)

-- a word at the end
pub same_snoc : (w : ℕ) (xs : List ℕ) → SameWords (xs ++ (w ∷ [])) (w ∷ xs)
same_snoc w xs =
    record { at = λ v. let e = sum_append ◌+◌ 0 (λ n. omega arith) (λ a b c. omega arith) (eqb v) (λ u. 1) xs (w ∷ []) in omega (arith, e) }

-- ---- d and the loads of a tile without segments

none_at : (covers : List ℤ) (k : ℕ) → k < 256 → cover_at (areas_of cpu 16 (cover_at covers) []) k ≡ pos 32 *ℤ cover_at covers (k % 16)
unfolding doubled_area
none_at covers k h =
    areas_at cpu 16 (cover_at covers) [] k h
    ∙ +ℤ_idr (pos 32 *ℤ (cover_at covers (k % 16) +ℤ pos 0))
    ∙ ap (λ (z : ℤ). pos 32 *ℤ z) (+ℤ_idr (cover_at covers (k % 16)))

pub record Starting (covers old : List ℤ) (k : ℕ) (new : List ℤ) : Type 0 where
  pub reached : k ≤ 256
  pub room : 256 ≤ length old
  pub long : length new ≡ length old
  pub drawn : new ≡ filled old (areas_of cpu 16 (cover_at covers) []) k

module _ {covers old : List ℤ} where
  pub next_area : {k : ℕ} {v : ℤ} {new : List ℤ} → Starting covers old k new → k < 256 → v ≡ pos 32 *ℤ cover_at covers (k % 16) → Starting covers old (k + 1) (set new k v)
  next_area {k} {v} {new} c h e =
      let d = areas_of cpu 16 (cover_at covers) [] in
      record {
        reached = omega arith;
        room = c.room;
        long = length-set new k v ∙ c.long;
        drawn =
            ap₂ (λ (l : List ℤ) (x : ℤ). set l k x) c.drawn (e ∙ sym (none_at covers k h))
            ∙ filled_more old d k (pos 0) (omega (arith, c.room)) (omega (arith, areas_length cpu 16 (cover_at covers) []));
      }

  pub end_areas : {k : ℕ} {new : List ℤ} → Starting covers old k new → 256 ≤ k → new ≡ over (areas_of cpu 16 (cover_at covers) []) old
  end_areas {k} {new} c h =
      let e : k ≡ 256 = omega (arith, c.reached) in
      c.drawn ∙ rw e (filled_all old (areas_of cpu 16 (cover_at covers) []) 256 (areas_length cpu 16 (cover_at covers) []))

pub loads_none : (covers : List ℤ) (loads : List ℕ) → length covers ≡ 16 → Magnitudes covers loads → loads ≡ loads_from cpu 16 covers []
unfolding loads_from
loads_none covers loads e m =
    is_tabulate 16 (λ y. nat_abs (cover_at covers y) + load_in cpu y []) 0 loads (ap length m.same ∙ length-map covers nat_abs ∙ e)
    (λ y h.
    let f : get_or (map nat_abs covers) y 0 ≡ nat_abs (cover_at covers y) = List·getD-map nat_abs covers y (pos 0) in
    ap (λ (l : List ℕ). get_or l y 0) m.same ∙ f ∙ omega arith)

-- ---- the loop over the part

-- a set of a beginning with a carry, loads and a count
abbrev pub set_of : Beginning → List ℤ → List ℕ → ℕ → SegmentSet
set_of b covers loads count =
    record { layer_id = b.layer; tile_x = b.tile_x; tile_y = b.tile_y; carry = record { covers = covers }; loads = loads; count = count }

-- states with equal parts
pub three : {a b : SegmentSet} {c d : List ℕ} {e f : List ℤ} → a ≡ b → c ≡ d → e ≡ f → state a c e ≡ state b d f
three {b = b} {c = c} {e = e} p q r = ap (λ (s : SegmentSet). state s c e) p ∙ ap₂ (λ (l : List ℕ) (m : List ℤ). state b l m) q r

abbrev pub up_to : Beginning → ℕ → Beginning
up_to b i = beginning b.layer b.tile_x b.tile_y b.incoming (take i b.part)

-- number 9 does not apply to the first words either
light_front : (incoming : List ℤ) (part : List ℕ) (i : ℕ) → is_light cpu 16 incoming part ≡ true → is_light cpu 16 incoming (take i part) ≡ true
light_front incoming part i l =
    is_light_lem incoming (take i part)
    (λ y h.
    let e = sum_append ◌+◌ 0 (λ n. omega arith) (λ a b c. omega arith) (in_row cpu y) (abs_cover cpu) (take i part) (drop i part) in
    let p : load_in cpu y (take i part ++ drop i part) ≡ load_in cpu y part = ap (load_in cpu y) (take-append-drop i part) in
    omega (arith, (light l).at y h, e, p))

pub record Adding (b : Beginning) (slots : List ℕ) (areas : List ℤ) (i : ℕ) (s : SetState) : Type 0 where
  pub reached : i ≤ length b.part
  pub begun : Begun b slots areas
  pub so_far : s ≡ fresh_state (up_to b i) slots areas

module _ {b : Beginning} {slots : List ℕ} {areas : List ℤ} where
  -- with nothing, over d of nothing
  pub add_start : {s : SetState} → Begun b slots areas → s ≡ fresh_state (up_to b 0) slots areas → Adding b slots areas 0 s
  add_start h e = record { reached = omega arith; begun = h; so_far = e }

  module _ {i : ℕ} {s : SetState} (c : Adding b slots areas i s) (h : i < length b.part) where
    more : take (i + 1) b.part ≡ take i b.part ++ (get_or b.part i 0 ∷ [])
    more = rw (add-one i) (take-suc b.part i 0 h)

    same : SameWords (take (i + 1) b.part) (get_or b.part i 0 ∷ take i b.part)
    same = rw more (same_snoc (get_or b.part i 0) (take i b.part))

    count_is : length (take i b.part) ≡ i
    count_is = length-take-le i b.part (omega arith)

    lit : is_light cpu 16 b.incoming (take (i + 1) b.part) ≡ true
    lit = light_front b.incoming b.part (i + 1) c.begun.light

    pub add_ready : Addable s (get_or b.part i 0)
    add_ready =
        let y = local_y_of cpu (get_or b.part i 0) in
        let f = c.begun in
        rw c.so_far
        (record {
          room = omega (arith, f.room, length_over areas (areas_of cpu 16 (cover_at b.incoming) (take i b.part)) (omega (arith, f.room, areas_length cpu 16 (cover_at b.incoming) (take i b.part))));
          free = omega (arith, f.free, count_is, length_over slots (take i b.part) (omega (arith, f.free, count_is)));
          small = omega (arith, loads_at b.incoming (take i b.part) y (omega arith), own_load b.incoming (get_or b.part i 0) same, (light lit).at y (omega arith));
        })

    taken_slots : set (over (take i b.part) slots) (length (take i b.part)) (get_or b.part i 0) ≡ over (take (i + 1) b.part) slots
    taken_slots =
        let f = c.begun in
        ap₂ (λ (l : List ℕ) (n : ℕ). set l n (get_or b.part i 0)) (over_filled b.part slots i (omega arith)) count_is
        ∙ filled_more slots b.part i 0 (omega (arith, f.free)) h
        ∙ sym (over_filled b.part slots (i + 1) (omega arith))

    taken_areas : areas_after ◌+ℤ◌ cpu 16 (get_or b.part i 0) (over (areas_of cpu 16 (cover_at b.incoming) (take i b.part)) areas) ≡ over (areas_of cpu 16 (cover_at b.incoming) (take (i + 1) b.part)) areas
    taken_areas =
        let xs = areas_of cpu 16 (cover_at b.incoming) (take i b.part) in
        let ys = areas_of cpu 16 (cover_at b.incoming) (take (i + 1) b.part) in
        areas_taken b.incoming (get_or b.part i 0) same lit (over xs areas) (take_over xs areas 256 (areas_length cpu 16 (cover_at b.incoming) (take i b.part)))
        ∙ over_over ys xs areas (areas_length cpu 16 (cover_at b.incoming) (take (i + 1) b.part) ∙ sym (areas_length cpu 16 (cover_at b.incoming) (take i b.part)))

    count_more : length (take i b.part) + 1 ≡ length (take (i + 1) b.part)
    count_more = omega (arith, count_is, length-take-le (i + 1) b.part (omega arith))

    taken_set : set_of b (carry_after ◌+ℤ◌ cpu (get_or b.part i 0) (carry_of cpu 16 b.incoming (take i b.part))) (loads_after ◌+◌ cpu (get_or b.part i 0) (loads_from cpu 16 b.incoming (take i b.part))) (length (take i b.part) + 1) ≡ fresh_set (up_to b (i + 1))
    taken_set = rw (carry_taken b.incoming (get_or b.part i 0) same lit, loads_taken b.incoming (get_or b.part i 0) same, count_more)

    pub add_next : {t : SetState} → t ≡ taken_in s (get_or b.part i 0) → Adding b slots areas (i + 1) t
    add_next {t} e =
        record {
          reached = omega arith;
          begun = c.begun;
          so_far =
              e
              ∙ ap (λ (u : SetState). taken_in u (get_or b.part i 0)) c.so_far
              ∙ three taken_set taken_slots taken_areas;
        }

  pub add_end : {i : ℕ} {s : SetState} → Adding b slots areas i s → length b.part ≤ i → s ≡ fresh_state b slots areas
  add_end {i} {s} c h = c.so_far ∙ ap (λ (p : List ℕ). fresh_state (beginning b.layer b.tile_x b.tile_y b.incoming p) slots areas) (take_all i b.part h)
