-- What an edit leaves alone, and an edit undone. Assumes nothing.
use Rattle.std.specs.Prelude.{◌≡◌, ◌||◌, ◌∷◌, ◌++◌, ◌*◌, ◌/◌, ◌%◌, ◌≤◌, ◌<◌}
use Rattle.laws.proofs.Prelude.{refl, sym, ap, ◌∙◌, Bool, true, false, List, [], ⊎_elim, ℕ, arith}
use Rattle.laws.proofs.Prelude.{eq-eqb, eqb, ℤ, pos, length, take, drop, take-append-drop, get_or-set_other, length-take-le, tabulate, over, le_or_lt}
use Rattle.laws.proofs.Prelude.{length_tabulate, get_d_tabulate}
use Rattle.refusals.specs.Refusal.{pass}
use Rattle.pixel_segment.specs.Field.{cpu, local_y_of}
use Rattle.cover_statements.specs.Area.{areas_of}
use Rattle.cover_statements.specs.Cover.{cover_at}
use Rattle.cover_statements.proofs.Planes.{areas_length}
use Rattle.segment_set_statements.specs.Effect.{is_reached, area_after, areas_after, carry_after}
use Rattle.segment_set_statements.specs.Set.{SetState, held_of, is_word_held, take_verdict, taken_in, let_out}
use Rattle.segment_set_statements.specs.Kept.{Kept, SameWords, Undone}
use Rattle.segment_set_statements.proofs.Begins.{over_over}
use Rattle.segment_set_statements.proofs.Keeping.{take_passed, held_taken, same_taken, new_areas, kept_taken, same_let, areas_without, kept_let}
use Rattle.segment_set_statements.proofs.Lists.{over_front, over_back}
use Rattle.segment_set_statements.proofs.Sames.{same_areas, same_carry, same_loads}

-- ---- the frame, on every content: only the segment's row, from its column rightward, and that row's carry and load

module _ (op : ℤ → ℤ → ℤ) (ws : List ℕ) (n w : ℕ) where
  pub framed_areas : (areas : List ℤ) (k : ℕ) → (k < 16 * n → is_reached ws w (k / n) (k % n) ≡ false) → cover_at (areas_after op ws n w areas) k ≡ cover_at areas k
  unfolding areas_after
  framed_areas areas k h =
      let f : ℕ → ℤ = λ i. area_after op ws w (i / n) (i % n) (cover_at areas i) in
      let long = length_tabulate (16 * n) f in
      ⊎_elim
      (λ (q : 16 * n ≤ k). over_back (tabulate (16 * n) f) areas (pos 0) k (omega (arith, long)))
      (λ (q : k < 16 * n).
      over_front (tabulate (16 * n) f) areas (pos 0) k (omega (arith, long))
      ∙ get_d_tabulate (16 * n) f (pos 0) k q
      ∙ rw (h q))
      (le_or_lt (16 * n) k)

  pub framed_carry : (carry : List ℤ) (y : ℕ) → (y ≡ local_y_of ws w → ⊥) → cover_at (carry_after op ws w carry) y ≡ cover_at carry y
  unfolding carry_after
  framed_carry carry y h = get_or-set_other carry (local_y_of ws w) y _ (pos 0) h

-- ---- a segment taken in and let out again

last_held : (w : ℕ) (xs : List ℕ) → is_word_held w (xs ++ (w ∷ [])) ≡ true
last_held w [] = rw (eq-eqb w w refl)
last_held w (x ∷ xs) = by (eqb x w) (last_held w xs)
  where
    by : (t : Bool) → is_word_held w (xs ++ (w ∷ [])) ≡ true → (t || is_word_held w (xs ++ (w ∷ []))) ≡ true
    by true e = refl
    by false e = e

over_own : {A : Type 0} (l : List A) (n : ℕ) → n ≤ length l → over (take n l) l ≡ l
unfolding over
over_own {A = A} l n h = ap (λ (m : ℕ). take n l ++ drop m l) (length-take-le n l h) ∙ take-append-drop n l

pub undone : {incoming : List ℤ} {s : SetState} → Kept incoming s → (w : ℕ) → take_verdict s w ≡ pass → Undone s (let_out (taken_in s w) w)
undone {incoming} {s} k w e =
    let p = take_passed s w e in
    let u = taken_in s w in
    let held : is_word_held w (held_of u) ≡ true = ap (is_word_held w) (held_taken s w p.free) ∙ last_held w (held_of s) in
    let t = let_out u w in
    let one = kept_taken k w p in
    let two = kept_let u w held one in
    let same : SameWords (held_of t) (held_of s) = record { at = λ v. omega (arith, (same_taken s w p).at v, (same_let u w held).at v) } in
    let d = areas_of cpu 16 (cover_at incoming) in
    record {
      areas_are =
          areas_without u w held one
          ∙ ap (over (d (held_of t))) (new_areas k w p)
          ∙ over_over (d (held_of t)) (d (held_of u)) s.areas (areas_length cpu 16 (cover_at incoming) (held_of t) ∙ sym (areas_length cpu 16 (cover_at incoming) (held_of u)))
          ∙ ap (λ (l : List ℤ). over l s.areas) (same_areas cpu same 16 (cover_at incoming) ∙ sym k.areas_are)
          ∙ over_own s.areas 256 k.room;
      carry_is = two.carry_is ∙ same_carry cpu same 16 incoming ∙ sym k.carry_is;
      loads_are = two.loads_are ∙ same_loads cpu same 16 incoming ∙ sym k.loads_are;
    }
