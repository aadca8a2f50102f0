-- Letting out, as the code judges it: by the place of the word among the held ones. Assumes nothing.
use Rattle.std.specs.Prelude.{◌≡◌, ◌≤◌, ◌<◌}
use Rattle.laws.proofs.Prelude.{sym, ap, ap₂, ◌∙◌, List, ⊎_elim, ℕ, min, arith, ltb-true, ltb, ℤ, length}
use Rattle.laws.proofs.Prelude.{take, length-take, take_all, le_or_lt}
use Rattle.refusals.specs.Refusal.{pass}
use Rattle.segment_set_statements.specs.Set.{state, held_of, is_word_held, held_place, let_verdict}
use Rattle.segment_set_statements.specs.InnerSpread.{let_verdict_by, Removable}
use Rattle.segment_set_statements.specs.declared.SegmentSet.{SegmentSet}
use Rattle.segment_set_statements.proofs.Keeping.{let_passed}
use Rattle.segment_set_statements.proofs.Places.{held_by_place}

take_min : {A : Type 0} (n : ℕ) (l : List A) → take (min n (length l)) l ≡ take n l
take_min {A = A} n l =
    ⊎_elim
    (λ (h : n ≤ length l). let e : min n (length l) ≡ n = omega arith in ap (λ (m : ℕ). take m l) e)
    (λ (h : length l < n). take_all (min n (length l)) l (omega arith) ∙ sym (take_all n l (omega arith)))
    (le_or_lt n (length l))

module _ (s : SegmentSet) (w : ℕ) (slots : List ℕ) (areas : List ℤ) {held place : ℕ} (count : held ≡ min s.count (length slots)) (found : place ≡ held_place w (take held slots)) where
  held_is : take held slots ≡ held_of (state s slots areas)
  unfolding held_of
  held_is = ap (λ (m : ℕ). take m slots) count ∙ take_min s.count slots

  number : held ≡ length (held_of (state s slots areas))
  number = sym (ap length (sym held_is) ∙ length-take held slots ∙ omega (arith, count))

  test : ltb place held ≡ is_word_held w (held_of (state s slots areas))
  test = ap₂ ltb (found ∙ ap (held_place w) held_is) number ∙ sym (held_by_place w (held_of (state s slots areas)))

  pub let_judged : let_verdict_by s w (ltb place held) areas ≡ let_verdict (state s slots areas) w
  unfolding let_verdict_by let_verdict
  let_judged = rw test

  pub let_ready : let_verdict (state s slots areas) w ≡ pass → Removable (state s slots areas) w place held
  let_ready e =
      let p = let_passed (state s slots areas) w e in
      record {
        room = p.room;
        place_is = found ∙ ap (held_place w) held_is;
        held_is = number;
        within = ltb-true place held (test ∙ p.held);
        long = omega (arith, count);
      }
