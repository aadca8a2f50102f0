-- Two lists with the same words, each as often, are worked alike: order within a set carries no meaning. Over any widths and height.
-- Assumes nothing.
use Rattle.std.specs.Prelude.{◌≡◌, ◌||◌, ◌∷◌, ◌+◌, ◌*◌, ◌/◌, ◌%◌, ◌+ℤ◌, ◌*ℤ◌}
use Rattle.laws.proofs.Prelude.{refl, sym, ap, ap₂, ◌∙◌, Bool, true, false, cond, not, List, [], ℕ, arith}
use Rattle.laws.proofs.Prelude.{lt-ltb, le-ltb, ℤ, pos, nat_abs, eqb, ltb, length, all, count_by, both, left, right}
use Rattle.laws.proofs.Prelude.{sumℤ_same, sumℕ_same}
use Rattle.pixel_segment.specs.Field.{cover_of, double_area_of}
use Rattle.cover_statements.specs.Area.{is_before, is_own, doubled_area, areas_of}
use Rattle.cover_statements.specs.Carry.{in_row, abs_cover, cover_in, load_in, carry_of}
use Rattle.cover_statements.specs.Cover.{cover_at}
use Rattle.segment_set_statements.specs.Set.{is_word_held, loads_from}
use Rattle.segment_set_statements.specs.Kept.{SameWords}
use Rattle.segment_set_statements.proofs.Lists.{tabulate_ext}

pub same_refl : (xs : List ℕ) → SameWords xs xs
same_refl xs = record { at = λ v. refl }

pub same_sym : {xs ys : List ℕ} → SameWords xs ys → SameWords ys xs
same_sym s = record { at = λ v. sym (s.at v) }

pub same_trans : {xs ys zs : List ℕ} → SameWords xs ys → SameWords ys zs → SameWords xs zs
same_trans s t = record { at = λ v. s.at v ∙ t.at v }

module _ (ws : List ℕ) {xs ys : List ℕ} (s : SameWords xs ys) where
  -- d of a pixel, and the covers and the load of a pixel row
  pub same_area : (incoming : ℕ → ℤ) (c y : ℕ) → doubled_area ws incoming xs c y ≡ doubled_area ws incoming ys c y
  unfolding doubled_area
  same_area incoming c y =
      ap₂ (λ (b o : ℤ). pos 32 *ℤ (incoming y +ℤ b) +ℤ o)
      (sumℤ_same (is_before ws c y) (cover_of ws) xs ys s.at)
      (sumℤ_same (is_own ws c y) (double_area_of ws) xs ys s.at)

  pub same_cover : (y : ℕ) → cover_in ws y xs ≡ cover_in ws y ys
  same_cover y = sumℤ_same (in_row ws y) (cover_of ws) xs ys s.at

  pub same_load : (y : ℕ) → load_in ws y xs ≡ load_in ws y ys
  same_load y = sumℕ_same (in_row ws y) (abs_cover ws) xs ys s.at

  -- all d, the carry, the loads, and number 9
  pub same_areas : (n : ℕ) (incoming : ℕ → ℤ) → areas_of ws n incoming xs ≡ areas_of ws n incoming ys
  unfolding areas_of
  same_areas n incoming =
      tabulate_ext (16 * n) (λ k. doubled_area ws incoming xs (k / n) (k % n)) (λ k. doubled_area ws incoming ys (k / n) (k % n))
      (λ k h. same_area incoming (k / n) (k % n))

  pub same_carry : (n : ℕ) (covers : List ℤ) → carry_of ws n covers xs ≡ carry_of ws n covers ys
  unfolding carry_of
  same_carry n covers =
      tabulate_ext n (λ y. cover_at covers y +ℤ cover_in ws y xs) (λ y. cover_at covers y +ℤ cover_in ws y ys)
      (λ y h. ap (λ (z : ℤ). cover_at covers y +ℤ z) (same_cover y))

  pub same_loads : (n : ℕ) (covers : List ℤ) → loads_from ws n covers xs ≡ loads_from ws n covers ys
  unfolding loads_from
  same_loads n covers =
      tabulate_ext n (λ y. nat_abs (cover_at covers y) + load_in ws y xs) (λ y. nat_abs (cover_at covers y) + load_in ws y ys)
      (λ y h. ap (λ (l : ℕ). nat_abs (cover_at covers y) + l) (same_load y))

-- ---- how many words they are, and whether one is held

all_counted : (xs : List ℕ) → count_by (λ w. true) xs ≡ length xs
all_counted [] = refl
all_counted (x ∷ xs) = omega (arith, all_counted xs)

pub same_length : {xs ys : List ℕ} → SameWords xs ys → length xs ≡ length ys
same_length {xs} {ys} s = sym (all_counted xs) ∙ sumℕ_same (λ w. true) (λ w. 1) xs ys s.at ∙ all_counted ys

held_counted : (w : ℕ) (xs : List ℕ) → is_word_held w xs ≡ ltb 0 (count_by (λ v. eqb v w) xs)
held_counted w [] = sym (le-ltb 0 0 (omega arith))
held_counted w (x ∷ xs) = by (eqb x w) (held_counted w xs)
  where
    by : (t : Bool) → is_word_held w xs ≡ ltb 0 (count_by (λ v. eqb v w) xs) → (t || is_word_held w xs) ≡ ltb 0 (cond t 1 0 + count_by (λ v. eqb v w) xs)
    by true e = sym (lt-ltb 0 (1 + count_by (λ v. eqb v w) xs) (omega arith))
    by false e =
        let n = count_by (λ v. eqb v w) xs in
        let none : n ≡ 0 + n = omega arith in
        e ∙ ap (ltb 0) none

pub same_held : (w : ℕ) {xs ys : List ℕ} → SameWords xs ys → is_word_held w xs ≡ is_word_held w ys
same_held w {xs} {ys} s =
    held_counted w xs ∙ ap (ltb 0) (sumℕ_same (λ v. eqb v w) (λ v. 1) xs ys s.at) ∙ sym (held_counted w ys)

-- ---- a test of every word

counted : (p : ℕ → Bool) (xs : List ℕ) → all p xs ≡ true → count_by (λ w. not (p w)) xs ≡ 0
counted p [] h = refl
counted p (x ∷ xs) h = rw (left (p x) (all p xs) h) (omega (arith, counted p xs (right (p x) (all p xs) h)))

uncounted : (p : ℕ → Bool) (xs : List ℕ) → count_by (λ w. not (p w)) xs ≡ 0 → all p xs ≡ true
uncounted p [] h = refl
uncounted p (x ∷ xs) h = both (p x) (all p xs) (by (p x) h) (uncounted p xs (omega arith))
  where
    by : (t : Bool) → cond (not t) 1 0 + count_by (λ w. not (p w)) xs ≡ 0 → t ≡ true
    by true e = refl
    by false e = absurd (omega arith)

pub same_all : (p : ℕ → Bool) {xs ys : List ℕ} → SameWords xs ys → all p xs ≡ true → all p ys ≡ true
same_all p {xs} {ys} s h =
    uncounted p ys (sym (sumℕ_same (λ w. not (p w)) (λ w. 1) xs ys s.at) ∙ counted p xs h)
