-- Doubled areas, weights and coverages. Stands for document 01, 'the weight is a whole number from 0 to 512', 'exact in binary32', 'SVG 2's fill-rule', and
-- for W-201 and W-205.
use Rattle.std.specs.Prelude.{◌≡◌, ◌+◌, ◌≤◌, ◌*◌, ◌<◌, ◌+ℤ◌, ◌*ℤ◌}
use Rattle.laws.specs.Prelude.{List, cond, true, false, ℕ, ℤ, nat_abs, pos, HasValue, fits, binary32, mul, of_int}
use Rattle.laws.specs.Prelude.{of_bits, ltb, modℤ}
use Rattle.pixel_segment.specs.Field.{width_of}
use Rattle.cover_statements.specs.Carry.{load_in}
use Rattle.cover_statements.specs.Area.{doubled_area}
use Rattle.cover_statements.specs.Weight.{even_odd_of, weight_of, is_inside}
use Rattle.styling.specs.declared.FillRule.{FillRule}
use Rattle.cover_statements.specs.Cover.{Agrees, full_at}
use Rattle.cover_statements.specs.Coverage.{coverage_of, is_above}
use Rattle.styling.specs.declared.FillRule.TheVariants.{EvenOdd}

pub record Weights : Type 0 where
  -- where number 9 does not apply, |d| is at most 8,001
  pub area_bound : (ws : List ℕ) (six : width_of ws 5 ≡ 6) → (incoming : ℕ → ℤ) (part : List ℕ) (c y : ℕ) →
      nat_abs (incoming y) + load_in ws y part ≤ 127 → nat_abs (doubled_area ws incoming part c y) ≤ 8001
  pub even_odd_shift : (d k : ℤ) → even_odd_of (d +ℤ pos 1024 *ℤ k) ≡ even_odd_of d
  -- covers that agree give one weight, with the same covers and double areas beside them
  pub weight_agree : (rule : FillRule) (a b left own : ℤ) → Agrees rule a b →
      weight_of rule (pos 32 *ℤ (a +ℤ left) +ℤ own) ≡ weight_of rule (pos 32 *ℤ (b +ℤ left) +ℤ own)
  pub winding_weight : (rule : FillRule) (k : ℤ) → weight_of rule (pos 32 *ℤ (pos 16 *ℤ k)) ≡ cond (is_inside rule k) 512 0
  pub winding_full : (rule : FillRule) (k : ℤ) → full_at rule (pos 16 *ℤ k) ≡ is_inside rule k
  pub full_weight : (rule : FillRule) (cover : ℤ) → full_at rule cover ≡ true → weight_of rule (pos 32 *ℤ cover) ≡ 512
  pub weight_full : (rule : FillRule) (cover : ℤ) → weight_of rule (pos 32 *ℤ cover) ≡ 512 → full_at rule cover ≡ true
  -- it is finite, not negative, and the fraction weight / 512: nothing is rounded
  pub coverage_value : (weight : ℕ) → HasValue (coverage_of weight) false (weight * 1) 512
  pub coverage_fits : (weight : ℕ) → weight ≤ 512 → fits binary32 (coverage_of weight) ≡ true
  -- the product of a weight and 1/512, both in binary32, is the coverage
  pub coverage_product : (weight : ℕ) → weight ≤ 512 → mul binary32 (of_int binary32 (pos weight)) (of_bits binary32 0x3B000000) ≡ coverage_of weight
  -- a coverage is above 0 exactly where its weight is
  pub coverage_above : (weight : ℕ) → weight ≤ 512 → is_above (coverage_of weight) ≡ ltb 0 weight
  -- the weight of d is the one beside its remainder
  pub curve_of_d : (d : ℤ) → weight_of EvenOdd d ≡ weight_of EvenOdd (pos (modℤ 1024 d))
  -- the greatest weight is 512, at 512 alone
  pub at_512 : weight_of EvenOdd (pos 512) ≡ 512
  pub greatest : (rest : ℕ) → rest < 1024 → (rest ≡ 512 → ⊥) → weight_of EvenOdd (pos rest) < 512
