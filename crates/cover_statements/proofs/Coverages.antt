-- Laws of the coverages: a coverage is its weight over 512, binary32 holds it, the code's product is it, and which are above 0. What is said of
-- all 513 weights is one test that antt computes. Assumes nothing.
use Rattle.std.specs.Prelude.{◌≡◌, ◌*◌, ◌≤◌}
use Rattle.laws.proofs.Prelude.{refl, Bool, true, false, Bool·beq, ℕ, arith, ltb, binary32, fits, odd, mul, of_int, of_bits, lt}
use Rattle.laws.proofs.Prelude.{HasValue, pos, every_at}
use lib.Ieee.Exact.{odd_sign}
use Rattle.cover_statements.specs.Coverage.{coverage_of, is_above}
use Rattle.cover_statements.proofs.Floats.{bool_is, same_float, float_is}

-- it is finite, not negative, and the fraction weight / 512: nothing is rounded
pub coverage_value : (weight : ℕ) → HasValue (coverage_of weight) false (weight * 1) 512
unfolding coverage_of
coverage_value weight = odd_sign 10 false weight 0 9

held : ℕ → Bool
held weight = fits binary32 (coverage_of weight)

pub coverage_fits : (weight : ℕ) → weight ≤ 512 → fits binary32 (coverage_of weight) ≡ true
unfolding held coverage_of fits odd
coverage_fits weight h = every_at 513 held refl weight (omega arith)

-- 0x3B000000 is the bit pattern of 1/512
exact : ℕ → Bool
exact weight = same_float (mul binary32 (of_int binary32 (pos weight)) (of_bits binary32 0x3B000000)) (coverage_of weight)

-- the product of a weight and 1/512, both in binary32, is the coverage
pub coverage_product : (weight : ℕ) → weight ≤ 512 → mul binary32 (of_int binary32 (pos weight)) (of_bits binary32 0x3B000000) ≡ coverage_of weight
unfolding exact mul of_int of_bits coverage_of
coverage_product weight h = float_is _ _ (every_at 513 exact refl weight (omega arith))

told : ℕ → Bool
told weight = Bool·beq (is_above (coverage_of weight)) (ltb 0 weight)

-- a coverage is above 0 exactly where its weight is
pub coverage_above : (weight : ℕ) → weight ≤ 512 → is_above (coverage_of weight) ≡ ltb 0 weight
unfolding told coverage_of of_bits lt
coverage_above weight h = bool_is _ _ (every_at 513 told refl weight (omega arith))

-- weight 0 is 0.0, and weight 512 is 1.0
pub coverage_zero : coverage_of 0 ≡ of_bits binary32 0
unfolding coverage_of of_bits odd
coverage_zero = refl

pub coverage_one : coverage_of 512 ≡ of_bits binary32 0x3F800000
unfolding coverage_of of_bits odd
coverage_one = refl
