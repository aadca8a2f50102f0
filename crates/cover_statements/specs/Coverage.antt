-- The coverage of a weight: the weight divided by 512, exactly, as a binary32 number (IEEE 754-2019).
use Rattle.laws.specs.Prelude.{Bool, false, ℕ, ℤ, Float, binary32, odd, of_bits, lt}
use Rattle.styling.specs.declared.FillRule.{FillRule}
use Rattle.cover_statements.specs.Weight.{weight_of}

-- weight × 2^0 / 2^9, not negative, a weight having at most ten digits; it is written in the one way that the toolchain writes a value, with
-- an odd significand. proofs/Coverages shows that this is weight / 512 and that binary32 holds it
unfoldable pub coverage_of : ℕ → Float
coverage_of weight = odd 10 false weight 0 9

-- the coverage of a doubled area by a rule
abbrev pub area_coverage : FillRule → ℤ → Float
area_coverage rule d = coverage_of (weight_of rule d)

-- a coverage is above 0
abbrev pub is_above : Float → Bool
is_above coverage = lt (of_bits binary32 0) coverage
