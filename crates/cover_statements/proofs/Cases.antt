-- Document 01's cases of covers and coverages, P6, P9, P10 and P11, and both sides of the edge of number 9, over the definitions that the
-- contracts cite. Assumes nothing.
use Rattle.std.specs.Prelude.{◌≡◌, ◌∷◌}
use Rattle.laws.proofs.Prelude.{refl, true, false, List, [], ℕ, binary32, odd, of_bits, ℤ, pos, negsuc, replicate, refused, given}
use Rattle.pixel_segment.specs.Field.{cpu, cover_of}
use Rattle.pixel_segment.specs.Pack.{word_of}
use Rattle.styling.specs.declared.FillRule.TheVariants.{NonZero, EvenOdd}
use Rattle.cover_statements.specs.Carry.{is_light, carry_of, add_of}
use Rattle.cover_statements.specs.Cover.{is_empty, is_full}
use Rattle.cover_statements.specs.Coverage.{coverage_of, area_coverage}

-- a cover of one number in all 16 rows; -k is negsuc (k - 1)
abbrev sixteen : ℤ → List ℤ
sixteen z = replicate 16 z

-- P6, with W-205: sixteen of 32 are empty under EvenOdd and full under NonZero; sixteen of -16, and of 48, are full under both
pub P6_empty : (is_empty EvenOdd (sixteen (pos 32)) ≡ true) × (is_empty NonZero (sixteen (pos 32)) ≡ false) × (is_full EvenOdd (sixteen (pos 32)) ≡ false) × (is_full NonZero (sixteen (pos 32)) ≡ true)
unfolding is_empty is_full
P6_empty = (refl, refl, refl, refl)

pub P6_full : (is_full NonZero (sixteen (negsuc 15)) ≡ true) × (is_full EvenOdd (sixteen (negsuc 15)) ≡ true)
unfolding is_full
P6_full = (refl, refl)

pub P6_double : (is_full EvenOdd (sixteen (pos 48)) ≡ true) × (is_full NonZero (sixteen (pos 48)) ≡ true)
unfolding is_full
P6_double = (refl, refl)

-- -128, which has no opposite in a byte: a multiple of 32, and full under NonZero
pub lowest : (is_empty EvenOdd (sixteen (negsuc 127)) ≡ true) × (is_empty NonZero (sixteen (negsuc 127)) ≡ false) × (is_full EvenOdd (sixteen (negsuc 127)) ≡ false) × (is_full NonZero (sixteen (negsuc 127)) ≡ true)
unfolding is_empty is_full
lowest = (refl, refl, refl, refl)

-- P9: NonZero 256 gives 0.5, -512 gives 1; against the bit patterns of IEEE 754
pub P9 : (area_coverage NonZero (pos 256) ≡ of_bits binary32 0x3F000000) × (area_coverage NonZero (negsuc 511) ≡ of_bits binary32 0x3F800000)
unfolding coverage_of of_bits odd
P9 = (refl, refl)

-- P10: EvenOdd 700 gives 0.6328125, -256 gives 0.5, 1,024 gives 0
pub P10 : (area_coverage EvenOdd (pos 700) ≡ of_bits binary32 0x3F220000) × (area_coverage EvenOdd (negsuc 255) ≡ of_bits binary32 0x3F000000) × (area_coverage EvenOdd (pos 1024) ≡ of_bits binary32 0)
unfolding coverage_of of_bits odd
P10 = (refl, refl, refl)

-- a segment of layer 5, tile 2, in pixel row 0, with the cover c
abbrev in_row0 : ℤ → ℕ
in_row0 c = word_of cpu 5 (pos 2) (pos 0) 3 0 32 c

-- P11: incoming 16 in each row and one segment of cover -16 in row 0 hand on 0, then fifteen times 16
pub P11 : add_of cpu 16 (sixteen (pos 16)) (in_row0 (negsuc 15) ∷ []) ≡ given (pos 0 ∷ replicate 15 (pos 16))
unfolding is_light carry_of cover_of
P11 = refl

-- number 9: 120 and -8 are refused, though their sum is 112; 119 and -8 pass
pub refused_9 : add_of cpu 16 (sixteen (pos 120)) (in_row0 (negsuc 7) ∷ []) ≡ refused 9
unfolding is_light cover_of
refused_9 = refl

pub passed_9 : add_of cpu 16 (sixteen (pos 119)) (in_row0 (negsuc 7) ∷ []) ≡ given (pos 111 ∷ replicate 15 (pos 119))
unfolding is_light carry_of cover_of
passed_9 = refl
