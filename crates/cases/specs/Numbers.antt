-- The numbers of the cases, as they are read.
use Rattle.laws.specs.Prelude.{List, ℕ, Float, binary32, of_bits, ℤ, sub_ℕ, replicate}

-- the whole number -n
abbrev pub neg : ℕ → ℤ
neg n = sub_ℕ 0 n

-- coverages, by their bits as binary32 numbers (IEEE 754-2019): 0, 0.5, 0.6328125, which is 324 / 512, and 1
abbrev pub uncovered : Float
uncovered = of_bits binary32 0

abbrev pub half : Float
half = of_bits binary32 0x3F000000

abbrev pub of324 : Float
of324 = of_bits binary32 0x3F220000

abbrev pub whole : Float
whole = of_bits binary32 0x3F800000

-- a plane of 0.5
abbrev pub half_plane : List Float
half_plane = replicate 256 half

-- a cover of one number in all 16 rows
abbrev pub sixteen : ℤ → List ℤ
sixteen z = replicate 16 z
