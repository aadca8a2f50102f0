-- The case of a number has that number, and the number of a case is in range and gives the case again. Assumes nothing.
use Rattle.std.specs.Prelude.{◌≡◌, ◌∷◌, ◌++◌, ◌≤◌, ◌<◌}
use Rattle.laws.proofs.Prelude.{refl, List, [], ℕ, zero, suc, not-suc-le-zero, le_of_suc-le-suc, arith, eqb-true, length}
use Rattle.laws.proofs.Prelude.{get_or, eqb, every_at}
use Rattle.styling.specs.Codes.{rule_code, rule_of, fill_code, fill_of, mode_code, mode_of}
use Rattle.styling.specs.declared.Color.{Color}
use Rattle.styling.specs.declared.FillRule.{FillRule}
use Rattle.styling.specs.declared.FillRule.TheVariants.{NonZero, EvenOdd}
use Rattle.styling.specs.declared.BlendMode.{BlendMode}
use Rattle.styling.specs.declared.BlendMode.TheVariants.{Over, Multiply, Screen, Overlay, Darken, Lighten, ColorDodge, ColorBurn, HardLight, SoftLight, Difference, Exclusion, Hue, Saturation, Luminosity}

-- from the last case on, a list of cases gives the last
pub last_case {ℓ} : {A : Type ℓ} (xs : List A) (d : A) (n : ℕ) → length xs ≤ n → get_or (xs ++ (d ∷ [])) n d ≡ d
last_case [] d zero h = refl
last_case [] d (suc n) h = refl
last_case (x ∷ xs) d zero h = absurd (not-suc-le-zero h)
last_case (x ∷ xs) d (suc n) h = last_case xs d n (le_of_suc-le-suc h)

-- a number that is none of 0, 1, .., k - 1, said one by one as the last arm of a `match` has it, is k or more
abbrev pub NoneBelow : ℕ → ℕ → Type 0
NoneBelow zero n = Unit {0}
NoneBelow (suc k) n = NoneBelow k n × (n ≡ k → ⊥)

pub none_below : (k n : ℕ) → NoneBelow k n → k ≤ n
none_below zero n h = omega arith
none_below (suc k) n h = let low : k ≤ n = none_below k n h.0 in let other : n ≡ k → ⊥ = h.1 in omega arith

pub rule_code_lem : (n : ℕ) → n < 2 → rule_code (rule_of n) ≡ n
rule_code_lem n h = eqb-true (rule_code (rule_of n)) n (every_at 2 (λ k. eqb (rule_code (rule_of k)) k) refl n h)

pub fill_code_lem : (c : Color) (n : ℕ) → n < 3 → fill_code (fill_of n c) ≡ n
fill_code_lem c n h = eqb-true (fill_code (fill_of n c)) n (every_at 3 (λ k. eqb (fill_code (fill_of k c)) k) refl n h)

pub mode_code_lem : (n : ℕ) → n < 16 → mode_code (mode_of n) ≡ n
mode_code_lem n h = eqb-true (mode_code (mode_of n)) n (every_at 16 (λ k. eqb (mode_code (mode_of k)) k) refl n h)

pub rule_of_lem : (r : FillRule) → rule_of (rule_code r) ≡ r
rule_of_lem NonZero = refl
rule_of_lem EvenOdd = refl

pub mode_of_lem : (m : BlendMode) → mode_of (mode_code m) ≡ m
mode_of_lem Over = refl
mode_of_lem Multiply = refl
mode_of_lem Screen = refl
mode_of_lem Overlay = refl
mode_of_lem Darken = refl
mode_of_lem Lighten = refl
mode_of_lem ColorDodge = refl
mode_of_lem ColorBurn = refl
mode_of_lem HardLight = refl
mode_of_lem SoftLight = refl
mode_of_lem Difference = refl
mode_of_lem Exclusion = refl
mode_of_lem Hue = refl
mode_of_lem Saturation = refl
mode_of_lem BlendMode.Color = refl
mode_of_lem Luminosity = refl
