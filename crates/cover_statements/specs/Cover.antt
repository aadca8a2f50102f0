-- A cover, a whole number for each pixel row of a tile: when it is empty and when it is full by a rule. Stands for P6, for 'a carry is
-- dropped when empty: NonZero, all zero; EvenOdd, all multiples of 32', and for W-205, 'full when each row's absolute value is 16 or more'.
use Rattle.std.specs.Prelude.{◌≡◌}
use Rattle.laws.specs.Prelude.{Bool, List, ℕ, eqb, leb, ℤ, pos, nat_abs, get_or, replicate, modℤ, all}
use Rattle.styling.specs.declared.FillRule.{FillRule}
use Rattle.styling.specs.declared.FillRule.TheVariants.{NonZero, EvenOdd}

-- the cover of pixel row y; a row that the list lacks has 0
abbrev pub cover_at : List ℤ → ℕ → ℤ
cover_at covers y = get_or covers y (pos 0)

-- no cover in any of n rows: what a layer without a carry has
unfoldable pub no_cover : ℕ → List ℤ
no_cover n = replicate n (pos 0)

-- a row's cover that leaves all to its right outside
abbrev pub empty_at : FillRule → ℤ → Bool
empty_at NonZero cover = eqb (nat_abs cover) 0
empty_at EvenOdd cover = eqb (modℤ 32 cover) 0

-- a row's cover that is full, 16 or more either way for NonZero (W-205: once around or more) and an odd multiple of 16 for EvenOdd: the one
-- place that says what full means
abbrev pub full_at : FillRule → ℤ → Bool
full_at NonZero cover = leb 16 (nat_abs cover)
full_at EvenOdd cover = eqb (modℤ 32 cover) 16

unfoldable pub is_empty : FillRule → List ℤ → Bool
is_empty rule covers = all (empty_at rule) covers

unfoldable pub is_full : FillRule → List ℤ → Bool
is_full rule covers = all (full_at rule) covers

-- what a rule sees of two covers is the same: NonZero sees the number, EvenOdd its remainder by 32
abbrev pub Agrees : FillRule → ℤ → ℤ → Type 0
Agrees NonZero a b = a ≡ b
Agrees EvenOdd a b = modℤ 32 a ≡ modℤ 32 b
