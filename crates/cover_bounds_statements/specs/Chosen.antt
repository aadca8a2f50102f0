-- Covers chosen within bounds: a part with each word's own cover replaced, and d of a pixel then. Stands for W-211, 'each segment comes with a lowest and
-- a highest cover in place of its own, each carry with a lowest and highest byte per row', and for 'any row chosen within the bounds'. The field
-- widths `ws` are a parameter; a cover is said of each segment's place in the part, and a carry of each pixel row.
use Rattle.std.specs.Prelude.{◌≡◌, ◌-◌, ◌^◌, ◌≤◌, ◌<◌}
use Rattle.laws.specs.Prelude.{Bool, true, cond, List, ℕ, leb, ℤ, nat_abs, length, get_or, plus, minus, is_within, AtMost}
use Rattle.laws.specs.Prelude.{tabulate}
use Rattle.pixel_segment.specs.Field.{width_of}
use Rattle.pixel_segment.specs.Pack.{with_cover}
use Rattle.cover_statements.specs.Area.{doubled_area}
use Rattle.cover_statements.specs.Carry.{is_light}
use Rattle.cover_statements.specs.Cover.{cover_at}

-- the part with these covers
unfoldable pub chosen : List ℕ → List ℕ → (ℕ → ℤ) → List ℕ
chosen ws part cover = tabulate (length part) (λ i. with_cover ws (get_or part i 0) (cover i))

-- d of the pixel in column c and row y with these covers: with every cover at its lowest it is the lowest d, with every cover at its highest the
-- highest, for multipliers are not negative
abbrev pub chosen_area : List ℕ → (ℕ → ℤ) → List ℕ → (ℕ → ℤ) → ℕ → ℕ → ℤ
chosen_area ws carry part cover c y = doubled_area ws carry (chosen ws part cover) c y

-- numbers that lie within their bounds, `count` of them
pub record InBounds (count : ℕ) (low high chosen : ℕ → ℤ) : Type 0 where
  pub at : (i : ℕ) → i < count → is_within (low i) (high i) (chosen i) ≡ true

-- covers that a word's field holds: at `cpu` -32 to 31
pub record HeldCovers (ws : List ℕ) (count : ℕ) (cover : ℕ → ℤ) : Type 0 where
  pub at : (i : ℕ) → i < count → (minus (cover i) ≤ 2 ^ (width_of ws 6 - 1)) × (plus (cover i) < 2 ^ (width_of ws 6 - 1))

-- the one of the greater absolute value
abbrev pub heavier : ℤ → ℤ → ℤ
heavier a b = cond (leb (nat_abs a) (nat_abs b)) b a

-- number 9 does not apply, 'the greater absolute value of each pair' taken
unfoldable pub is_light_within : List ℕ → ℕ → List ℤ → List ℤ → List ℕ → (ℕ → ℤ) → (ℕ → ℤ) → Bool
is_light_within ws n low high part lows highs =
    is_light ws n (tabulate n (λ y. heavier (cover_at low y) (cover_at high y))) (chosen ws part (λ i. heavier (lows i) (highs i)))

-- covers that are at most others, of each segment
pub record Ordered (count : ℕ) (f g : ℕ → ℤ) : Type 0 where
  pub at : (i : ℕ) → i < count → AtMost (f i) (g i)

-- a d that some choice within the bounds gives
pub record Reached (ws : List ℕ) (n : ℕ) (part : List ℕ) (lows highs carryLow carryHigh : ℕ → ℤ) (c y : ℕ) (d : ℤ) : Type 0 where
  pub cover : ℕ → ℤ
  pub carry : ℕ → ℤ
  pub covers_in : InBounds (length part) lows highs cover
  pub carry_in_lem : InBounds n carryLow carryHigh carry
  pub area_is : chosen_area ws carry part cover c y ≡ d
