-- Laws of the tables of widths over the tile height 2^k, and the ranges of the fields; those of `cpu` are their uses at 4. Assumes nothing.
use Rattle.std.specs.Prelude.{◌≡◌, ◌∷◌, ◌+◌, ◌-◌, ◌*◌, ◌/◌, ◌^◌, ◌%◌, ◌≤◌, ◌<◌}
use Rattle.laws.proofs.Prelude.{refl, ap, sym, ◌∙◌, List, [], ℕ, zero, suc, max, mul-le-mul, mod-lt}
use Rattle.laws.proofs.Prelude.{lt_of_lt_of_le, add-one, arith, digits_lt, lit<, lit≤, ℤ, nat_abs, get_or, drop, length, pow-add, pow_mono, pow_pos}
use Rattle.laws.proofs.Prelude.{drop-cons, w8, w16, SFits, plus, minus, sfits, small, difference, abs_times}
use Rattle.std.proofs.Common.{one-mul, shl_exact}
use Rattle.laws.proofs.Parts.{Whole, Difference}
use Rattle.pixel_segment.specs.Field.{sum, cpu, gpu, widths_at, widths_of, index_of, width_of, shift_of, field_of}
use Rattle.pixel_segment.specs.Field.{tile_of, layer_id_of, cover_of, multiplier_of, double_area_of}
use Rattle.pixel_segment.specs.declared.consts.Layout.{Layout}
use Rattle.pixel_segment.specs.declared.consts.Layout.TheVariants.{Cpu, Gpu}
use Rattle.pixel_segment.specs.declared.consts.BitField.{BitField}
use Rattle.pixel_segment.specs.declared.consts.BitField.TheVariants.{TileY, TileX, LayerId, LocalX, LocalY, DoubleAreaMultiplier, Cover}

-- the two tables are those of tiles 2^4 and 2^2 pixels high
pub cpu_at : cpu ≡ widths_at 4
cpu_at = refl

pub gpu_at : gpu ≡ widths_at 2
gpu_at = refl

pub sum_drop_le : (k : ℕ) (l : List ℕ) → sum (drop k l) ≤ sum l
sum_drop_le zero l = omega arith
sum_drop_le (suc k) [] = omega arith
sum_drop_le (suc k) (x ∷ xs) = omega (arith, sum_drop_le k xs)

pub sum_step : (i : ℕ) (l : List ℕ) → i < length l → sum (drop i l) ≡ get_or l i 0 + sum (drop (i + 1) l)
sum_step i l h = rw (add-one) (ap sum (drop-cons l i 0 h))

pub sum_drop_mono : (i j : ℕ) (l : List ℕ) → i ≤ j → sum (drop j l) ≤ sum (drop i l)
sum_drop_mono zero j l h = sum_drop_le j l
sum_drop_mono (suc i) zero l h = absurd (omega arith)
sum_drop_mono (suc i) (suc j) [] h = omega arith
sum_drop_mono (suc i) (suc j) (x ∷ xs) h = sum_drop_mono i j xs (omega arith)

pub sum_past : (k : ℕ) (l : List ℕ) → length l ≤ k → sum (drop k l) ≡ 0
sum_past zero [] h = refl
sum_past zero (x ∷ xs) h = absurd (omega arith)
sum_past (suc k) [] h = refl
sum_past (suc k) (x ∷ xs) h = sum_past k xs (omega arith)

-- every shift is below 64, where tile y has a bit
pub shift_lt_at : (k : ℕ) → k < 15 → (i : ℕ) → shift_of (widths_at k) i < 64
shift_lt_at k h i = rw add-one (omega (arith, sum_drop_le i (drop 1 (widths_at k))))

abbrev largest : List ℕ → ℕ
largest [] = 0
largest (x ∷ xs) = max x (largest xs)

get_d_le : (l : List ℕ) (i : ℕ) → get_or l i 0 ≤ largest l
get_d_le [] i = omega arith
get_d_le (x ∷ xs) zero = omega arith
get_d_le (x ∷ xs) (suc i) = omega (arith, get_d_le xs i)

-- no width is above 21
pub width_le_at : (k : ℕ) → k ≤ 15 → (i : ℕ) → width_of (widths_at k) i ≤ 21
width_le_at k h i = omega (arith, get_d_le (widths_at k) i)

-- a field has its place in the table
pub index_lt : (f : BitField) → index_of f < 7
index_lt TileY = omega arith
index_lt TileX = omega arith
index_lt LayerId = omega arith
index_lt LocalX = omega arith
index_lt LocalY = omega arith
index_lt DoubleAreaMultiplier = omega arith
index_lt Cover = omega arith

-- ---- the same of each layout

pub length_of : (l : Layout) → length (widths_of l) ≡ 7
length_of Cpu = refl
length_of Gpu = refl

pub cover_width : (l : Layout) → width_of (widths_of l) 6 ≡ 6
cover_width Cpu = refl
cover_width Gpu = refl

pub shift_lt_of : (l : Layout) (i : ℕ) → shift_of (widths_of l) i < 64
shift_lt_of Cpu i = shift_lt_at 4 (lit< tt) i
shift_lt_of Gpu i = shift_lt_at 2 (lit< tt) i

pub width_le_of : (l : Layout) (i : ℕ) → width_of (widths_of l) i ≤ 21
width_le_of Cpu i = width_le_at 4 (lit≤ tt) i
width_le_of Gpu i = width_le_at 2 (lit≤ tt) i

-- no field has more values than a layer id
pub size_le_of : (l : Layout) (i : ℕ) → 2 ^ width_of (widths_of l) i ≤ 2 ^ 21
size_le_of l i = pow_mono (width_le_of l i)

pub sum_le_of : (l : Layout) (i : ℕ) → sum (drop i (widths_of l)) ≤ 64
sum_le_of Cpu i = omega (arith, sum_drop_le i cpu)
sum_le_of Gpu i = omega (arith, sum_drop_le i gpu)

-- what reading a field asks of its shift and its size
pub readable : (l : Layout) (i : ℕ) {offset size : ℕ}
    → offset ≡ shift_of (widths_of l) i → size ≡ 2 ^ width_of (widths_of l) i → (offset < 64) × (0 < size) × (size < 2 ^ 32)
readable l i e f = (rw e (shift_lt_of l i), rw f (pow_pos (width_of (widths_of l) i)), omega (arith, f, size_le_of l i))

-- a field has as many bits as its width says
pub field_lt : (ws : List ℕ) (i w : ℕ) {n : ℕ} → width_of ws i ≤ n → field_of ws i w < 2 ^ n
field_lt ws i w h = lt_of_lt_of_le (mod-lt (w / 2 ^ shift_of ws i) (pow_pos (width_of ws i))) (pow_mono h)

pub layer_lt : (l : Layout) (w : ℕ) → layer_id_of (widths_of l) w < 2 ^ 21
layer_lt l w = field_lt (widths_of l) 2 w (width_le_of l 2)

-- the fields that order compares stand above others
pub key_above : (l : Layout) → 0 < shift_of (widths_of l) 2
key_above Cpu = omega arith
key_above Gpu = omega arith

-- 1 shifted left by less than 64
pub shifted : (k : ℕ) → k < 64 → (1 * 2 ^ k) % 2 ^ 64 ≡ 2 ^ k
shifted k h = shl_exact 1 k 64 (lit< tt) (omega arith) ∙ one-mul (2 ^ k)

-- a word with a field of k bits below it
pub joined_lt : (k : ℕ) {q r : ℕ} → k < 64 → q < 2 ^ (64 - k) → r < 2 ^ k → q * 2 ^ k + r < 2 ^ 64
joined_lt k {q} {r} h hq hr =
    let e : 64 - k + k ≡ 64 = omega arith in
    let p : 2 ^ (64 - k) * 2 ^ k ≡ 2 ^ 64 = sym (pow-add 2 (64 - k) k) ∙ ap (λ (n : ℕ). 2 ^ n) e in
    rw p at (digits_lt hq hr)

-- ---- the ranges of the signed fields

-- a tile number, of a stored one of at most 14 bits
pub tile_fits : (n : ℕ) → n < 2 ^ 14 → SFits w16 (tile_of n)
unfolding tile_of
tile_fits n h = sfits w16 (tile_of n) (omega (arith, difference n 1))

-- a cover is from -32 to 31
pub record InCover (z : ℤ) : Type 0 where
  pub above : plus z ≤ 31
  pub below : minus z ≤ 32
  pub whole : Whole z

pub in_cover_at : (k w : ℕ) → InCover (cover_of (widths_at k) w)
unfolding cover_of
in_cover_at k w = record { above = omega (arith, d); below = omega (arith, d); whole = d.whole }
  where
    d : Difference ((field_of (widths_at k) 6 w + 32) % 64) 32 (cover_of (widths_at k) w)
    d = difference ((field_of (widths_at k) 6 w + 32) % 64) 32

pub in_cover : (w : ℕ) → InCover (cover_of cpu w)
in_cover w = in_cover_at 4 w

pub cover_fits_at : (k w : ℕ) → SFits w8 (cover_of (widths_at k) w)
cover_fits_at k w = sfits w8 (cover_of (widths_at k) w) (omega (arith, in_cover_at k w))

pub cover_fits : (w : ℕ) → SFits w8 (cover_of cpu w)
cover_fits w = cover_fits_at 4 w

-- a double area is from -2,016 to 2,016
pub area_le_at : (k w : ℕ) → nat_abs (double_area_of (widths_at k) w) ≤ 2016
unfolding double_area_of
area_le_at k w = rw abs_times (mul-le-mul {n₁ = multiplier_of (widths_at k) w} {m₁ = nat_abs (cover_of (widths_at k) w)} {n₂ = 63} {m₂ = 32} (omega arith) (omega (arith, in_cover_at k w)))

pub area_le : (w : ℕ) → nat_abs (double_area_of cpu w) ≤ 2016
area_le w = area_le_at 4 w

pub area_fits_at : (k w : ℕ) → SFits w16 (double_area_of (widths_at k) w)
area_fits_at k w = small w16 (double_area_of (widths_at k) w) (omega (arith, area_le_at k w))

pub area_fits : (w : ℕ) → SFits w16 (double_area_of cpu w)
area_fits w = area_fits_at 4 w
