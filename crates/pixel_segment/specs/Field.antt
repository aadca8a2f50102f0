-- The fields of a packed word. A table says how many bits each has, highest first: tile y, tile x, layer id, local x, local y, double area
-- multiplier, cover. Every definition takes the table as a parameter: tiles of another height have another one.
-- Stands for the clause on the seven field widths, and for 'cover is signed, -32 to 31', 'double area is multiplier × cover'.
use Rattle.std.specs.Prelude.{◌∷◌, ◌+◌, ◌-◌, ◌/◌, ◌%◌, ◌^◌, ◌*ℤ◌}
use Rattle.laws.specs.Prelude.{List, [], ℕ, get_or, drop, ℤ, pos, sub_ℕ}
use Rattle.pixel_segment.specs.declared.consts.Layout.{Layout}
use Rattle.pixel_segment.specs.declared.consts.Layout.TheVariants.{Cpu, Gpu}
use Rattle.pixel_segment.specs.declared.consts.BitField.{BitField}
use Rattle.pixel_segment.specs.declared.consts.BitField.TheVariants.{TileY, TileX, LayerId, LocalX, LocalY, DoubleAreaMultiplier, Cover}

-- the widths of the fields for tiles 16 pixels wide and 2^k high: what a local y has less, tile y has more
abbrev pub widths_at : ℕ → List ℕ
widths_at k = (15 - k) ∷ 12 ∷ 21 ∷ 4 ∷ k ∷ 6 ∷ 6 ∷ []

-- those for tiles of 16 by 16 pixels, and those for tiles 4 high: `widths_at` 4 and 2 (proofs/Widths)
abbrev pub cpu : List ℕ
cpu = 11 ∷ 12 ∷ 21 ∷ 4 ∷ 4 ∷ 6 ∷ 6 ∷ []

abbrev pub gpu : List ℕ
gpu = 13 ∷ 12 ∷ 21 ∷ 4 ∷ 2 ∷ 6 ∷ 6 ∷ []

abbrev pub widths_of : Layout → List ℕ
widths_of Cpu = cpu
widths_of Gpu = gpu

-- a field's place in the table
abbrev pub index_of : BitField → ℕ
index_of TileY = 0
index_of TileX = 1
index_of LayerId = 2
index_of LocalX = 3
index_of LocalY = 4
index_of DoubleAreaMultiplier = 5
index_of Cover = 6

abbrev pub sum : List ℕ → ℕ
sum [] = 0
sum (x ∷ xs) = x + sum xs

-- the bits below field k: the widths after it, summed
abbrev pub shift_of : List ℕ → ℕ → ℕ
shift_of ws k = sum (drop (k + 1) ws)

abbrev pub width_of : List ℕ → ℕ → ℕ
width_of ws k = get_or ws k 0

-- field k of the word w
abbrev pub field_of : List ℕ → ℕ → ℕ → ℕ
field_of ws k w = w / 2 ^ shift_of ws k % 2 ^ width_of ws k

-- ---- the fields by name. Tile numbers are stored plus 1, and stay so in the definitions: `tile_of` takes the 1 off

abbrev pub tile_y_of : List ℕ → ℕ → ℕ
tile_y_of ws w = field_of ws 0 w

abbrev pub tile_x_of : List ℕ → ℕ → ℕ
tile_x_of ws w = field_of ws 1 w

abbrev pub layer_id_of : List ℕ → ℕ → ℕ
layer_id_of ws w = field_of ws 2 w

abbrev pub local_x_of : List ℕ → ℕ → ℕ
local_x_of ws w = field_of ws 3 w

abbrev pub local_y_of : List ℕ → ℕ → ℕ
local_y_of ws w = field_of ws 4 w

abbrev pub multiplier_of : List ℕ → ℕ → ℕ
multiplier_of ws w = field_of ws 5 w

-- a tile number, of its stored form
unfoldable pub tile_of : ℕ → ℤ
tile_of n = sub_ℕ n 1

-- a field of k bits as a signed number: that number plus 2^(k-1) is the field plus 2^(k-1), modulo 2^k
abbrev pub signed_of : ℕ → ℕ → ℤ
signed_of k n = sub_ℕ ((n + 2 ^ (k - 1)) % 2 ^ k) (2 ^ (k - 1))

unfoldable pub cover_of : List ℕ → ℕ → ℤ
cover_of ws w = signed_of (width_of ws 6) (field_of ws 6 w)

unfoldable pub double_area_of : List ℕ → ℕ → ℤ
double_area_of ws w = pos (multiplier_of ws w) *ℤ cover_of ws w
