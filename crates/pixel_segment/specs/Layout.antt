-- Tables of widths that the laws take: seven of them, the last a signed field's; and tables in which the fields that order compares are read from its key.
-- Stands for W-213, 'facts about fields and sums are shown over the tile height'.
use Rattle.std.specs.Prelude.{◌≡◌, ◌/◌, ◌%◌, ◌^◌, ◌≤◌, ◌<◌}
use Rattle.laws.specs.Prelude.{List, ℕ, ℤ, length, given}
use Rattle.pixel_segment.specs.Field.{width_of, sum, tile_x_of, tile_y_of, layer_id_of}
use Rattle.pixel_segment.specs.Pack.{pack_of}
use Rattle.pixel_segment.specs.Order.{order_key, compare_of, compareℤ, then_by}

-- a table of seven widths, whose last is a signed field's
pub record Layout (ws : List ℕ) : Type 0 where
  pub seven : length ws ≡ 7
  pub signed : 1 ≤ width_of ws 6

-- the fields of a word, by its key
pub record Keyed (ws : List ℕ) : Type 0 where
  pub layer_id : (w : ℕ) → layer_id_of ws w ≡ order_key ws w % 2 ^ 21
  pub tile_x : (w : ℕ) → tile_x_of ws w ≡ order_key ws w / 2 ^ 21 % 2 ^ 12
  pub tile_y : (w : ℕ) → w < 2 ^ 64 → tile_y_of ws w ≡ order_key ws w / 2 ^ 33
  pub sixty_four : sum ws ≡ 64

-- words that packing accepts compare as tile y, then tile x, then layer do
abbrev pub Compared : List ℕ → Type 0
Compared ws = (layer tx ty x y m c layer' tx' ty' x' y' m' c' : ℤ) (v w : ℕ)
    → pack_of ws layer tx ty x y m c ≡ given v → pack_of ws layer' tx' ty' x' y' m' c' ≡ given w
    → compare_of (order_key ws v) (order_key ws w) ≡ then_by (compareℤ ty ty') (then_by (compareℤ tx tx') (compareℤ layer layer'))
