-- P8 and P12, and the other cases of document 01 on cached tiles, as theorems over the definitions. Assumes nothing.
use Rattle.std.specs.Prelude.{◌≡◌, ◌∷◌}
use Rattle.laws.proofs.Prelude.{refl, true, false, List, [], Some, None, ℕ, eq-eqb, refused, given}
use Rattle.cached_tile.specs.declared.CachedTile.{CachedTile}
use Rattle.cached_tile.specs.declared.kept.Kept.{Kept}
use Rattle.cached_tile.specs.Tile.{layer_count_of, update_count, update_color}
use Rattle.cached_tile.specs.Kept.{write, keep, settle_of, settled_kept, cleared}

-- a tile with a tag, any count and any colour, and that tile given
abbrev pub tile_of : ℕ → List ℕ → List ℕ → CachedTile
tile_of tags count color = record { tags = tags; layer_count = count; solid_color = color }

abbrev pub kept_of : ℕ → List ℕ → List ℕ → Kept
kept_of tags count color = record { given = true; tile = tile_of tags count color }

-- P8: 16,777,217 is kept as 1
pub P8_low_bits : (count color : List ℕ) → layer_count_of (update_count (tile_of 0 count color) (Some 16777217)) ≡ Some 1
P8_low_bits count color = refl

-- P8: a cleared tag leaves its bytes
module _ (t : CachedTile) (bytes : List ℕ) where
  pub P8_count_left : (update_count t None).layer_count ≡ t.layer_count
  P8_count_left = refl

  pub P8_color_left : (update_color t (record { given = false; bytes = bytes })).solid_color ≡ t.solid_color
  P8_color_left = refl

-- P12: from tag 0, the same bytes settled twice: write, then keep
module _ (count was : List ℕ) (r g b a : ℕ) where
  abbrev pub bytes : List ℕ
  bytes = r ∷ g ∷ b ∷ a ∷ []

  pub P12_write : settle_of (kept_of 0 count was) bytes ≡ given write
  P12_write = refl

  pub P12_keep : settle_of (settled_kept (kept_of 0 count was) bytes) bytes ≡ given keep
  P12_keep = rw (eq-eqb r r refl, eq-eqb g g refl, eq-eqb b b refl, eq-eqb a a refl) refl

-- without a cached tile settling says write, whatever the tile's bytes
pub settle_without : (t : CachedTile) (color : List ℕ) → settle_of (record { given = false; tile = t }) color ≡ given write
settle_without t color = refl

-- the same bytes under a tag that keeps no colour are written
pub settle_tag_2 : (count color : List ℕ) → settle_of (kept_of 2 count color) color ≡ given write
settle_tag_2 count color = refl

-- tag 4 is refused by 6, and nothing changes
pub settle_tag_4 : (count color display : List ℕ) → settle_of (kept_of 4 count color) display ≡ refused 6
settle_tag_4 count color display = refl

pub settle_tag_4_same : (count color display : List ℕ) → settled_kept (kept_of 4 count color) display ≡ kept_of 4 count color
settle_tag_4_same count color display = refl

-- a tile that is painted keeps its count and its colour bytes, and tag 1 is cleared
pub painted : (count color : List ℕ) → cleared (kept_of 3 count color) ≡ kept_of 2 count color
painted count color = refl
