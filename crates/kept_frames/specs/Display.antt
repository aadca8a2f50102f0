-- What stands in a tile of the caller's buffer, through works on it and settling: one colour in all 256 pixels, or something else. Stands for
-- '*solid* is settled by a second call with the four display bytes, which says write or keep'.
use Rattle.std.specs.Prelude.{◌≡◌, ◌≤◌}
use Rattle.laws.specs.Prelude.{true, List, ℕ, get_or}
use Rattle.cached_tile.specs.Tile.{empty_tile, solid_color_of, keep_count, drop_count, keep_color, drop_color}
use Rattle.cached_tile.specs.Kept.{Writing, keep_or_write, keeps_same}
use Rattle.cached_tile.specs.declared.CachedTile.{CachedTile}

-- four display bytes that agree
pub record SameDisplay (xs ys : List ℕ) : Type 0 where
  pub r : get_or xs 0 0 ≡ get_or ys 0 0
  pub g : get_or xs 1 0 ≡ get_or ys 1 0
  pub b : get_or xs 2 0 ≡ get_or ys 2 0
  pub a : get_or xs 3 0 ≡ get_or ys 3 0

pub data Display : Type 0 where
  solid : (bytes : List ℕ) → Display
  other : Display

-- the whole tile shows these bytes
abbrev pub ShowsBytes : Display → List ℕ → Type 0
ShowsBytes (Display.solid shown) bytes = SameDisplay shown bytes
ShowsBytes Display.other bytes = ⊥

-- a colour is kept only where the whole tile shows it
pub record KeepsShown (t : CachedTile) (d : Display) : Type 0 where
  pub tag : t.tags ≤ 3
  pub colour : (solid_color_of t).given ≡ true → ShowsBytes d t.solid_color

-- what a caller does with the answer of settling: the bytes are written into the whole tile, or the tile is left
abbrev pub displayed : Writing → List ℕ → Display → Display
displayed Writing.write bytes d = Display.solid bytes
displayed Writing.keep bytes d = d

-- ---- 'keep' is right, whatever flags, counts and crops said, where the caller settles every solid tile, obeys 'write', begins with tag 0 and draws
-- into the tile in no other way

pub record StaysShown (t : CachedTile) (d : Display) : Type 0 where
  -- *none*: the count is updated, and nothing is drawn
  pub none : (n : ℕ) → KeepsShown (keep_count t n) d
  -- the protocol: the count is dropped
  pub uncounted : KeepsShown (drop_count t) d
  -- *paint*: whatever is drawn, no colour is kept
  pub paint : (drawn : Display) → KeepsShown (drop_color t) drawn
  -- *solid*: 'keep' is said only where the whole tile shows the four bytes; and kept or written, it shows them then
  pub keep : (bytes : List ℕ) → keeps_same t bytes ≡ true → ShowsBytes d bytes
  pub settled : (bytes : List ℕ) → KeepsShown (keep_color t bytes) (displayed (keep_or_write (keeps_same t bytes)) bytes d)

abbrev pub SolidRight : Type 0
SolidRight = (t : CachedTile) (d : Display) → KeepsShown t d → StaysShown t d

-- the first frame: nothing is kept, whatever the buffer holds
abbrev pub FirstShown : Type 0
FirstShown = (d : Display) → KeepsShown empty_tile d
