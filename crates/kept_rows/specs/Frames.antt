-- Frames of a row of tiles with no flag told. Between frames stand: the row as it was last worked, with its table, revisions and clear colour, and how
-- many of its tiles count as worked; and of each tile its eight cached bytes. In a frame, today's flags are worked out from both rows (specs/Since); the
-- tile is worked with its count where it counts as worked, the row begins where that one began, and the keep rule allows it; else the count is dropped.
-- Then the tile is right after every frame: the caller's flags, crops, refusals and frames left out have no part in it. A frame that leaves the whole row
-- out is none of it.
use Rattle.std.specs.Prelude.{◌≡◌, ◌&&◌, ◌∷◌, ◌+◌, ◌-◌}
use Rattle.laws.specs.Prelude.{Bool, true, false, List, [], ℕ, suc, eqb, leb, ltb, get_or}
use Rattle.styling.specs.declared.Color.{Color}
use Rattle.cached_tile.specs.Tile.{empty_tile}
use Rattle.cached_tile.specs.declared.CachedTile.{CachedTile}
use Rattle.pass_statements.specs.Decision.{none}
use Rattle.row_statements.specs.Due.{OpenRow}
use Rattle.kept_frames.specs.Display.{Display}
use Rattle.kept_rows.specs.Shown.{WorkedTile}
use Rattle.kept_rows.specs.Since.{marked}
use Rattle.kept_rows.specs.History.{AcceptedWork, open_on, tile_number, worked_of, Standing, Drawing, drawn_at, lent_tile, kept_if, may_keep_tile, IsRight}

-- ---- what stands of a row

pub record LastRow : Type 0 where
  pub row : OpenRow
  pub revisions : List ℕ
  pub clear : Color
  pub worked : ℕ

-- of each tile of the row, from the first: whether it was decided with its cached tile lent, by an accepted work or an accepted deciding. The tiles that
-- count as worked are those up to the first that was not
unfoldable pub worked_count : List Bool → ℕ
worked_count [] = 0
worked_count (true ∷ decided) = suc (worked_count decided)
worked_count (false ∷ decided) = 0

abbrev pub is_decided : ℕ → List Bool → ℕ → Bool
is_decided from decided t = leb from t && get_or decided (t - from) false

-- the tile counts as worked then
abbrev pub is_within : LastRow → ℕ → Bool
is_within l t = leb l.row.from t && ltb t (l.row.from + l.worked)

-- and as what
abbrev pub last_tile : LastRow → ℕ → WorkedTile
last_tile l t = record { row = l.row; revisions = l.revisions; place = t - l.row.from; clear = l.clear }

-- ---- whether it may be kept by its count today; to drop the count is always right, and so is any count where the tile is drawn

abbrev pub may_stay : LastRow → ℕ → AcceptedWork → Bool
may_stay l t a = (eqb l.row.from (open_on a).from && is_within l t) && may_keep_tile (last_tile l t) (worked_of a)

abbrev pub tile_in : Standing → CachedTile
tile_in Standing.unworked = empty_tile
tile_in (Standing.worked tile display drawn last) = tile

-- what its place in the buffer displays; of a tile that was never drawn, anything
abbrev pub Displays : Standing → Display → Type 0
Displays Standing.unworked d = Unit {0}
Displays (Standing.worked tile display drawn last) d = display ≡ d

-- what was last drawn, once a work is decided
abbrev pub drawn_in : Standing → WorkedTile → WorkedTile
drawn_in Standing.unworked now = now
drawn_in (Standing.worked tile display drawn last) now = drawn

-- ---- a frame of the row, as tile t goes through it

-- what stands of the row once a tile is worked in it
abbrev pub last_by : AcceptedWork → List Bool → LastRow
last_by a decided = record { row = open_on a; revisions = a.revisions; clear = a.done.clear; worked = worked_count decided }

pub data RowFrame (t : ℕ) : LastRow → Standing → LastRow → Standing → Type 0 where
  -- the tile is worked, in a row whose flags are worked out
  works : {l : LastRow} {s : Standing} {k : CachedTile} {d d' : Display} (may : Bool) (today : OpenRow) (a : AcceptedWork) (decided : List Bool) →
      tile_number a ≡ t →
      open_on a ≡ marked l.row l.revisions today a.revisions →
      (may ≡ true → a.done.decision ≡ none → may_stay l t a ≡ true) →
      a.done.before ≡ lent_tile (kept_if may (tile_in s)) →
      Displays s d →
      Drawing a.done.decision a.done.after.tile d k d' →
      RowFrame t l s (last_by a decided) (Standing.worked k d' (drawn_at a.done.decision (drawn_in s (worked_of a)) (worked_of a)) (worked_of a))
  -- it is not: left out, turned down, not reached, or listed and not decided
  passes : {l l' : LastRow} {s : Standing} (decided : List Bool) → l'.worked ≡ worked_count decided → is_decided l'.row.from decided t ≡ false →
      RowFrame t l s l' s
  -- its pixels are lost, and its eight bytes set to 0
  forgets : {l : LastRow} {s : Standing} → RowFrame t l s l Standing.unworked

-- at first the tile's eight bytes are 0, and any row may stand as the last one
pub data RowHistory (t : ℕ) : LastRow → Standing → Type 0 where
  begins : {l : LastRow} → RowHistory t l Standing.unworked
  next : {l l' : LastRow} {s s' : Standing} → RowHistory t l s → RowFrame t l s l' s' → RowHistory t l' s'

-- ---- the claim

abbrev pub RowFramesRight : Type 0
RowFramesRight = (t : ℕ) (l : LastRow) (s : Standing) → RowHistory t l s → IsRight s
