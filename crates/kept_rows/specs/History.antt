-- The theorem over frames: a tile through any list of frames, in each of which its row is opened and run as demand 3 has it, with the cached tile
-- that the last frame left, and in which the caller follows the protocol: flags and revisions are truthful since the tile's last accepted work, the count
-- is kept only by the keep rule, and every solid tile is settled and obeyed. Then what stands in the tile is always what drawing it afresh at its last
-- accepted work draws, by the same decision and the same calls. A frame in which the tile is not worked, or turned down, leaves it as it is; and it may be
-- forgotten.
use Rattle.std.specs.Prelude.{◌≡◌, ◌+◌, Option, Ok}
use Rattle.laws.specs.Prelude.{Bool, true, cond, List, [], ℕ, given}
use Rattle.refusals.specs.Refusal.{given_or_refused}
use Rattle.segment_rows.specs.Rows.{Words}
use Rattle.styling.specs.declared.Color.{Color}
use Rattle.cached_tile.specs.Tile.{empty_tile, drop_count, keep_color}
use Rattle.cached_tile.specs.Kept.{keep_or_write, keeps_same}
use Rattle.cached_tile.specs.declared.CachedTile.{CachedTile}
use Rattle.cached_tile.specs.declared.kept.Kept as kept
use Rattle.pass_statements.specs.Decide.{shown_of}
use Rattle.pass_statements.specs.Decision.{TileDecision, none, solid, paint}
use Rattle.row_statements.specs.Lent.{Columns}
use Rattle.row_statements.specs.Opening.{OpenCall, open_of, OpensRow}
use Rattle.row_statements.specs.TileWork.{WorkLent, TileAnswer, work_answer}
use Rattle.row_statements.specs.Due.{outcome_on, OpenRow, Past, at_first, WorkChoice}
use Rattle.row_statements.specs.Run.{open_row, held_first, Event}
use Rattle.row_statements.specs.declared.RowState.{RowState}
use Rattle.row_statements.specs.declared.TileWorked.{TileWorked}
use Rattle.listing_statements.specs.Listing.{ListLent}
use Rattle.listing_statements.specs.Deciding.{DecideSays, decide_answer}
use Rattle.listing_statements.specs.declared.TileListed.{TileListed}
use Rattle.listing_statements.specs.declared.TileDecided.{TileDecided}
use Rattle.listing_runs.specs.Due.{ListChoice, DecideChoice, nth_on}
use Rattle.listing_runs.specs.Run.{HeldAll, held_with, RowCall, RowCalls}
use Rattle.two_rows.specs.Apart.{MadeCall}
use Rattle.kept_frames.specs.Display.{Display, ShowsBytes, displayed}
use Rattle.kept_frames.specs.Picture.{shown_afresh}
use Rattle.kept_frames.specs.Alike.{may_keep_count}
use Rattle.kept_rows.specs.Along.{RowTold, ContentsTold}
use Rattle.kept_rows.specs.Shown.{WorkedTile, items_for, drawn_by, SameShown}

-- ---- an accepted work in a frame: a row that was opened, any list of calls, and one of them

-- what a caller gives and gets of a tile
pub record TileDone : Type 0 where
  pub place : ℕ
  pub before : kept.Kept
  pub clear : Color
  pub previous : Option Color
  pub after : kept.Kept
  pub decision : TileDecision

-- by an accepted work; or by an accepted listing and an accepted deciding of the list of that tile
pub data DoneIn (o : OpenRow) (es : List RowCall) : TileDone → Type 0 where
  work : {p : Past} {c : WorkChoice} {r : TileWorked} {back : WorkLent} {t : TileAnswer} →
      MadeCall o at_first es p (RowCall.row (Event.work c r back)) → work_answer r.answer ≡ given t →
      DoneIn o es (record { place = p.tiles; before = c.kept; clear = c.clear; previous = c.previous; after = r.kept; decision = t.decision })
  decide : {p q : Past} {l : ListChoice} {r : TileListed} {back : ListLent} {n : ℕ} {c : DecideChoice} {s : TileDecided} {masks : List Bool} {t : DecideSays} →
      MadeCall o at_first es p (RowCall.list l r back) → given_or_refused r.answer ≡ given n →
      MadeCall o at_first es q (RowCall.decide c s masks) → decide_answer s.answer ≡ given t →
      nth_on o c ≡ p.tiles →
      DoneIn o es (record { place = p.tiles; before = c.kept; clear = c.clear; previous = c.previous; after = s.kept; decision = t.decision })

pub record AcceptedWork : Type 0 where
  pub call : OpenCall
  pub lent : Columns
  pub back : Columns
  pub state : RowState
  pub calls : List RowCall
  pub held : HeldAll
  pub words : Words call.row
  pub opens : OpensRow (open_of call lent) (Ok state) back
  -- of what each record of the table holds
  pub revisions : List ℕ
  pub run : RowCalls (open_row call) (held_with (held_first state back) []) calls held
  pub done : TileDone
  pub made : DoneIn (open_row call) calls done

abbrev pub open_on : AcceptedWork → OpenRow
open_on a = open_row a.call

abbrev pub tile_number : AcceptedWork → ℕ
tile_number a = (open_on a).from + a.done.place

abbrev pub worked_of : AcceptedWork → WorkedTile
worked_of a = record { row = open_on a; revisions = a.revisions; place = a.done.place; clear = a.done.clear }

-- ---- what stands of a tile between frames

-- no work on it was accepted; or its cached tile, what its place in the buffer displays, the work that was last drawn, and the last accepted work
pub data Standing : Type 0 where
  unworked : Standing
  worked : (tile : CachedTile) (display : Display) (drawn last : WorkedTile) → Standing

-- what the caller does by a decision: nothing, or it settles the four display bytes and obeys, or it paints something
pub data Drawing : TileDecision → CachedTile → Display → CachedTile → Display → Type 0 where
  leaves : {k : CachedTile} {d : Display} → Drawing none k d k d
  settles : {bottom : Color} {before : ℕ} {k : CachedTile} {d : Display} (bytes : List ℕ) →
      Drawing (solid bottom before) k d (keep_color k bytes) (displayed (keep_or_write (keeps_same k bytes)) bytes d)
  paints : {k : CachedTile} {d : Display} (drawn : Display) → Drawing paint k d k drawn

abbrev pub drawn_at : TileDecision → WorkedTile → WorkedTile → WorkedTile
drawn_at none drawn now = drawn
drawn_at (solid bottom before) drawn now = now
drawn_at paint drawn now = now

-- ---- the protocol

-- a cached tile that is given
abbrev pub lent_tile : CachedTile → kept.Kept
lent_tile k = record { given = true; tile = k }

-- the count is dropped where it may not stay
abbrev pub kept_if : Bool → CachedTile → CachedTile
kept_if may k = cond may k (drop_count k)

-- by the keep rule, of the clear colours and the lists of two works
abbrev pub may_keep_tile : WorkedTile → WorkedTile → Bool
may_keep_tile last now = may_keep_count last.clear now.clear (items_for last) (items_for now)

-- flags and revisions are truthful since the tile's last accepted work; the previous clear colour that a work is given plays no part
pub record ToldSince (last : WorkedTile) (a : AcceptedWork) : Type 0 where
  pub flags : RowTold last.row (open_on a)
  pub contents : ContentsTold last.row last.revisions (open_on a) a.revisions

-- ---- a frame, and any list of them

pub data Frame (t : ℕ) : Standing → Standing → Type 0 where
  leaves : {s : Standing} → Frame t s s
  -- its pixels are lost, and its eight bytes set to 0
  forgets : {s : Standing} → Frame t s Standing.unworked
  first : {k : CachedTile} {d d' : Display} (a : AcceptedWork) → tile_number a ≡ t →
      a.done.before ≡ lent_tile empty_tile →
      Drawing a.done.decision a.done.after.tile d k d' →
      Frame t Standing.unworked (Standing.worked k d' (worked_of a) (worked_of a))
  again : {k k' : CachedTile} {d d' : Display} {drawn last : WorkedTile} (a : AcceptedWork) → tile_number a ≡ t →
      ToldSince last a →
      a.done.before ≡ lent_tile (kept_if (may_keep_tile last (worked_of a)) k) →
      Drawing a.done.decision a.done.after.tile d k' d' →
      Frame t (Standing.worked k d drawn last) (Standing.worked k' d' (drawn_at a.done.decision drawn (worked_of a)) (worked_of a))
  -- the count is dropped, whatever the flags, the clear colour and the first tile are
  anew : {k k' : CachedTile} {d d' : Display} {drawn last : WorkedTile} (a : AcceptedWork) → tile_number a ≡ t →
      a.done.before ≡ lent_tile (drop_count k) →
      Drawing a.done.decision a.done.after.tile d k' d' →
      Frame t (Standing.worked k d drawn last) (Standing.worked k' d' (drawn_at a.done.decision drawn (worked_of a)) (worked_of a))
  -- the tile is drawn, with its count or without
  draws : {k k' : CachedTile} {d d' : Display} {drawn last : WorkedTile} (may : Bool) (a : AcceptedWork) → tile_number a ≡ t →
      a.done.before ≡ lent_tile (kept_if may k) →
      (a.done.decision ≡ none → ⊥) →
      Drawing a.done.decision a.done.after.tile d k' d' →
      Frame t (Standing.worked k d drawn last) (Standing.worked k' d' (drawn_at a.done.decision drawn (worked_of a)) (worked_of a))

pub data History (t : ℕ) : Standing → Type 0 where
  begins : History t Standing.unworked
  next : {s s' : Standing} → History t s → Frame t s s' → History t s'

-- ---- the claim

-- what was last drawn is what drawing afresh at the last accepted work draws, and 'keep' is said only of bytes that the whole tile displays
abbrev pub IsRight : Standing → Type 0
IsRight Standing.unworked = Unit {0}
IsRight (Standing.worked tile display drawn last) = SameShown drawn last × ((bytes : List ℕ) → keeps_same tile bytes ≡ true → ShowsBytes display bytes)

-- the first work on a tile draws it
abbrev pub FirstDrawn : Type 0
FirstDrawn = (a : AcceptedWork) → a.done.before ≡ lent_tile empty_tile → a.done.decision ≡ none → ⊥

abbrev pub FramesRight : Type 0
FramesRight = (t : ℕ) (s : Standing) → History t s → IsRight s

-- a work that is decided *solid* or *paint* draws the tile so: its decision is that of drawing afresh, and its shown layers are those that are painted
pub record DrawsSo (a : AcceptedWork) : Type 0 where
  pub decision : a.done.decision ≡ (drawn_by (worked_of a)).decision
  pub shown :
      let o = outcome_on (open_on a) a.done.place a.done.before a.done.clear a.done.previous in
      shown_of o.skipped (items_for (worked_of a)) o.unmasked ≡ shown_afresh (items_for (worked_of a))

abbrev pub WorkShows : Type 0
WorkShows = (a : AcceptedWork) → (a.done.decision ≡ none → ⊥) → DrawsSo a
