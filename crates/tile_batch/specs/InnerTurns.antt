-- What the inner functions of a batch ask and give: a tile from where the batch stands, and the tiles one after the other.
use Rattle.std.specs.Prelude.{◌≡◌, ◌||◌, ◌+◌, ◌*◌, ◌≤◌, ◌<◌}
use Rattle.laws.specs.Prelude.{Bool, true, false, not, List, ℕ, suc, min, Float, pos, length, take, sets}
use Rattle.refusals.specs.Refusal.{pass, judgement_in}
use Rattle.pixel_segment.specs.Field.{cpu}
use Rattle.segment_rows.specs.Rows.{Words, is_row}
use Rattle.segment_rows.specs.Search.{tile_part}
use Rattle.styling.specs.declared.Layer.{Layer}
use Rattle.queue_statements.specs.Queue.{Carry, is_queue}
use Rattle.pass_statements.specs.Decision.{decision_in}
use Rattle.row_statements.specs.Lent.{Columns, ListColumns, LentTable, is_queue_short, is_list_short, is_lent_short, is_lent_table}
use Rattle.row_statements.specs.State.{state_in, is_stray}
use Rattle.row_statements.specs.TileWork.{tile_answer_in}
use Rattle.row_statements.specs.declared.RowState.{RowState}
use Rattle.row_statements.specs.declared.TileDone.{TileDone}
use Rattle.row_statements.specs.declared.TileWorked.{TileWorked}
use Rattle.row_lines.specs.Lines.{is_paint}
use Rattle.row_lines.specs.Shown.{shown_in}
use Rattle.shown_layers.specs.Counting.{ids_of}
use Rattle.batch_statements.specs.BatchLent.{BatchLent, sided, kept_over, tile_numbers, bottoms_over, mixed_of, WordsAt, words_at, mixes_from}
use Rattle.batch_statements.specs.Batch.{BatchRow, BatchAt, TurnGiven, turn_of}
use Rattle.batch_statements.specs.declared.Room.{Room}
use Rattle.batch_steps.specs.InnerStanding.{starting}
use Rattle.batch_steps.specs.declared.Standing.{Standing}
use Rattle.batch_noting.specs.InnerNoting.{NoteRoom}
use Rattle.batch_painting.specs.InnerShown.{WalkAt, walk_at, walk_from, PlaneRoom}

-- 1 of the first tile, whose list is the operation's own: a queue below 256 entries, or a table shorter than its count
abbrev pub is_batch_short : LentTable → Columns → Columns → Bool
is_batch_short table queue other = is_queue_short queue || is_queue_short other || is_lent_short table

-- where a batch stands, by the code's value: the tile is the state's next
abbrev pub batch_in : Standing → BatchLent → BatchAt
batch_in b m = record { state = state_in b.state; tile = pos b.state.next; first = b.first; worked = b.worked; used = b.used; lent = m }

-- ---- what is noted of a tile that is accepted

-- the walk over its shown layers, from the flags that the work left
abbrev pub walk_past : Standing → TileWorked → TileDone → List Layer → List Carry → List ℕ → List Bool → List Float → List ℕ → WalkAt
walk_past b w d table queue part unmasked planes painted =
    walk_from (is_paint (decision_in d.decision)) table queue part (walk_at (record { state = w.state; used = b.used; shown = 0 }) planes painted)
    (shown_in d.skipped.0 (take d.listed unmasked) (ids_of queue part))

-- the layers that it mixes, from the list that the work left
abbrev pub mix_past : WalkAt → TileDone → List ℕ → List Bool → WordsAt
mix_past x d ids unmasked =
    mixes_from (words_at x.at.used x.at.painted) (mixed_of (decision_in d.decision) (shown_in d.skipped.0 (take d.listed unmasked) (take d.listed ids)))

pub record NotesTile (keeps : Bool) (b : Standing) (w : TileWorked) (d : TileDone) (x : WalkAt) (y : WordsAt) (kept told : List ℕ) (bottoms : List Float) (r : Standing) (kept' told' : List ℕ) (bottoms' planes' : List Float) (painted' : List ℕ) : Type 0 where
  pub state : state_in r.state ≡ x.at.state
  pub worked : r.worked ≡ b.worked + 1
  pub used : r.used ≡ y.used
  pub first : r.first ≡ not b.first
  pub verdict : judgement_in r.verdict ≡ pass
  pub kept_is : kept' ≡ kept_over keeps kept b.worked w.kept
  pub told_is : told' ≡ sets told (b.worked * 6) (tile_numbers (tile_answer_in d) x.shown w.state.left)
  pub bottoms_are : bottoms' ≡ bottoms_over (decision_in d.decision) b.worked bottoms
  pub planes_are : planes' ≡ x.at.planes
  pub painted_are : painted' ≡ y.painted

-- ---- a tile

-- what stands after 1 to 5: the state is one of a row's, the row, the table and the carries are in order, and both queues have room
pub record BatchStands (c : BatchRow) (s : BatchAt) : Type 0 where
  pub is_tile : s.tile ≡ pos s.state.next
  pub in_state : is_stray s.state ≡ false
  pub words : Words c.row
  pub ascends : is_row cpu (suc s.state.tile_y) c.row ≡ true
  pub in_table : is_lent_table c.table ≡ true
  pub table_long : is_lent_short c.table ≡ false
  pub queue_room : is_queue_short s.lent.queue ≡ false
  pub other_room : is_queue_short s.lent.other ≡ false
  pub in_queue : is_queue s.state.left s.lent.queue.ids ≡ true

-- ---- a tile whose segments are lent: the part, in the place of the row, whichever row has it

abbrev pub in_row : List ℕ → BatchRow → BatchRow
in_row row c = record { row = row; table = c.table; keeps = c.keeps; clear = c.clear; previous = c.previous }

-- the part is the next tile's of the row
pub record PartOf (c : BatchRow) (s : BatchAt) (row : List ℕ) : Type 0 where
  pub stands : BatchStands (in_row row c) s
  pub part_is : c.row ≡ tile_part s.tile row

-- what it asks
pub record Turnable (c : BatchRow) (s : BatchAt) (list : ListColumns) : Type 0 where
  pub row : List ℕ
  pub of_row : PartOf c s row
  pub inside : s.state.next < s.state.to
  pub list_long : is_list_short list ≡ false
  pub notes : NoteRoom c.keeps s.worked s.lent.kept s.lent.told s.lent.bottoms
  pub planes : PlaneRoom s.used (min 256 c.table.count) s.lent.planes s.lent.painted

-- whether a flag is as it was
abbrev pub same_flag : Bool → Bool → Bool
same_flag true b = b
same_flag false b = not b

-- what a tile gives, to memory whose first queue holds the carries where `first` says so
pub record GivesTurn (first : Bool) (g : TurnGiven) (r : Standing) (back : BatchLent) : Type 0 where
  pub state : state_in r.state ≡ g.at.state
  pub worked : r.worked ≡ g.at.worked
  pub used : r.used ≡ g.at.used
  pub first_is : r.first ≡ g.at.first
  pub verdict : judgement_in r.verdict ≡ g.verdict
  pub lent_is : back ≡ sided (same_flag first g.at.first) g.at.lent

-- the same, to memory as it lies
pub record GivesStanding (g : TurnGiven) (r : Standing) (back : BatchLent) : Type 0 where
  pub state : state_in r.state ≡ g.at.state
  pub worked : r.worked ≡ g.at.worked
  pub used : r.used ≡ g.at.used
  pub first : r.first ≡ g.at.first
  pub verdict : judgement_in r.verdict ≡ g.verdict
  pub lent_is : back ≡ sided g.at.first g.at.lent

-- for every row that has the part
pub record GivesPartTurn (first : Bool) (c : BatchRow) (s : BatchAt) (r : Standing) (back : BatchLent) : Type 0 where
  pub gives : (row : List ℕ) → PartOf c s row → GivesTurn first (turn_of (in_row row c) s) r back

pub record GivesPartStanding (c : BatchRow) (s : BatchAt) (r : Standing) (back : BatchLent) : Type 0 where
  pub gives : (row : List ℕ) → PartOf c s row → GivesStanding (turn_of (in_row row c) s) r back

-- ---- tiles one after the other

-- the room that the lent memory has
pub record BatchRoom (keeps : Bool) (count : ℕ) (r : Room) (m : BatchLent) : Type 0 where
  pub kept : keeps ≡ true → r.tiles * 8 ≤ length m.kept
  pub told : r.tiles * 6 ≤ length m.told
  pub bottoms : r.tiles * 4 ≤ length m.bottoms
  pub planes_long : r.planes * 256 ≤ length m.planes
  pub painted_long : r.planes * 2 ≤ length m.painted
  pub needed : r.needed ≡ min 256 count

-- what the tiles ask
pub record Startable (c : BatchRow) (s : RowState) (r : Room) (m : BatchLent) : Type 0 where
  pub stands : BatchStands c (batch_in (starting s) m)
  pub room : BatchRoom c.keeps c.table.count r m
