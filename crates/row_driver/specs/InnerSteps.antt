-- What the inner functions of a driver ask and give: a tile's line from what a work is called with, and two queues that take turns. proofs/ has
-- that these are the lines of row_lines/specs/Lines.
use Rattle.std.specs.Prelude.{◌≡◌, ◌+◌, ◌*◌, ◌≤◌, None}
use Rattle.laws.specs.Prelude.{Bool, true, false, not, List, ℕ, Float, pos, length}
use Rattle.segment_rows.specs.Search.{tile_part}
use Rattle.queue_statements.specs.Queue.{ids_in, is_queue}
use Rattle.cached_tile.specs.Kept.{no_tile}
use Rattle.tile_layers.specs.Listing.{incoming_of}
use Rattle.pass_statements.specs.Decision.{code_of}
use Rattle.refusals.specs.Refusal.{pass}
use Rattle.row_statements.specs.Lent.{Columns, ListColumns, lent_table, carries_in, is_queue_short, is_list_short, layers_of}
use Rattle.row_statements.specs.State.{state_in}
use Rattle.row_statements.specs.TileWork.{WorkCall, WorkLent, work_call, work_lent, listed_for, says_for, layers_verdict, GivesWork}
use Rattle.row_statements.specs.InnerWork.{worked_by, WorkJudged}
use Rattle.row_statements.specs.Due.{OpenRow, at_first}
use Rattle.row_statements.specs.InnerHolding.{IsOpen, Holds}
use Rattle.row_statements.specs.Run.{Held}
use Rattle.row_statements.specs.declared.RowState.{RowState}
use Rattle.row_lines.specs.Shown.{shown_in}
use Rattle.shown_layers.specs.Counting.{Sum, at_start, tallied}
use Rattle.row_lines.specs.Lines.{clear_color, is_paint}
use Rattle.row_lines.specs.declared.Line.{Line}
use Rattle.row_driver.specs.declared.tile.TileLine.{TileLine}

-- ---- the line of a tile

-- the tile's shown layers, by what its work is called with
abbrev pub tally_at : WorkCall → Sum
tally_at a =
    let out = (says_for a).outcome in
    tallied (is_paint out.decision) (layers_of a.table) (carries_in a.state.left a.queue) (tile_part a.tile a.row) at_start (shown_in out.skipped out.unmasked (ids_in (incoming_of (listed_for a))))

unfoldable pub line_at : WorkCall → Line
line_at a =
    record {
      decision = code_of (says_for a).outcome.decision;
      listed = length (listed_for a);
      shown = (tally_at a).shown;
      octets = (tally_at a).octets;
      carried = length (says_for a).handed;
    }

-- what a driver calls a work with: the tile is the state's next
abbrev pub args_of : RowState → List ℕ → List ℕ → List Float → ℕ → Columns → WorkCall
args_of s row words floats count queue = work_call (state_in s) (pos s.next) row (lent_table words floats count) no_tile clear_color None queue

-- what the work of a tile asks
pub record Workable (a : WorkCall) (lent : WorkLent) : Type 0 where
  pub judged : WorkJudged a lent
  pub in_queue : is_queue a.state.left a.queue.ids ≡ true

-- the work, and the tile's line where it is accepted
pub record WorksLine (a : WorkCall) (lent : WorkLent) (r : TileLine) (back : WorkLent) : Type 0 where
  pub works : GivesWork (worked_by a lent) r.worked back
  pub line_is : layers_verdict a ≡ pass → r.line ≡ line_at a

-- what a tile's part asks: a row of which it is the part of the state's next tile, and in which the tile may be worked
pub record PartWorkable (s : RowState) (part words : List ℕ) (floats : List Float) (count : ℕ) (queue : Columns) (lent : WorkLent) : Type 0 where
  pub row : List ℕ
  pub part_is : part ≡ tile_part (pos s.next) row
  pub workable : Workable (args_of s row words floats count queue) lent

-- what it gives, whichever row that is
pub record WorksPartLine (s : RowState) (part words : List ℕ) (floats : List Float) (count : ℕ) (queue : Columns) (lent : WorkLent) (r : TileLine) (back : WorkLent) : Type 0 where
  pub gives : (row : List ℕ) → part ≡ tile_part (pos s.next) row → Workable (args_of s row words floats count queue) lent → WorksLine (args_of s row words floats count queue) lent r back

-- ---- two queues that take turns

abbrev pub side : Bool → Columns → Columns → Columns
side true a b = a
side false a b = b

-- the work on the side whose turn it is, the other side written, and this one kept
pub record Turns (in-a : Bool) (s : RowState) (part words : List ℕ) (floats : List Float) (count : ℕ) (a b : Columns) (list : ListColumns) (r : TileLine) (a' b' : Columns) (list' : ListColumns) : Type 0 where
  pub works : WorksPartLine s part words floats count (side in-a a b) (work_lent (side (not in-a) a b) list) r (work_lent (side (not in-a) a' b') list')
  pub kept : side in-a a' b' ≡ side in-a a b

-- what a driver holds: the queue of the side whose turn it is
abbrev pub held_by : Bool → RowState → Columns → Columns → Held
held_by in-a s a b = record { state = state_in s; queue = side in-a a b; taken = side (not in-a) a b }

-- the row that a state stands in
abbrev pub row_by : RowState → List ℕ → List ℕ → List Float → ℕ → OpenRow
row_by s row words floats count = record { tile_y = s.tile_y; from = s.from; to = s.to; row = row; table = lent_table words floats count }

-- what driving the k tiles of an open row asks: both queues and the list have room for 256 entries
pub record Drivable (o : OpenRow) (s : RowState) (k : ℕ) (a b : Columns) (list : ListColumns) (lines : List ℕ) : Type 0 where
  pub is_open : IsOpen o
  pub holds : Holds o at_first (held_by true s a b)
  pub other_long : is_queue_short b ≡ false
  pub list_long : is_list_short list ≡ false
  pub inside : o.from + k ≤ o.to
  pub room : k * 5 ≤ length lines

-- what opens to it: the queue that the opening wrote
pub record Opened (o : OpenRow) (s : RowState) (k : ℕ) (a : Columns) (lines : List ℕ) : Type 0 where
  pub is_open : IsOpen o
  pub holds : Holds o at_first (record { state = state_in s; queue = a; taken = a })
  pub inside : o.from + k ≤ o.to
  pub room : k * 5 ≤ length lines
