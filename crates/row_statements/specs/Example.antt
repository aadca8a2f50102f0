-- The claim is not empty: an accepted opening and a run after it that meet the claim's premises, in which an EvenOdd carry is dropped, a clip is
-- painted, a layer is passed over as covered, and calls are refused by 1, 2, 6 and 8 between accepted ones, and by 3, 4 and 5 for another row, table and
-- queue. proofs/Example has it.
use Rattle.std.specs.Prelude.{◌≡◌, ◌∷◌, ◌++◌, None, Ok}
use Rattle.laws.specs.Prelude.{true, false, List, [], ℕ, binary32, of_bits, ℤ, pos, negsuc, replicate, tabulate}
use Rattle.refusals.specs.Refusal.{Judgement, pass, refuse}
use Rattle.pixel_segment.specs.Field.{cpu}
use Rattle.segment_rows.specs.Rows.{Words}
use Rattle.pixel_segment.specs.Pack.{word_of}
use Rattle.styling.specs.declared.Color.{Color}
use Rattle.queue_statements.specs.Queue.{ids_in}
use Rattle.cached_tile.specs.Kept.{no_tile}
use Rattle.cached_tile.specs.declared.kept.Kept as kept
use Rattle.row_statements.specs.Lent.{Columns, ListColumns, LentTable}
use Rattle.row_statements.specs.State.{State}
use Rattle.row_statements.specs.Opening.{OpenCall, open_of, OpensRow}
use Rattle.row_statements.specs.TileWork.{WorkCall, work_call, work_verdict}
use Rattle.row_statements.specs.Painting.{PaintCall, paint_call, paint_verdict}
use Rattle.row_statements.specs.Due.{OpenRow, Past, at_first, state_on, WorkChoice, work_due_verdict, PaintChoice, paint_due_verdict, past_work, past_paint, queue_on, outcome_on}
use Rattle.row_statements.specs.Run.{open_row, Held, held_first, Event, Run}
use Rattle.row_statements.specs.Claim.{past_after}
use Rattle.row_statements.specs.declared.RowState.{RowState}

-- ---- what is due of a list of calls

-- a call that a caller chooses: with the row, the table and the carries that it holds; or with any row and table, and the queue of the choice
pub data Choice : Type 0 where
  work : (c : WorkChoice) → Choice
  paint : (c : PaintChoice) → Choice
  other_work : (row : List ℕ) (table : LentTable) (c : WorkChoice) → Choice
  other_paint : (row : List ℕ) (table : LentTable) (c : PaintChoice) → Choice

abbrev pub work_at : State → List ℕ → LentTable → WorkChoice → WorkCall
work_at s row table c = work_call s c.tile row table c.kept c.clear c.previous c.queue

abbrev pub paint_at : State → List ℕ → LentTable → PaintChoice → PaintCall
paint_at s row table c = paint_call s c.tile c.layer row table c.queue

-- a call with any row, table and queue is one of the run where it is turned down
abbrev pub if_turned_down : Judgement → List Judgement → List Judgement
if_turned_down pass vs = vs
if_turned_down (refuse n) vs = refuse n ∷ vs

unfoldable pub choices_due : OpenRow → Past → List Choice → List Judgement
choices_due o p [] = []
choices_due o p (Choice.work c ∷ cs) = work_due_verdict o p.tiles c ∷ choices_due o (past_work (work_due_verdict o p.tiles c) p) cs
choices_due o p (Choice.paint c ∷ cs) = paint_due_verdict o p.tiles c ∷ choices_due o (past_paint (paint_due_verdict o p.tiles c) o c.layer p) cs
choices_due o p (Choice.other_work row table c ∷ cs) = if_turned_down (work_verdict (work_at (state_on o p) row table c) c.lent) (choices_due o p cs)
choices_due o p (Choice.other_paint row table c ∷ cs) = if_turned_down (paint_verdict (paint_at (state_on o p) row table c) c.plane) (choices_due o p cs)

-- the verdicts that are due of the calls of a run
unfoldable pub dues_of : OpenRow → Past → List Event → List Judgement
dues_of o p [] = []
dues_of o p (Event.work c r back ∷ es) = work_due_verdict o p.tiles c ∷ dues_of o (past_after o (Event.work c r back) p) es
dues_of o p (Event.paint c r back ∷ es) = paint_due_verdict o p.tiles c ∷ dues_of o (past_after o (Event.paint c r back) p) es
dues_of o p (Event.other_work a lent r back ∷ es) = work_verdict a lent ∷ dues_of o p es
dues_of o p (Event.other_paint a plane r back ∷ es) = paint_verdict a plane ∷ dues_of o p es

-- ---- the row: layers 1 (EvenOdd), 2, 3 and 4 come in from tile -1, layer 4 with a full cover; layer 1 has one segment more in tile 0

abbrev segment : ℤ → ℕ → ℕ → ℕ
segment tile layer y = word_of cpu layer tile (pos 0) 3 y 32 (pos 16)

abbrev pub row : List ℕ
row = segment (negsuc 0) 1 0 ∷ segment (negsuc 0) 2 0 ∷ segment (negsuc 0) 3 0 ∷ (tabulate 16 (segment (negsuc 0) 4) ++ (segment (pos 0) 1 0 ∷ []))

-- layer 2 is a clip that reaches layer 3, a clipped draw; layer 4 is an opaque draw
abbrev pub table : LentTable
table =
    record {
      words = 1 ∷ 1 ∷ 0 ∷ 0 ∷ 0 ∷ 0 ∷ 0 ∷ 0 ∷ 2 ∷ 0 ∷ 1 ∷ 1 ∷ 0 ∷ 0 ∷ 0 ∷ 0 ∷ 3 ∷ 0 ∷ 0 ∷ 0 ∷ 1 ∷ 0 ∷ 0 ∷ 0 ∷ 4 ∷ 0 ∷ 0 ∷ 0 ∷ 0 ∷ 0 ∷ 0 ∷ 0 ∷ [];
      floats = replicate 16 (of_bits binary32 0x3F800000);
      count = 4;
    }

abbrev pub call : OpenCall
call = record { tile_y = pos 0; from = pos 0; to = pos 2; row = row; table = table }

-- ---- the calls

abbrev pub black : Color
black = record { r = of_bits binary32 0; g = of_bits binary32 0; b = of_bits binary32 0; a = of_bits binary32 0 }

abbrev pub room : ℕ → Columns
room n = record { ids = replicate n 0; covers = replicate 4096 (pos 0) }

abbrev pub list : ListColumns
list = record { ids = replicate 256 0; covers = replicate 4096 (pos 0); flags = replicate 512 false; unmasked = replicate 256 false }

abbrev pub tagged : ℕ → kept.Kept
tagged tag = record { given = true; tile = record { tags = tag; layer_count = 0 ∷ 0 ∷ 0 ∷ []; solid_color = 0 ∷ 0 ∷ 0 ∷ 0 ∷ [] } }

abbrev pub work_of_tile : ℤ → kept.Kept → ℕ → WorkChoice
work_of_tile tile k n = record { tile = tile; kept = k; clear = black; previous = None; queue = room 256; lent = record { queue = room n; list = list } }

abbrev working : ℤ → kept.Kept → ℕ → Choice
working tile k n = Choice.work (work_of_tile tile k n)

abbrev pub paint_in_tile : ℤ → ℕ → PaintChoice
paint_in_tile tile layer = record { tile = tile; layer = layer; queue = room 256; plane = replicate 256 (of_bits binary32 0) }

abbrev painting : ℤ → ℕ → Choice
painting tile layer = Choice.paint (paint_in_tile tile layer)

-- a segment of tile row 1; a table whose second id is below its first. The queue of a choice has layer 0 at all places
abbrev pub other_row : List ℕ
other_row = word_of cpu 1 (pos 0) (pos 1) 3 0 32 (pos 16) ∷ []

abbrev pub other_table : LentTable
other_table = record { words = 2 ∷ (replicate 7 0 ++ (1 ∷ replicate 7 0)); floats = replicate 8 (of_bits binary32 0x3F800000); count = 2 }

-- a painting before the first work; tile 0 with a queue of 255 entries, with tag 4, and then rightly; layer 9, which the table lacks; the clip; the
-- draw that it cuts with another row, with another table, with another queue, and then rightly; tile 1 with another row, with another table, with
-- another queue, and then rightly; tile 1 again, and the opaque layer
abbrev pub choices : List Choice
choices =
    painting (pos 0) 2 ∷ working (pos 0) no_tile 255 ∷ working (pos 0) (tagged 4) 256 ∷ working (pos 0) (tagged 0) 256 ∷ painting (pos 0) 9 ∷ painting (pos 0) 2
    ∷ Choice.other_paint other_row table (paint_in_tile (pos 0) 3) ∷ Choice.other_paint row other_table (paint_in_tile (pos 0) 3) ∷ Choice.other_paint row table (paint_in_tile (pos 0) 3)
    ∷ painting (pos 0) 3
    ∷ Choice.other_work other_row table (work_of_tile (pos 1) no_tile 256) ∷ Choice.other_work row other_table (work_of_tile (pos 1) no_tile 256) ∷ Choice.other_work row table (work_of_tile (pos 1) no_tile 256)
    ∷ working (pos 1) no_tile 256 ∷ working (pos 1) no_tile 256 ∷ painting (pos 1) 4 ∷ []

pub record Ran : Type 0 where
  pub back : Columns
  pub state : RowState
  pub events : List Event
  pub after : Held
  -- the claim's premises
  pub words : Words row
  pub opens : OpensRow (open_of call (room 256)) (Ok state) back
  pub runs : Run (open_row call) (held_first state back) events after
  -- which calls are refused, and by which number
  pub dues : dues_of (open_row call) at_first events
      ≡ refuse 2 ∷ refuse 1 ∷ refuse 6 ∷ pass ∷ refuse 8 ∷ pass ∷ refuse 3 ∷ refuse 4 ∷ refuse 5 ∷ pass ∷ refuse 3 ∷ refuse 4 ∷ refuse 5 ∷ pass ∷ refuse 2 ∷ pass ∷ []
  -- layer 1's carry is dropped past tile 0
  pub dropped : (ids_in (queue_on (open_row call) 0) ≡ 1 ∷ 2 ∷ 3 ∷ 4 ∷ []) × (ids_in (queue_on (open_row call) 1) ≡ 2 ∷ 3 ∷ 4 ∷ [])
  -- the three layers below layer 4 are passed over as covered
  pub skipped : (outcome_on (open_row call) 0 no_tile black None).skipped ≡ 3
