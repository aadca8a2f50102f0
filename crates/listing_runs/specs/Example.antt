-- The claim is not empty: an accepted opening and a run after it that meet the claim's premises, with a listing, a painting straight after it, decidings after a later
-- listing, late, twice and out of order, a refused deciding, a work, and a deciding from the list that it left; and between them a work, a painting and a
-- listing with another row, table and queue, and decidings of another list. proofs/Example has it; proofs/Runs has that every list of choices is that of
-- some run.
use Rattle.std.specs.Prelude.{◌≡◌, ◌&&◌, ◌∷◌, ◌++◌, ◌+◌, None, Ok}
use Rattle.laws.specs.Prelude.{Bool, not, cond, List, [], ℕ, ltb, ℤ, pos, lt_z, plus}
use Rattle.refusals.specs.Refusal.{Judgement, pass, refuse}
use Rattle.segment_rows.specs.Rows.{Words}
use Rattle.cached_tile.specs.Kept.{no_tile}
use Rattle.cached_tile.specs.declared.kept.Kept as kept
use Rattle.row_statements.specs.Lent.{Columns, LentTable}
use Rattle.row_statements.specs.State.{State}
use Rattle.row_statements.specs.Opening.{OpenCall, open_of, OpensRow}
use Rattle.row_statements.specs.TileWork.{work_verdict}
use Rattle.row_statements.specs.Painting.{paint_verdict}
use Rattle.row_statements.specs.Due.{OpenRow, Past, at_first, state_on, WorkChoice, work_due_verdict, PaintChoice, paint_due_verdict, past_work, past_paint}
use Rattle.row_statements.specs.Run.{open_row, held_first, Event}
use Rattle.row_statements.specs.Example as example
use Rattle.row_statements.specs.Example.{work_at, paint_at, if_turned_down, row, table, black, room, tagged, work_of_tile, paint_in_tile, other_row, other_table}
use Rattle.row_statements.specs.declared.RowState.{RowState}
use Rattle.listing_statements.specs.Listing.{TileList, ListCall, tile_list, list_call, list_lent, listing_verdict}
use Rattle.listing_statements.specs.Deciding.{DecideCall, decide_call, deciding_verdict}
use Rattle.listing_runs.specs.Due.{ListChoice, list_due_verdict, DecideChoice, decide_due_verdict}
use Rattle.listing_runs.specs.Run.{HeldAll, held_with, RowCall, RowCalls}
use Rattle.listing_runs.specs.Claim.{past_call}

-- ---- what is due of a list of calls

-- a call that a caller chooses: with the row, the table, the carries and the lists that it holds; or with any row and table, and the queue of the
-- choice; or a deciding of any list, by any table
pub data CallChoice : Type 0 where
  work : (c : WorkChoice) → CallChoice
  paint : (c : PaintChoice) → CallChoice
  list : (c : ListChoice) → CallChoice
  decide : (c : DecideChoice) → CallChoice
  other_work : (row : List ℕ) (table : LentTable) (c : WorkChoice) → CallChoice
  other_paint : (row : List ℕ) (table : LentTable) (c : PaintChoice) → CallChoice
  other_list : (row : List ℕ) (table : LentTable) (c : ListChoice) → CallChoice
  other_decide : (a : DecideCall) (unmasked : List Bool) → CallChoice

abbrev pub list_at : State → List ℕ → LentTable → ListChoice → ListCall
list_at s row table c = list_call s c.tile row table c.queue

-- the tile is one of the first n of the row: one that a list is held of
abbrev pub is_past : OpenRow → ℕ → ℤ → Bool
is_past o n tile = not (lt_z tile (pos o.from)) && ltb (plus tile) (o.from + n)

-- a deciding of a tile that no list is held of is no call; nor is a work, a painting or a listing with any row, table and queue, unless it is turned down
unfoldable pub call_choices_due : OpenRow → Past → List CallChoice → List Judgement
call_choices_due o p [] = []
call_choices_due o p (CallChoice.work c ∷ cs) = work_due_verdict o p.tiles c ∷ call_choices_due o (past_work (work_due_verdict o p.tiles c) p) cs
call_choices_due o p (CallChoice.paint c ∷ cs) = paint_due_verdict o p.tiles c ∷ call_choices_due o (past_paint (paint_due_verdict o p.tiles c) o c.layer p) cs
call_choices_due o p (CallChoice.list c ∷ cs) = list_due_verdict o p.tiles c ∷ call_choices_due o (past_work (list_due_verdict o p.tiles c) p) cs
call_choices_due o p (CallChoice.decide c ∷ cs) = cond (is_past o p.tiles c.tile) (decide_due_verdict c ∷ call_choices_due o p cs) (call_choices_due o p cs)
call_choices_due o p (CallChoice.other_work row table c ∷ cs) = if_turned_down (work_verdict (work_at (state_on o p) row table c) c.lent) (call_choices_due o p cs)
call_choices_due o p (CallChoice.other_paint row table c ∷ cs) = if_turned_down (paint_verdict (paint_at (state_on o p) row table c) c.plane) (call_choices_due o p cs)
call_choices_due o p (CallChoice.other_list row table c ∷ cs) = if_turned_down (listing_verdict (list_at (state_on o p) row table c) c.lent) (call_choices_due o p cs)
call_choices_due o p (CallChoice.other_decide a unmasked ∷ cs) = deciding_verdict a unmasked ∷ call_choices_due o p cs

-- the verdicts that are due of the calls of a run
unfoldable pub call_dues_of : OpenRow → Past → List RowCall → List Judgement
call_dues_of o p [] = []
call_dues_of o p (RowCall.row (Event.work c r back) ∷ es) = work_due_verdict o p.tiles c ∷ call_dues_of o (past_call o (RowCall.row (Event.work c r back)) p) es
call_dues_of o p (RowCall.row (Event.paint c r back) ∷ es) = paint_due_verdict o p.tiles c ∷ call_dues_of o (past_call o (RowCall.row (Event.paint c r back)) p) es
call_dues_of o p (RowCall.row (Event.other_work a lent r back) ∷ es) = work_verdict a lent ∷ call_dues_of o p es
call_dues_of o p (RowCall.row (Event.other_paint a plane r back) ∷ es) = paint_verdict a plane ∷ call_dues_of o p es
call_dues_of o p (RowCall.list c r back ∷ es) = list_due_verdict o p.tiles c ∷ call_dues_of o (past_call o (RowCall.list c r back) p) es
call_dues_of o p (RowCall.decide c r back ∷ es) = decide_due_verdict c ∷ call_dues_of o p es
call_dues_of o p (RowCall.other_list a lent r back ∷ es) = listing_verdict a lent ∷ call_dues_of o p es
call_dues_of o p (RowCall.other_decide a unmasked r back ∷ es) = deciding_verdict a unmasked ∷ call_dues_of o p es

-- ---- the row and the table of row_statements/specs/Example, over three tiles

abbrev pub three_tiles : OpenCall
three_tiles = record { tile_y = pos 0; from = pos 0; to = pos 3; row = row; table = table }

-- ---- the calls

abbrev three_columns : TileList
three_columns = tile_list (example.list).ids (example.list).covers (example.list).flags

abbrev list_of_tile : ℤ → ℕ → ListChoice
list_of_tile tile n = record { tile = tile; queue = room 256; lent = list_lent (room n) three_columns }

abbrev working : ℤ → CallChoice
working tile = CallChoice.work (work_of_tile tile no_tile 256)

abbrev painting : ℤ → ℕ → CallChoice
painting tile layer = CallChoice.paint (paint_in_tile tile layer)

abbrev listing : ℤ → ℕ → CallChoice
listing tile n = CallChoice.list (list_of_tile tile n)

abbrev deciding : ℤ → kept.Kept → CallChoice
deciding tile k =
    CallChoice.decide (record { tile = tile; list = three_columns; kept = k; clear = black; previous = None; unmasked = (example.list).unmasked })

-- with another row, with another table, with another queue
abbrev others_of : (List ℕ → LentTable → CallChoice) → List CallChoice
others_of call = call other_row table ∷ call row other_table ∷ call row table ∷ []

-- n entries of a list of layer 0 at all places, by a table
abbrev deciding_other : LentTable → ℕ → CallChoice
deciding_other by n = CallChoice.other_decide (decide_call three_columns n by no_tile black None) (example.list).unmasked

-- a painting before the first listing; tile 0 listed with a queue of 255 entries, and then rightly; the clip painted at once; tile 1 listed with another
-- row, table and queue, and then rightly; tile 0 decided with tag 4, and then rightly; another list decided by another table, then two entries and one
-- entry of it by the table, which lacks layer 0, and then none of it; tile 1 decided; tile 2 worked with another row, table and queue, and then rightly;
-- its list and tile 0's decided once more; the opaque layer of tile 2 painted with another row, table and queue, and then rightly
abbrev pub listing_choices : List CallChoice
listing_choices =
    painting (pos 0) 2 ∷ listing (pos 0) 255 ∷ listing (pos 0) 256 ∷ painting (pos 0) 2
    ∷ (others_of (λ r t. CallChoice.other_list r t (list_of_tile (pos 1) 256))
    ++ (listing (pos 1) 256 ∷ deciding (pos 0) (tagged 4) ∷ deciding (pos 0) no_tile
    ∷ deciding_other other_table 1 ∷ deciding_other table 2 ∷ deciding_other table 1 ∷ deciding_other table 0 ∷ deciding (pos 1) (tagged 0)
    ∷ (others_of (λ r t. CallChoice.other_work r t (work_of_tile (pos 2) no_tile 256))
    ++ (working (pos 2) ∷ deciding (pos 2) no_tile ∷ deciding (pos 0) no_tile
    ∷ (others_of (λ r t. CallChoice.other_paint r t (paint_in_tile (pos 2) 4)) ++ (painting (pos 2) 4 ∷ []))))))

pub record CallsRan : Type 0 where
  pub back : Columns
  pub state : RowState
  pub events : List RowCall
  pub after : HeldAll
  -- the claim's premises
  pub words : Words three_tiles.row
  pub opens : OpensRow (open_of three_tiles (room 256)) (Ok state) back
  pub runs : RowCalls (open_row three_tiles) (held_with (held_first state back) []) events after
  -- which calls are refused, and by which number
  pub dues : call_dues_of (open_row three_tiles) at_first events
      ≡ refuse 2 ∷ refuse 1 ∷ pass ∷ pass ∷ refuse 3 ∷ refuse 4 ∷ refuse 5 ∷ pass ∷ refuse 6 ∷ pass ∷ refuse 4 ∷ refuse 5 ∷ refuse 8 ∷ pass ∷ pass
      ∷ refuse 3 ∷ refuse 4 ∷ refuse 5 ∷ pass ∷ pass ∷ pass ∷ refuse 3 ∷ refuse 4 ∷ refuse 5 ∷ pass ∷ []
