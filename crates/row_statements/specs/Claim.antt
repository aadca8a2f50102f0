-- Demand 3, one claim about an accepted opening and any list of tile works and paintings after it, refused ones included: every call gives what is
-- due of it (specs/Due), which is worked from the whole row. Beside it, what the row alone says of every tile. proofs/Run proves it; specs/Example
-- has a run that meets its premises.
use Rattle.std.specs.Prelude.{◌≡◌, ◌∷◌, ◌+◌, ◌<◌, Option, Ok}
use Rattle.laws.specs.Prelude.{true, List, [], map, ℕ, suc, Float, length, get_or, take, replicate, refused}
use Rattle.refusals.specs.Refusal.{pass, refuse}
use Rattle.pixel_segment.specs.Field.{cpu}
use Rattle.segment_rows.specs.Rows.{Words}
use Rattle.layer_table.specs.Lookup.{lookup}
use Rattle.styling.specs.declared.Color.{Color}
use Rattle.styling.specs.declared.FillRule.{FillRule}
use Rattle.cover_statements.specs.Coverage.{coverage_of}
use Rattle.cover_statements.specs.WholeRow.{row_plane, FromRow}
use Rattle.queue_statements.specs.Queue.{held_in}
use Rattle.tile_layers.specs.Listing.{no_listed}
use Rattle.cached_tile.specs.declared.kept.Kept as kept
use Rattle.layer_carrying.specs.Carrying.{rule_in}
use Rattle.layer_workbench.specs.Work.{entry_of}
use Rattle.row_carries.specs.Carries.{is_unlisted}
use Rattle.row_carries.specs.Covering.{CoveredUnder}
use Rattle.row_carries.specs.Listed.{ListedIs}
use Rattle.row_statements.specs.Lent.{Columns, carries_in, entries_in}
use Rattle.row_statements.specs.Opening.{OpenCall, open_of, OpensRow}
use Rattle.row_statements.specs.TileWork.{WorkCall, WorkLent, work_verdict, GivesWork}
use Rattle.row_statements.specs.Painting.{PaintCall, paint_verdict, PaintsLayer}
use Rattle.row_statements.specs.Due.{OpenRow, Past, at_first, table_on, queue_on, layers_on, state_on, WorkChoice, work_due_verdict, outcome_on, work_due, past_work, PaintChoice, paint_due_verdict, plane_on, paint_due, past_paint}
use Rattle.row_statements.specs.Run.{open_row, Held, held_first, Event, Run}
use Rattle.row_statements.specs.declared.RowState.{RowState}
use Rattle.row_statements.specs.declared.TileWorked.{TileWorked}
use Rattle.row_statements.specs.declared.Painted.{Painted}

-- ---- what the whole row says of the tile from + n

pub record TileFacts (o : OpenRow) (n : ℕ) : Type 0 where
  -- a layer's carry before the tile is the exact sum of its covers so far (NonZero), or agrees with it modulo 32 (EvenOdd); a dropped one counts
  -- as zeros
  pub sums : (id : ℕ) → FromRow cpu 16 (rule_in (table_on o) id) (suc (o.from + n)) id o.row (held_in (queue_on o n) id)
  -- a listed layer has the cover that comes in, and of the row's segments its own of the tile
  pub listed : (i : ℕ) → i < length (layers_on o n) → ListedIs (table_on o) o.row o.from n (get_or (layers_on o n) i no_listed)
  -- a layer that is not listed has 256 zeros; one outside the table has them by either rule
  pub unlisted : (id : ℕ) → is_unlisted (layers_on o n) id ≡ true → plane_on o n id ≡ replicate 256 (coverage_of 0)
  pub unknown : (id : ℕ) → is_unlisted (layers_on o n) id ≡ true → lookup (table_on o) id ≡ refused 8 → (rule : FillRule) →
      row_plane cpu 16 rule (suc (o.from + n)) id o.row ≡ replicate 256 (coverage_of 0)
  -- whatever is kept and cleared, a layer passed over as covered lies under a shown opaque draw of higher id that no clip cuts, whose 256 coverages
  -- are all 1
  pub covered : (k : kept.Kept) (clear : Color) (previous : Option Color) (i : ℕ) → i < (outcome_on o n k clear previous).skipped →
      CoveredUnder (table_on o) o.row o.from n (outcome_on o n k clear previous) i

-- ---- what is right of a call

pub record RightWork (o : OpenRow) (p : Past) (c : WorkChoice) (r : TileWorked) (back : WorkLent) : Type 0 where
  -- the answer, the state, the cached tile and every lent list, or the number of the refusal and all as it was
  pub gives : GivesWork (work_due o p c) r back
  -- where it is accepted: the carries handed on, read back from the lent columns, are the row's
  pub queue_read : work_due_verdict o p.tiles c ≡ pass → carries_in (length (queue_on o (suc p.tiles))) back.queue ≡ queue_on o (suc p.tiles)
  -- and the list read back is the row's: ids, incoming covers, whether a layer has segments and is changed by the table, and which layers are not masked off
  pub list_read : work_due_verdict o p.tiles c ≡ pass → entries_in (length (layers_on o p.tiles)) back.list ≡ map (entry_of (table_on o)) (layers_on o p.tiles)
  pub unmasked_read : work_due_verdict o p.tiles c ≡ pass →
      take (length (layers_on o p.tiles)) back.list.unmasked ≡ (outcome_on o p.tiles c.kept c.clear c.previous).unmasked

-- the layer's 256 coverages by working from the whole row, its mark by the tile's list and its earlier accepted paintings, and the painter's clip;
-- or the number of the refusal and all as it was
abbrev pub RightPaint : OpenRow → Past → PaintChoice → Painted → List Float → Type 0
RightPaint o p c r back = PaintsLayer (paint_due o p c) r back

-- a call with another row, table or queue that is turned down: its number, and all as it was
abbrev pub RightOtherWork : OpenRow → Past → WorkCall → WorkLent → TileWorked → WorkLent → Type 0
RightOtherWork o p a lent r back =
    (n : ℕ) → work_verdict a lent ≡ refuse n → GivesWork (record { answer = refused n; state = state_on o p; kept = a.kept; lent = lent }) r back

abbrev pub RightOtherPaint : OpenRow → Past → PaintCall → List Float → Painted → List Float → Type 0
RightOtherPaint o p a plane r back =
    (n : ℕ) → paint_verdict a plane ≡ refuse n → PaintsLayer (record { answer = refused n; state = state_on o p; plane = plane }) r back

abbrev pub Right : OpenRow → Past → Event → Type 0
Right o p (Event.work c r back) = RightWork o p c r back
Right o p (Event.paint c r back) = RightPaint o p c r back
Right o p (Event.other_work a lent r back) = RightOtherWork o p a lent r back
Right o p (Event.other_paint a plane r back) = RightOtherPaint o p a plane r back

-- what the calls tell of the past, by the verdicts that are due
abbrev pub past_after : OpenRow → Event → Past → Past
past_after o (Event.work c r back) p = past_work (work_due_verdict o p.tiles c) p
past_after o (Event.paint c r back) p = past_paint (paint_due_verdict o p.tiles c) o c.layer p
past_after o (Event.other_work a lent r back) p = p
past_after o (Event.other_paint a plane r back) p = p

abbrev pub AllRight : OpenRow → Past → List Event → Type 0
AllRight o p [] = Unit {0}
AllRight o p (e ∷ es) = Right o p e × AllRight o (past_after o e p) es

-- ---- the claim: for every accepted opening of a row of 64-bit words, and every list of calls after it

abbrev pub Claim : Type 0
Claim =
    (c : OpenCall) (lent back : Columns) (s : RowState) (es : List Event) (h : Held) →
    Words c.row →
    OpensRow (open_of c lent) (Ok s) back →
    Run (open_row c) (held_first s back) es h →
    ((n : ℕ) → TileFacts (open_row c) n) × AllRight (open_row c) at_first es
