-- Demand 3 over runs with listings and decidings: every call gives what is due of it, worked from the whole row (specs/Due, and
-- row_statements/specs/Due of works and paintings), and what the row alone says of every tile holds as before. Stands for 'what holds along a row holds for lists decided as
-- the listing call left them'. proofs/Run proves it; specs/Example has a run that meets its premises.
use Rattle.std.specs.Prelude.{◌≡◌, ◌∷◌, ◌<◌, Ok}
use Rattle.laws.specs.Prelude.{Bool, List, [], map, ℕ, suc, length, take, refused}
use Rattle.refusals.specs.Refusal.{pass, refuse}
use Rattle.segment_rows.specs.Rows.{Words}
use Rattle.layer_workbench.specs.Work.{entry_of}
use Rattle.row_carries.specs.Covering.{CoveredUnder}
use Rattle.row_statements.specs.Lent.{Columns, carries_in}
use Rattle.row_statements.specs.Opening.{OpenCall, open_of, OpensRow}
use Rattle.row_statements.specs.Due.{OpenRow, Past, at_first, table_on, queue_on, layers_on, state_on, past_work}
use Rattle.row_statements.specs.Run.{open_row, held_first}
use Rattle.row_statements.specs.Claim as row
use Rattle.row_statements.specs.Claim.{TileFacts}
use Rattle.row_statements.specs.declared.RowState.{RowState}
use Rattle.listing_statements.specs.Listing.{ListCall, ListLent, entries_from, listing_verdict, ListsTile}
use Rattle.listing_statements.specs.Deciding.{deciding_of, DecidesTile}
use Rattle.listing_statements.specs.declared.TileListed.{TileListed}
use Rattle.listing_statements.specs.declared.TileDecided.{TileDecided}
use Rattle.listing_runs.specs.Due.{ListChoice, list_due_verdict, list_due, DecideChoice, nth_on, decide_due_verdict, outcome_due, decide_due}
use Rattle.listing_runs.specs.Run.{HeldAll, held_with, RowCall, RowCalls}

-- ---- what is right of a call

pub record RightListing (o : OpenRow) (p : Past) (c : ListChoice) (r : TileListed) (back : ListLent) : Type 0 where
  -- the answer, the state and every lent list, or the number of the refusal and all as it was
  pub gives : ListsTile (list_due o p c) r back
  -- where it is accepted: the carries handed on and the list, read back from the lent columns, are the row's
  pub queue_read : list_due_verdict o p.tiles c ≡ pass → carries_in (length (queue_on o (suc p.tiles))) back.queue ≡ queue_on o (suc p.tiles)
  pub list_read : list_due_verdict o p.tiles c ≡ pass → entries_from (length (layers_on o p.tiles)) back.list ≡ map (entry_of (table_on o)) (layers_on o p.tiles)

pub record RightDeciding (o : OpenRow) (p : Past) (c : DecideChoice) (r : TileDecided) (back : List Bool) : Type 0 where
  -- the tile that is named is one of those whose listing or work was due to be accepted
  pub past : nth_on o c < p.tiles
  -- the answer, the cached tile and the mask column, or the number of the refusal and all as it was
  pub gives : DecidesTile (decide_due o c) r back
  -- where it is accepted: which layers are not masked off
  pub unmasked_read : decide_due_verdict c ≡ pass → take (length (layers_on o (nth_on o c))) back ≡ (outcome_due o c).unmasked
  -- a layer passed over as covered lies under a shown opaque draw of higher id that no clip cuts, whose 256 coverages are all 1
  pub covered : (i : ℕ) → i < (outcome_due o c).skipped → CoveredUnder (table_on o) o.row o.from (nth_on o c) (outcome_due o c) i

-- a listing with another row, table or queue that is turned down: its number, and all as it was
abbrev pub RightOtherListing : OpenRow → Past → ListCall → ListLent → TileListed → ListLent → Type 0
RightOtherListing o p a lent r back =
    (n : ℕ) → listing_verdict a lent ≡ refuse n → ListsTile (record { answer = refused n; state = state_on o p; lent = lent }) r back

-- of a deciding from another list, or by another table, its contract alone speaks
abbrev pub RightCall : OpenRow → Past → RowCall → Type 0
RightCall o p (RowCall.row e) = row.Right o p e
RightCall o p (RowCall.list c r back) = RightListing o p c r back
RightCall o p (RowCall.decide c r back) = RightDeciding o p c r back
RightCall o p (RowCall.other_list a lent r back) = RightOtherListing o p a lent r back
RightCall o p (RowCall.other_decide a unmasked r back) = DecidesTile (deciding_of a unmasked) r back

-- what the calls tell of the past, by the verdicts that are due: a listing ends a tile as a work does, and a deciding tells nothing
abbrev pub past_call : OpenRow → RowCall → Past → Past
past_call o (RowCall.row e) p = row.past_after o e p
past_call o (RowCall.list c r back) p = past_work (list_due_verdict o p.tiles c) p
past_call o (RowCall.decide c r back) p = p
past_call o (RowCall.other_list a lent r back) p = p
past_call o (RowCall.other_decide a unmasked r back) p = p

abbrev pub AllCallsRight : OpenRow → Past → List RowCall → Type 0
AllCallsRight o p [] = Unit {0}
AllCallsRight o p (e ∷ es) = RightCall o p e × AllCallsRight o (past_call o e p) es

-- ---- the claim: for every accepted opening of a row of 64-bit words, and every list of calls after it

abbrev pub ListingClaim : Type 0
ListingClaim =
    (c : OpenCall) (lent back : Columns) (s : RowState) (es : List RowCall) (h : HeldAll) →
    Words c.row →
    OpensRow (open_of c lent) (Ok s) back →
    RowCalls (open_row c) (held_with (held_first s back) []) es h →
    ((n : ℕ) → TileFacts (open_row c) n) × AllCallsRight (open_row c) at_first es
