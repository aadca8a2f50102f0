-- A work is a listing and then a deciding from what it left, with the same lent memory: where 1 to 6 pass they give the same, and no deciding after an
-- accepted listing is turned down. Stands for 'the old call judges 1 to 6 and is then their succession'. proofs/Succession proves it.
use Rattle.std.specs.Prelude.{◌≡◌}
use Rattle.laws.specs.Prelude.{Bool, List, ℕ, Answer, refused, given}
use Rattle.refusals.specs.Refusal.{pass}
use Rattle.segment_rows.specs.Rows.{Words}
use Rattle.row_statements.specs.Lent.{list_columns}
use Rattle.row_statements.specs.State.{State}
use Rattle.row_statements.specs.TileWork.{WorkCall, WorkLent, WorkGiven, TileAnswer, args_verdict, work_of}
use Rattle.listing_statements.specs.Listing.{ListCall, ListLent, ListGiven, list_call, list_lent, tile_list, listing_of}
use Rattle.listing_statements.specs.Deciding.{DecideCall, DecideSays, DecideGiven, decide_call, deciding_verdict, deciding_of}

-- ---- the listing of a work

abbrev pub listing_part : WorkCall → ListCall
listing_part c = list_call c.state c.tile c.row c.table c.queue

abbrev pub lent_part : WorkLent → ListLent
lent_part lent = list_lent lent.queue (tile_list lent.list.ids lent.list.covers lent.list.flags)

abbrev pub listing_first : WorkCall → WorkLent → ListGiven
listing_first c lent = listing_of (listing_part c) (lent_part lent)

-- ---- the deciding after it: from the columns that the listing left, of as many entries as it listed

abbrev pub deciding_part : WorkCall → ListLent → ℕ → DecideCall
deciding_part c back n = decide_call back.list n c.table c.kept c.clear c.previous

-- ---- what both give

abbrev pub both_told : ℕ → Answer DecideSays → Answer TileAnswer
both_told n (refused number) = refused number
both_told n (given t) = given (record { decision = t.decision; listed = n; skipped = t.skipped })

abbrev pub lent_both : ListLent → List Bool → WorkLent
lent_both back unmasked = record { queue = back.queue; list = list_columns back.list.ids back.list.covers back.list.flags unmasked }

abbrev pub decided_by : DecideGiven → ℕ → State → ListLent → WorkGiven
decided_by d n s back = record { answer = both_told n d.answer; state = s; kept = d.kept; lent = lent_both back d.unmasked }

-- a refused listing is followed by no deciding
abbrev pub then_deciding : Answer ℕ → WorkCall → State → ListLent → List Bool → WorkGiven
then_deciding (refused number) c s back unmasked = record { answer = refused number; state = s; kept = c.kept; lent = lent_both back unmasked }
then_deciding (given n) c s back unmasked = decided_by (deciding_of (deciding_part c back n) unmasked) n s back

abbrev pub in_succession : WorkCall → WorkLent → WorkGiven
in_succession c lent =
    then_deciding (listing_first c lent).answer c (listing_first c lent).state (listing_first c lent).lent lent.list.unmasked

-- ---- the law, of a row of 64-bit words

pub record Succeeds (c : WorkCall) (lent : WorkLent) : Type 0 where
  pub same : work_of c lent ≡ in_succession c lent
  pub accepted : (n : ℕ) → (listing_first c lent).answer ≡ given n → deciding_verdict (deciding_part c (listing_first c lent).lent n) lent.list.unmasked ≡ pass

abbrev pub Succession : Type 0
Succession = (c : WorkCall) (lent : WorkLent) → Words c.row → args_verdict c lent ≡ pass → Succeeds c lent
