-- The claim of specs/Claim: between calls the caller holds the row's carries and the lists of the tiles that are past, each call keeps that, and what is
-- held makes each call right. Assumes nothing.
use Rattle.std.specs.Prelude.{◌≡◌}
use Rattle.laws.proofs.Prelude.{subst, ◌∙◌, List, map}
use Rattle.refusals.specs.Refusal.{Judgement, refuse}
use Rattle.layer_carrying.specs.Carrying.{handed_on}
use Rattle.row_statements.specs.Lent.{layers_of}
use Rattle.row_statements.specs.Due.{OpenRow, Past}
use Rattle.row_statements.specs.Run.{Held, Event, Run}
use Rattle.row_statements.specs.InnerHolding.{IsOpen, Holds}
use Rattle.row_statements.proofs.Run.{facts, step_right, still_holds, accepted, is_open, held_first_lem}
use Rattle.listing_statements.specs.Listing.{ListCall, ListLent, listed_by, listing_out, listing_of, ListsTile}
use Rattle.listing_statements.specs.declared.TileListed.{TileListed}
use Rattle.listing_runs.specs.Run.{HeldList, HeldAll, held_with, RowCall, lists_past, CallStep, RowCalls, lists_past_all}
use Rattle.listing_runs.specs.Claim.{RightOtherListing, RightCall, past_call, AllCallsRight, ListingClaim}
use Rattle.listing_runs.specs.InnerHolding.{HoldsAll}
use Rattle.listing_runs.proofs.Lists.{found}
use Rattle.listing_runs.proofs.Steps.{right_list, after_event, right_decide}

-- a listing with another row, table or queue that is turned down
other_list : {o : OpenRow} {p : Past} {h : Held} → Holds o p h → (a : ListCall) (lent : ListLent) {r : TileListed} {back : ListLent} → a.state ≡ h.state → ListsTile (listing_of a lent) r back → RightOtherListing o p a lent r back
unfolding listing_out
other_list holds a lent {r} {back} es g n e =
    let d : ListsTile (listing_out (refuse n) (layers_of a.table) (listed_by a) (handed_on (layers_of a.table) (listed_by a)) a.state lent) r back =
    subst (λ (v : Judgement). ListsTile (listing_out v (layers_of a.table) (listed_by a) (handed_on (layers_of a.table) (listed_by a)) a.state lent) r back) e g in
    record { answer = d.answer; state = d.state ∙ es ∙ holds.state; lent_is = d.lent_is }

-- ---- one call, and any list of them

pub call_right : {o : OpenRow} {p : Past} {h h' : HeldAll} {e : RowCall} → IsOpen o → HoldsAll o p h → CallStep o h e h' → RightCall o p e × HoldsAll o (past_call o e p) h'
call_right {o} {p} is_open holds (CallStep.row {h = h} {e = e} step) =
    let u = step_right is_open holds.row step in
    (u.0, record { row = u.1; lists = after_event is_open p e h.lists u.0 holds.lists })
call_right is_open holds (CallStep.list {h = h} {c = c} same g) = right_list is_open holds.row c same h.lists g holds.lists
call_right {o} {p} is_open holds (CallStep.decide {h = h} {l = l} {c = c} among et same g) =
    let f = found p.tiles h.lists holds.lists among in
    (right_decide is_open f.at l f.holds c et same p f.before g, holds)
call_right is_open holds (CallStep.other_list {a = a} {lent = lent} {n = n} es e g) =
    let right = other_list holds.row a lent es g in
    (right, record { row = still_holds holds.row (right n e).state; lists = holds.lists })
call_right is_open holds (CallStep.other_decide g) = (g, holds)

pub calls_right : {o : OpenRow} {p : Past} {h h' : HeldAll} {es : List RowCall} → IsOpen o → HoldsAll o p h → RowCalls o h es h' → AllCallsRight o p es
calls_right is_open holds RowCalls.none = tt
calls_right {o = o} {p = p} is_open holds (RowCalls.next {e = e} s rest) =
    let u = call_right is_open holds s in
    (u.0, calls_right {p = past_call o e p} is_open u.1 rest)

-- demand 3, with listings and decidings
pub run : ListingClaim
run c lent back s es h w g r =
    let a = accepted c lent back s g in
    let opened_row = is_open c lent back s w a in
    (facts opened_row, calls_right opened_row (record { row = held_first_lem c lent back s w a; lists = tt }) r)

-- ---- a run of works and paintings is a run of calls: what is proved of it stays

pub as_calls : {o : OpenRow} {h h' : Held} (es : List Event) (ls : List HeldList) → Run o h es h' → RowCalls o (held_with h ls) (map RowCall.row es) (held_with h' (lists_past_all es ls))
as_calls es ls Run.none = RowCalls.none
as_calls es ls (Run.next {e = e} {es = rest} step run_on) = RowCalls.next (CallStep.row step) (as_calls rest (lists_past e ls) run_on)
