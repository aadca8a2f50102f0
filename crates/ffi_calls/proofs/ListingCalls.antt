-- The claim of specs/ListingCalls: between calls the caller holds by numbers what it holds in a run, each call keeps that, and what is held makes each
-- call tell what is due. Assumes nothing.
use Rattle.std.specs.Prelude.{◌≡◌}
use Rattle.laws.proofs.Prelude.{refl, ap, ap₂, subst, ◌∙◌, List, ℕ, Float}
use Rattle.refusals.specs.Refusal.{Judgement, refuse}
use Rattle.layer_carrying.specs.Carrying.{handed_on}
use Rattle.row_statements.specs.Lent.{layers_of}
use Rattle.row_statements.specs.TileWork.{WorkCall, WorkLent, says_for, work_out, work_of}
use Rattle.row_statements.specs.Painting.{PaintCall, paint_says, taken_for, part_for, paint_out, paint_of}
use Rattle.row_statements.specs.Due.{OpenRow, Past}
use Rattle.row_statements.specs.InnerHolding.{IsOpen}
use Rattle.row_statements.proofs.Run.{facts, still_holds}
use Rattle.listing_statements.specs.Listing.{ListCall, ListLent, listed_by, listing_out, listing_of}
use Rattle.listing_runs.specs.InnerHolding.{HoldsAll}
use Rattle.ffi_numbers.specs.Rows.{state_from}
use Rattle.ffi.specs.Work.{WorkNumbers, WorkTold}
use Rattle.ffi.specs.Painting.{PaintNumbers, PaintTold}
use Rattle.ffi.specs.Listing.{ListNumbers, ListTold}
use Rattle.ffi_calls.specs.Calls.{held_from, Call}
use Rattle.ffi_calls.specs.ListingCalls.{HeldByNumbers, held_still, all_from, ListingTold, LendsState, ListingCall, ListingCalls, RightListingTold, past_listing_told, AllListingTold, ListingCallsClaim}
use Rattle.ffi_calls.proofs.Numbers.{opened_held}
use Rattle.ffi_calls.proofs.Steps.{worked_right, painted_right, listed_right, decided_right}

-- ---- calls with another row, table or queue that are turned down: by the contract alone

module _ (o : OpenRow) (p : Past) {r : ℕ} where
  other_work : (a : WorkCall) (lent : WorkLent) {old new : WorkNumbers} {back : WorkLent} → WorkTold (work_of a lent) old r new back → RightListingTold o p (ListingTold.other_work a lent old r new back)
  unfolding work_out
  other_work a lent {old} {new} {back} t n e =
      let d : WorkTold (work_out (refuse n) (says_for a) a.state a.kept lent) old r new back = subst (λ (v : Judgement). WorkTold (work_out v (says_for a) a.state a.kept lent) old r new back) e t in
      record { number = d.number; numbers = d.numbers; lent_is = d.lent_is }

  other_paint : (a : PaintCall) (plane : List Float) {old new : PaintNumbers} {back : List Float} → PaintTold (paint_of a plane) old r new back → RightListingTold o p (ListingTold.other_paint a plane old r new back)
  unfolding paint_out
  other_paint a plane {old} {new} {back} t n e =
      let says = paint_says (layers_of a.table) (taken_for a) (part_for a) a.layer a.state.clip in
      let d : PaintTold (paint_out (refuse n) says a.state plane) old r new back = subst (λ (v : Judgement). PaintTold (paint_out v says a.state plane) old r new back) e t in
      record { number = d.number; numbers = d.numbers; plane_is = d.plane_is }

  other_list : (a : ListCall) (lent : ListLent) {old new : ListNumbers} {back : ListLent} → ListTold (listing_of a lent) old r new back → RightListingTold o p (ListingTold.other_list a lent old r new back)
  unfolding listing_out
  other_list a lent {old} {new} {back} t n e =
      let table = layers_of a.table in
      let d : ListTold (listing_out (refuse n) table (listed_by a) (handed_on table (listed_by a)) a.state lent) old r new back =
      subst (λ (v : Judgement). ListTold (listing_out v table (listed_by a) (handed_on table (listed_by a)) a.state lent) old r new back) e t in
      record { number = d.number; numbers = d.numbers; lent_is = d.lent_is }

-- the numbers are those that the caller held
still : {o : OpenRow} {p : Past} (k : HeldByNumbers) {words counts words' counts' : List ℕ} → HoldsAll o p (all_from k) → LendsState k words counts → words' ≡ words → counts' ≡ counts → HoldsAll o p (all_from (held_still words' counts' k))
still k {words} {counts} {words'} {counts'} holds lends ew ec =
    let es : state_from words' counts' ≡ (held_from k.row).state = ap₂ state_from (ew ∙ lends.0) (ec ∙ lends.1) in
    record { row = still_holds holds.row (es ∙ holds.row.state); lists = holds.lists }

-- ---- one call, and any list of them

pub told_right : {o : OpenRow} {p : Past} {k k' : HeldByNumbers} {t : ListingTold} → IsOpen o → HoldsAll o p (all_from k) → ListingCall o k t k' → RightListingTold o p t × HoldsAll o (past_listing_told o t p) (all_from k')
told_right {k = k} is_open holds (ListingCall.row (Call.work {c = c} same t)) = worked_right is_open k holds c same _ _ _ _ refl t
told_right {k = k} is_open holds (ListingCall.row (Call.paint {c = c} same t)) = painted_right is_open k holds c same _ _ _ _ refl t
told_right {k = k} is_open holds (ListingCall.list {c = c} same t) = listed_right is_open k holds c same _ _ _ _ refl t
told_right {k = k} is_open holds (ListingCall.decide {c = c} among et same t) = (decided_right is_open k holds c among et same t, holds)
told_right {o} {p} {k} is_open holds (ListingCall.other_work {a = a} {lent = lent} {n = n} lends e t) =
    let right = other_work o p a lent t in
    (right, still k holds lends (ap (λ (m : WorkNumbers). m.words) (right n e).numbers) (ap (λ (m : WorkNumbers). m.counts) (right n e).numbers))
told_right {o} {p} {k} is_open holds (ListingCall.other_paint {a = a} {plane = plane} {n = n} lends e t) =
    let right = other_paint o p a plane t in
    (right, still k holds lends (ap (λ (m : PaintNumbers). m.words) (right n e).numbers) (ap (λ (m : PaintNumbers). m.counts) (right n e).numbers))
told_right {o} {p} {k} is_open holds (ListingCall.other_list {a = a} {lent = lent} {n = n} lends e t) =
    let right = other_list o p a lent t in
    (right, still k holds lends (ap (λ (m : ListNumbers). m.words) (right n e).numbers) (ap (λ (m : ListNumbers). m.counts) (right n e).numbers))
told_right is_open holds (ListingCall.other_decide t) = (t, holds)

all_right : {o : OpenRow} {k k' : HeldByNumbers} {p : Past} {ts : List ListingTold} → IsOpen o → HoldsAll o p (all_from k) → ListingCalls o k ts k' → AllListingTold o p ts
all_right is_open holds ListingCalls.none = tt
all_right is_open holds (ListingCalls.next c rest) =
    let u = told_right is_open holds c in
    (u.0, all_right is_open u.1 rest)

-- demand 3 by numbers, with listings and decidings
pub listing_calls : ListingCallsClaim
listing_calls c lent back old new ts k w t cs =
    let u = opened_held c lent w t in
    (facts u.0, all_right u.0 (record { row = u.1; lists = tt }) cs)
