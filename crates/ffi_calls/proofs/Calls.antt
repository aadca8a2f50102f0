-- The claim of specs/Calls: calls of works and paintings are calls of specs/ListingCalls, and what is right of them there is right here. Assumes nothing.
use Rattle.std.specs.Prelude.{◌∷◌}
use Rattle.laws.proofs.Prelude.{List, [], map}
use Rattle.row_statements.specs.Due.{OpenRow, Past}
use Rattle.listing_runs.specs.Run.{HeldList}
use Rattle.ffi_calls.specs.Calls.{HeldNumbers, NumbersTold, Calls, past_told, AllTold, CallsClaim}
use Rattle.ffi_calls.specs.ListingCalls.{held_both, lists_told, ListingTold, ListingCall, ListingCalls, AllListingTold, lists_told_all}
use Rattle.ffi_calls.proofs.ListingCalls.{listing_calls}

pub as_listing_calls : {o : OpenRow} {k k' : HeldNumbers} (ts : List NumbersTold) (ls : List HeldList) → Calls o k ts k' → ListingCalls o (held_both k ls) (map ListingTold.row ts) (held_both k' (lists_told_all ts ls))
as_listing_calls ts ls Calls.none = ListingCalls.none
as_listing_calls ts ls (Calls.next {t = t} {ts = rest} c more) = ListingCalls.next (ListingCall.row c) (as_listing_calls rest (lists_told t ls) more)

told_so : (o : OpenRow) (p : Past) (ts : List NumbersTold) → AllListingTold o p (map ListingTold.row ts) → AllTold o p ts
told_so o p [] all = tt
told_so o p (t ∷ ts) all = (all.0, told_so o (past_told o t p) ts all.1)

-- demand 3 by numbers
pub calls : CallsClaim
calls c lent back old new ts k w t cs = told_so _ _ ts (listing_calls c lent back old new (map ListingTold.row ts) _ w t (as_listing_calls ts [] cs)).1
