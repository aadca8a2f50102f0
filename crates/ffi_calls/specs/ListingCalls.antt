-- Demand 3 for callers of the exports, with listings and decidings: an accepted opening and any list of works, paintings, listings and decidings
-- after it, told by numbers and lent slices alone, as specs/Calls has it of works and paintings. Every call tells what is due of it
-- (listing_runs/specs/Due). Beside the numbers the caller holds the lists that accepted listings and works left, one a tile, each of as many entries
-- as the call told, and a deciding names one of them by its tile. Stands for W-206's 'what holds along a row holds for lists decided as the listing
-- call left them'. proofs/ListingCalls proves it.
use Rattle.std.specs.Prelude.{◌≡◌, ◌∷◌, ◌<◌}
use Rattle.laws.specs.Prelude.{Bool, List, [], ℕ, zero, suc, Float, get_or, refused}
use Rattle.refusals.specs.Refusal.{refuse}
use Rattle.segment_rows.specs.Rows.{Words}
use Rattle.row_statements.specs.Lent.{Columns}
use Rattle.row_statements.specs.Opening.{OpenCall, open_of}
use Rattle.row_statements.specs.TileWork.{WorkCall, WorkLent, work_verdict, work_of}
use Rattle.row_statements.specs.Painting.{PaintCall, paint_verdict, paint_of}
use Rattle.row_statements.specs.Due.{OpenRow, Past, at_first, state_on, past_work}
use Rattle.row_statements.specs.Run.{open_row, SameCarries}
use Rattle.row_statements.specs.Claim.{TileFacts}
use Rattle.listing_statements.specs.Listing.{ListCall, ListLent, listing_verdict, listing_of}
use Rattle.listing_statements.specs.Deciding.{DecideCall, deciding_of}
use Rattle.listing_statements.specs.Succession.{lent_part}
use Rattle.listing_runs.specs.Due.{ListChoice, list_due_verdict, list_due, DecideChoice, nth_on, decide_due}
use Rattle.listing_runs.specs.Run.{HeldList, HeldAll, held_with, AmongLists, SameEntries, list_on, decide_on}
use Rattle.ffi_numbers.specs.Rows.{StateNumbers, OpenTold}
use Rattle.ffi.specs.Work.{WorkNumbers, WorkTold}
use Rattle.ffi.specs.Painting.{PaintNumbers, PaintTold}
use Rattle.ffi.specs.Listing.{ListNumbers, list_numbers, ListTold}
use Rattle.ffi.specs.Deciding.{DecideNumbers, DecideTold}
use Rattle.ffi_calls.specs.Calls.{HeldNumbers, held_from, held_opened, NumbersTold, Call, RightTold, past_told}

-- ---- what the caller holds between calls: the row's numbers and queues, and the lists that were left, the last one first

pub record HeldByNumbers : Type 0 where
  pub row : HeldNumbers
  pub lists : List HeldList

abbrev pub held_both : HeldNumbers → List HeldList → HeldByNumbers
held_both row lists = record { row = row; lists = lists }

abbrev pub all_from : HeldByNumbers → HeldAll
all_from k = held_with (held_from k.row) k.lists

-- after a listing, by its number: 0 says that it is accepted
abbrev pub held_listed : ℕ → HeldNumbers → ListNumbers → Columns → ListLent → HeldNumbers
held_listed zero k new queue back = record { words = new.words; counts = new.counts; queue = back.queue; taken = queue }
held_listed (suc n) k new queue back = record { words = new.words; counts = new.counts; queue = k.queue; taken = k.taken }

-- the lists after a listing or a work, by its number and the list that it then left
abbrev pub lists_left : ℕ → HeldList → List HeldList → List HeldList
lists_left zero l ls = l ∷ ls
lists_left (suc n) l ls = ls

-- of the four numbers that a work tells the third says how many layers are listed
abbrev pub list_left : WorkNumbers → ℕ
list_left new = get_or new.told 2 0

abbrev pub lists_told : NumbersTold → List HeldList → List HeldList
lists_told (NumbersTold.work c old r new back) ls = lists_left r (record { tile = c.tile; count = list_left new; list = (lent_part back).list }) ls
lists_told (NumbersTold.paint c old r new back) ls = ls

-- with other numbers of the state
abbrev pub held_still : List ℕ → List ℕ → HeldByNumbers → HeldByNumbers
held_still words counts k = held_both (record { words = words; counts = counts; queue = k.row.queue; taken = k.row.taken }) k.lists

-- ---- calls as they went: a work or a painting, a listing, a deciding from a list of the row; a call with another row, table or queue that is turned
-- down; and a deciding from any list, by any table

pub data ListingTold : Type 0 where
  row : (t : NumbersTold) → ListingTold
  list : (c : ListChoice) (old : ListNumbers) (r : ℕ) (new : ListNumbers) (back : ListLent) → ListingTold
  decide : (c : DecideChoice) (old : DecideNumbers) (r : ℕ) (new : DecideNumbers) (back : List Bool) → ListingTold
  other_work : (a : WorkCall) (lent : WorkLent) (old : WorkNumbers) (r : ℕ) (new : WorkNumbers) (back : WorkLent) → ListingTold
  other_paint : (a : PaintCall) (plane : List Float) (old : PaintNumbers) (r : ℕ) (new : PaintNumbers) (back : List Float) → ListingTold
  other_list : (a : ListCall) (lent : ListLent) (old : ListNumbers) (r : ℕ) (new : ListNumbers) (back : ListLent) → ListingTold
  other_decide : (a : DecideCall) (unmasked : List Bool) (old : DecideNumbers) (r : ℕ) (new : DecideNumbers) (back : List Bool) → ListingTold

-- the numbers of the state that are lent are those that the caller holds
abbrev pub LendsState : HeldByNumbers → List ℕ → List ℕ → Type 0
LendsState k words counts = (words ≡ k.row.words) × (counts ≡ k.row.counts)

pub data ListingCall (o : OpenRow) : HeldByNumbers → ListingTold → HeldByNumbers → Type 0 where
  row : {k : HeldByNumbers} {t : NumbersTold} {k' : HeldNumbers} →
      Call o k.row t k' →
      ListingCall o k (ListingTold.row t) (held_both k' (lists_told t k.lists))
  list : {k : HeldByNumbers} {c : ListChoice} {listed r : ℕ} {new : ListNumbers} {back : ListLent} →
      SameCarries (held_from k.row).state.left k.row.queue c.queue →
      ListTold (listing_of (list_on o (held_from k.row) c) c.lent) (list_numbers k.row.words k.row.counts listed) r new back →
      ListingCall o k (ListingTold.list c (list_numbers k.row.words k.row.counts listed) r new back)
      (held_both (held_listed r k.row new c.queue back) (lists_left r (record { tile = c.tile; count = new.listed; list = back.list }) k.lists))
  decide : {k : HeldByNumbers} {l : HeldList} {c : DecideChoice} {old : DecideNumbers} {r : ℕ} {new : DecideNumbers} {back : List Bool} →
      AmongLists l k.lists → l.tile ≡ c.tile → SameEntries l.count l.list c.list →
      DecideTold (deciding_of (decide_on o l c) c.unmasked) old r new back →
      ListingCall o k (ListingTold.decide c old r new back) k
  other_work : {k : HeldByNumbers} {a : WorkCall} {lent : WorkLent} {n : ℕ} {old : WorkNumbers} {r : ℕ} {new : WorkNumbers} {back : WorkLent} →
      LendsState k old.words old.counts → work_verdict a lent ≡ refuse n →
      WorkTold (work_of a lent) old r new back →
      ListingCall o k (ListingTold.other_work a lent old r new back) (held_still new.words new.counts k)
  other_paint : {k : HeldByNumbers} {a : PaintCall} {plane : List Float} {n : ℕ} {old : PaintNumbers} {r : ℕ} {new : PaintNumbers} {back : List Float} →
      LendsState k old.words old.counts → paint_verdict a plane ≡ refuse n →
      PaintTold (paint_of a plane) old r new back →
      ListingCall o k (ListingTold.other_paint a plane old r new back) (held_still new.words new.counts k)
  other_list : {k : HeldByNumbers} {a : ListCall} {lent : ListLent} {n : ℕ} {old : ListNumbers} {r : ℕ} {new : ListNumbers} {back : ListLent} →
      LendsState k old.words old.counts → listing_verdict a lent ≡ refuse n →
      ListTold (listing_of a lent) old r new back →
      ListingCall o k (ListingTold.other_list a lent old r new back) (held_still new.words new.counts k)
  other_decide : {k : HeldByNumbers} {a : DecideCall} {unmasked : List Bool} {old : DecideNumbers} {r : ℕ} {new : DecideNumbers} {back : List Bool} →
      DecideTold (deciding_of a unmasked) old r new back →
      ListingCall o k (ListingTold.other_decide a unmasked old r new back) k

pub data ListingCalls (o : OpenRow) : HeldByNumbers → List ListingTold → HeldByNumbers → Type 0 where
  none : {k : HeldByNumbers} → ListingCalls o k [] k
  next : {k k' k'' : HeldByNumbers} {t : ListingTold} {ts : List ListingTold} → ListingCall o k t k' → ListingCalls o k' ts k'' → ListingCalls o k (t ∷ ts) k''

-- ---- what is right of them: the numbers and the lent lists are those of what is due; of a deciding also that its tile is one of those whose listing
-- or work was due to be accepted. A call with another row, table or queue says its number, and all is as it was

abbrev pub RightListingTold : OpenRow → Past → ListingTold → Type 0
RightListingTold o p (ListingTold.row t) = RightTold o p t
RightListingTold o p (ListingTold.list c old r new back) = ListTold (list_due o p c) old r new back
RightListingTold o p (ListingTold.decide c old r new back) = (nth_on o c < p.tiles) × DecideTold (decide_due o c) old r new back
RightListingTold o p (ListingTold.other_work a lent old r new back) =
    (n : ℕ) → work_verdict a lent ≡ refuse n → WorkTold (record { answer = refused n; state = state_on o p; kept = a.kept; lent = lent }) old r new back
RightListingTold o p (ListingTold.other_paint a plane old r new back) =
    (n : ℕ) → paint_verdict a plane ≡ refuse n → PaintTold (record { answer = refused n; state = state_on o p; plane = plane }) old r new back
RightListingTold o p (ListingTold.other_list a lent old r new back) =
    (n : ℕ) → listing_verdict a lent ≡ refuse n → ListTold (record { answer = refused n; state = state_on o p; lent = lent }) old r new back
RightListingTold o p (ListingTold.other_decide a unmasked old r new back) = DecideTold (deciding_of a unmasked) old r new back

-- what they tell of the past, by the verdicts that are due: a listing ends a tile as a work does, and a deciding tells nothing
abbrev pub past_listing_told : OpenRow → ListingTold → Past → Past
past_listing_told o (ListingTold.row t) p = past_told o t p
past_listing_told o (ListingTold.list c old r new back) p = past_work (list_due_verdict o p.tiles c) p
past_listing_told o (ListingTold.decide c old r new back) p = p
past_listing_told o (ListingTold.other_work a lent old r new back) p = p
past_listing_told o (ListingTold.other_paint a plane old r new back) p = p
past_listing_told o (ListingTold.other_list a lent old r new back) p = p
past_listing_told o (ListingTold.other_decide a unmasked old r new back) p = p

abbrev pub AllListingTold : OpenRow → Past → List ListingTold → Type 0
AllListingTold o p [] = Unit {0}
AllListingTold o p (t ∷ ts) = RightListingTold o p t × AllListingTold o (past_listing_told o t p) ts

-- ---- the claim; what the row alone says of every tile stands beside it

abbrev pub ListingCallsClaim : Type 0
ListingCallsClaim =
    (c : OpenCall) (lent back : Columns) (old new : StateNumbers) (ts : List ListingTold) (k : HeldByNumbers) →
    Words c.row →
    OpenTold (open_of c lent) old 0 new back →
    ListingCalls (open_row c) (held_both (held_opened new back) []) ts k →
    ((n : ℕ) → TileFacts (open_row c) n) × AllListingTold (open_row c) at_first ts

-- the lists that works leave are held besides
abbrev pub lists_told_all : List NumbersTold → List HeldList → List HeldList
lists_told_all [] ls = ls
lists_told_all (t ∷ ts) ls = lists_told_all ts (lists_told t ls)
