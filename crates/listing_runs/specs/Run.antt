-- A run of listings, decidings, works and paintings, refused ones included, as the calls went. The premise of each step is the operation's own contract, at
-- what the caller holds, chooses and lends. Beside the state and the queues the caller holds the lists that accepted listings and works left, one a
-- tile, and a deciding names one of them by its tile: it may come late, twice or out of order.
use Rattle.row_statements.specs.declared.TileDone.{TileDone}
use Rattle.refusals.specs.declared.Refusal.{Refusal}
use Rattle.std.specs.Prelude.{◌≡◌, ◌⊎◌, ◌∷◌, Result, Ok, Err}
use Rattle.laws.specs.Prelude.{Bool, List, [], ℕ, ℤ, take}
use Rattle.refusals.specs.Refusal.{refuse}
use Rattle.row_statements.specs.Lent.{Columns}
use Rattle.row_statements.specs.State.{State, state_in}
use Rattle.row_statements.specs.Due.{OpenRow}
use Rattle.row_statements.specs.Run.{Held, SameCarries, Event, Step}
use Rattle.listing_statements.specs.Listing.{TileList, ListCall, ListLent, entries_from, is_tile_list_short, list_call, listing_verdict, listing_of, ListsTile}
use Rattle.listing_statements.specs.Deciding.{DecideCall, decide_call, deciding_of, DecidesTile}
use Rattle.listing_statements.specs.Succession.{lent_part}
use Rattle.listing_statements.specs.declared.TileListed.{TileListed}
use Rattle.listing_statements.specs.declared.TileDecided.{TileDecided}
use Rattle.listing_runs.specs.Due.{ListChoice, DecideChoice}

-- ---- what the caller holds

-- the list of a tile, of so many entries
pub record HeldList : Type 0 where
  pub tile : ℤ
  pub count : ℕ
  pub list : TileList

-- between calls: the state and the queues, and the lists that were left, the last one first
pub record HeldAll : Type 0 where
  pub row : Held
  pub lists : List HeldList

abbrev pub held_with : Held → List HeldList → HeldAll
held_with row lists = record { row = row; lists = lists }

-- one of the lists that are held
abbrev pub AmongLists : HeldList → List HeldList → Type 0
AmongLists l [] = ⊥
AmongLists l (m ∷ ls) = (l ≡ m) ⊎ AmongLists l ls

-- memory that says the same n entries, and is judged alike by 1: a caller may keep a list in other columns
pub record SameEntries (n : ℕ) (a b : TileList) : Type 0 where
  pub reads : entries_from n b ≡ entries_from n a
  pub ids : take n b.ids ≡ take n a.ids
  pub room : is_tile_list_short b ≡ is_tile_list_short a

-- ---- the calls

-- a call as it went: a work or a painting, a listing, a deciding from a list of the row; a listing with another row, table or queue that is turned
-- down; and a deciding from any list, by any table
pub data RowCall : Type 0 where
  row : (e : Event) → RowCall
  list : (c : ListChoice) (r : TileListed) (back : ListLent) → RowCall
  decide : (c : DecideChoice) (r : TileDecided) (back : List Bool) → RowCall
  other_list : (a : ListCall) (lent : ListLent) (r : TileListed) (back : ListLent) → RowCall
  other_decide : (a : DecideCall) (unmasked : List Bool) (r : TileDecided) (back : List Bool) → RowCall

abbrev pub list_on : OpenRow → Held → ListChoice → ListCall
list_on o h c = list_call h.state c.tile o.row o.table c.queue

-- of as many entries as the call said that left the list
abbrev pub decide_on : OpenRow → HeldList → DecideChoice → DecideCall
decide_on o l c = decide_call c.list l.count o.table c.kept c.clear c.previous

-- what the caller holds after a listing, by the answer that it got
abbrev pub row_after : Result ℕ Refusal → State → Held → Columns → ListLent → Held
row_after (Err r) s h queue back = record { state = s; queue = h.queue; taken = h.taken }
row_after (Ok n) s h queue back = record { state = s; queue = back.queue; taken = queue }

abbrev pub lists_after : Result ℕ Refusal → ℤ → TileList → List HeldList → List HeldList
lists_after (Err r) tile lent ls = ls
lists_after (Ok n) tile lent ls = record { tile = tile; count = n; list = lent } ∷ ls

-- and after a work
abbrev pub lists_worked : Result TileDone Refusal → ℤ → TileList → List HeldList → List HeldList
lists_worked (Err r) tile lent ls = ls
lists_worked (Ok d) tile lent ls = record { tile = tile; count = d.listed; list = lent } ∷ ls

abbrev pub lists_past : Event → List HeldList → List HeldList
lists_past (Event.work c r back) ls = lists_worked r.answer c.tile (lent_part back).list ls
lists_past (Event.paint c r back) ls = ls
lists_past (Event.other_work a lent r back) ls = ls
lists_past (Event.other_paint a plane r back) ls = ls

pub data CallStep (o : OpenRow) : HeldAll → RowCall → HeldAll → Type 0 where
  row : {h : HeldAll} {e : Event} {k : Held} →
      Step o h.row e k →
      CallStep o h (RowCall.row e) (held_with k (lists_past e h.lists))
  list : {h : HeldAll} {c : ListChoice} {r : TileListed} {back : ListLent} →
      SameCarries h.row.state.left h.row.queue c.queue →
      ListsTile (listing_of (list_on o h.row c) c.lent) r back →
      CallStep o h (RowCall.list c r back)
      (held_with (row_after r.answer (state_in r.state) h.row c.queue back) (lists_after r.answer c.tile back.list h.lists))
  decide : {h : HeldAll} {l : HeldList} {c : DecideChoice} {r : TileDecided} {back : List Bool} →
      AmongLists l h.lists → l.tile ≡ c.tile → SameEntries l.count l.list c.list →
      DecidesTile (deciding_of (decide_on o l c) c.unmasked) r back →
      CallStep o h (RowCall.decide c r back) h
  other_list : {h : HeldAll} {a : ListCall} {lent : ListLent} {n : ℕ} {r : TileListed} {back : ListLent} →
      a.state ≡ h.row.state → listing_verdict a lent ≡ refuse n →
      ListsTile (listing_of a lent) r back →
      CallStep o h (RowCall.other_list a lent r back) (held_with (record { state = state_in r.state; queue = h.row.queue; taken = h.row.taken }) h.lists)
  other_decide : {h : HeldAll} {a : DecideCall} {unmasked : List Bool} {r : TileDecided} {back : List Bool} →
      DecidesTile (deciding_of a unmasked) r back →
      CallStep o h (RowCall.other_decide a unmasked r back) h

-- any list of calls
pub data RowCalls (o : OpenRow) : HeldAll → List RowCall → HeldAll → Type 0 where
  none : {h : HeldAll} → RowCalls o h [] h
  next : {h h' h'' : HeldAll} {e : RowCall} {es : List RowCall} → CallStep o h e h' → RowCalls o h' es h'' → RowCalls o h (e ∷ es) h''

abbrev pub lists_past_all : List Event → List HeldList → List HeldList
lists_past_all [] ls = ls
lists_past_all (e ∷ es) ls = lists_past_all es (lists_past e ls)
