-- Runs: after every accepted opening every list of choices is that of some run's calls, with the verdicts that are due; runs of works and paintings are
-- runs of calls, by values and by numbers; the driver's lines are those of some run; a state written as numbers is read again. So the claims over runs
-- are empty for no opening.
use Rattle.std.specs.Prelude.{◌≡◌, ◌+◌, ◌≤◌, Ok}
use Rattle.laws.specs.Prelude.{List, [], map, ℕ, plus}
use Rattle.segment_rows.specs.Rows.{Words}
use Rattle.row_statements.specs.Lent.{Columns}
use Rattle.row_statements.specs.State.{State}
use Rattle.row_statements.specs.Opening.{OpenCall, open_of, OpensRow}
use Rattle.row_statements.specs.Due.{OpenRow, at_first}
use Rattle.row_statements.specs.Run.{open_row, Held, held_first, Event, Run}
use Rattle.row_statements.specs.Example.{Choice, choices_due, dues_of}
use Rattle.row_statements.specs.declared.RowState.{RowState}
use Rattle.row_lines.specs.Calls.{LinesTold}
use Rattle.listing_runs.specs.Run.{HeldList, HeldAll, held_with, RowCall, RowCalls, lists_past_all}
use Rattle.listing_runs.specs.Example.{CallChoice, call_choices_due, call_dues_of}
use Rattle.ffi_numbers.specs.Rows.{state_words, counts_of, state_from}
use Rattle.ffi_calls.specs.Calls.{HeldNumbers, NumbersTold, Calls}
use Rattle.ffi_calls.specs.ListingCalls.{held_both, ListingTold, ListingCalls, lists_told_all}

-- a run of these choices after an opening
pub record RunOf (o : OpenRow) (h : Held) (cs : List Choice) : Type 0 where
  pub events : List Event
  pub after : Held
  pub runs : Run o h events after
  pub dues : dues_of o at_first events ≡ choices_due o at_first cs

pub record CallsOf (o : OpenRow) (h : HeldAll) (cs : List CallChoice) : Type 0 where
  pub events : List RowCall
  pub after : HeldAll
  pub runs : RowCalls o h events after
  pub dues : call_dues_of o at_first events ≡ call_choices_due o at_first cs

pub record RunsExist : Type 0 where
  pub runs : (c : OpenCall) (lent back : Columns) (s : RowState) → Words c.row → OpensRow (open_of c lent) (Ok s) back → (cs : List Choice) →
      RunOf (open_row c) (held_first s back) cs
  pub calls : (c : OpenCall) (lent back : Columns) (s : RowState) → Words c.row → OpensRow (open_of c lent) (Ok s) back →
      (cs : List CallChoice) → CallsOf (open_row c) (held_with (held_first s back) []) cs
  -- the driver's lines are told by such a run
  pub lines : (c : OpenCall) (lent back : Columns) (s : RowState) (k : ℕ) → Words c.row → OpensRow (open_of c lent) (Ok s) back →
      plus c.from + k ≤ plus c.to → LinesTold c s back k

pub record RunsAlike : Type 0 where
  -- a run of works and paintings is a run of calls, by values and by numbers
  pub as_calls : {o : OpenRow} {h h' : Held} (es : List Event) (ls : List HeldList) → Run o h es h' →
      RowCalls o (held_with h ls) (map RowCall.row es) (held_with h' (lists_past_all es ls))
  pub as_listing_calls : {o : OpenRow} {k k' : HeldNumbers} (ts : List NumbersTold) (ls : List HeldList) → Calls o k ts k' →
      ListingCalls o (held_both k ls) (map ListingTold.row ts) (held_both k' (lists_told_all ts ls))
  -- a state written into a caller's words and counts is read again as it was
  pub state_again : (s : State) → state_from (state_words s) (counts_of s) ≡ s
