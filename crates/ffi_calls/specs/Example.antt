-- The claims are not empty: after every opening that tells 0, every list of choices (listing_runs/specs/Example) is that of some calls by numbers, with
-- the verdicts that are due. proofs/Existing has it; specs/Example of listing_runs has an opening that is accepted and choices with each kind of call,
-- those with another row, table, queue and list too.
use Rattle.std.specs.Prelude.{◌≡◌, ◌∷◌}
use Rattle.laws.specs.Prelude.{List, []}
use Rattle.refusals.specs.Refusal.{Judgement}
use Rattle.segment_rows.specs.Rows.{Words}
use Rattle.row_statements.specs.Lent.{Columns}
use Rattle.row_statements.specs.Opening.{OpenCall, open_of}
use Rattle.row_statements.specs.TileWork.{work_verdict}
use Rattle.row_statements.specs.Painting.{paint_verdict}
use Rattle.row_statements.specs.Due.{OpenRow, Past, at_first, work_due_verdict, paint_due_verdict}
use Rattle.row_statements.specs.Run.{open_row}
use Rattle.listing_statements.specs.Listing.{listing_verdict}
use Rattle.listing_statements.specs.Deciding.{deciding_verdict}
use Rattle.listing_runs.specs.Due.{list_due_verdict, decide_due_verdict}
use Rattle.listing_runs.specs.Example.{CallChoice, call_choices_due}
use Rattle.ffi_numbers.specs.Rows.{StateNumbers, OpenTold}
use Rattle.ffi_calls.specs.Calls.{held_opened, NumbersTold}
use Rattle.ffi_calls.specs.ListingCalls.{HeldByNumbers, held_both, ListingTold, ListingCalls, past_listing_told}

-- the verdicts that are due of calls
unfoldable pub dues_told : OpenRow → Past → List ListingTold → List Judgement
dues_told o p [] = []
dues_told o p (ListingTold.row (NumbersTold.work c old r new back) ∷ ts) = work_due_verdict o p.tiles c ∷ dues_told o (past_listing_told o (ListingTold.row (NumbersTold.work c old r new back)) p) ts
dues_told o p (ListingTold.row (NumbersTold.paint c old r new back) ∷ ts) = paint_due_verdict o p.tiles c ∷ dues_told o (past_listing_told o (ListingTold.row (NumbersTold.paint c old r new back)) p) ts
dues_told o p (ListingTold.list c old r new back ∷ ts) = list_due_verdict o p.tiles c ∷ dues_told o (past_listing_told o (ListingTold.list c old r new back) p) ts
dues_told o p (ListingTold.decide c old r new back ∷ ts) = decide_due_verdict c ∷ dues_told o p ts
dues_told o p (ListingTold.other_work a lent old r new back ∷ ts) = work_verdict a lent ∷ dues_told o p ts
dues_told o p (ListingTold.other_paint a plane old r new back ∷ ts) = paint_verdict a plane ∷ dues_told o p ts
dues_told o p (ListingTold.other_list a lent old r new back ∷ ts) = listing_verdict a lent ∷ dues_told o p ts
dues_told o p (ListingTold.other_decide a unmasked old r new back ∷ ts) = deciding_verdict a unmasked ∷ dues_told o p ts

-- calls that these choices make
pub record CalledSo (o : OpenRow) (p : Past) (k : HeldByNumbers) (cs : List CallChoice) : Type 0 where
  pub told : List ListingTold
  pub after : HeldByNumbers
  pub calls : ListingCalls o k told after
  pub dues : dues_told o p told ≡ call_choices_due o p cs

abbrev pub CallsExist : Type 0
CallsExist =
    (c : OpenCall) (lent back : Columns) (old new : StateNumbers) (cs : List CallChoice) →
    Words c.row →
    OpenTold (open_of c lent) old 0 new back →
    CalledSo (open_row c) at_first (held_both (held_opened new back) []) cs
