-- After every accepted opening, every work on its first tile that no condition refuses is an accepted work of some run. Assumes nothing.
use Rattle.std.specs.Prelude.{◌≡◌, ◌∷◌, Ok}
use Rattle.laws.proofs.Prelude.{ap, ◌∙◌, List, [], ℕ, given}
use Rattle.refusals.specs.Refusal.{Judgement, pass}
use Rattle.segment_rows.specs.Rows.{Words}
use Rattle.row_statements.specs.Lent.{Columns}
use Rattle.row_statements.specs.Opening.{OpenCall, open_of, OpensRow}
use Rattle.row_statements.specs.TileWork.{tile_answer, work_out, work_answer}
use Rattle.row_statements.specs.Due.{at_first, WorkChoice, work_due_verdict, says_on, state_on, work_due}
use Rattle.row_statements.specs.Run.{open_row, Held, held_first, Event, Step}
use Rattle.row_statements.specs.InnerHolding.{IsOpen, Holds}
use Rattle.row_statements.specs.declared.RowState.{RowState}
use Rattle.row_statements.proofs.Run.{accepted, is_open, held_first_lem}
use Rattle.row_statements.proofs.Runs.{work_result, work_named, work_gives, as_held, held_work, work_goes}
use Rattle.listing_runs.specs.Run.{held_with, RowCall, CallStep, RowCalls}
use Rattle.two_rows.specs.Apart.{MadeCall}
use Rattle.kept_rows.specs.History.{DoneIn, AcceptedWork}

module _ (call : OpenCall) (lent back : Columns) (s : RowState) (words : Words call.row) (opens : OpensRow (open_of call lent) (Ok s) back) where
  abbrev held : Held
  held = held_first s back

  pub row_open : IsOpen (open_row call)
  row_open = is_open call lent back s words (accepted call lent back s opens)

  pub holds : Holds (open_row call) at_first held
  holds = held_first_lem call lent back s words (accepted call lent back s opens)

  pub told : (c : WorkChoice) → work_due_verdict (open_row call) 0 c ≡ pass
      → work_answer (work_result (work_due (open_row call) at_first c)).answer ≡ given (tile_answer (says_on (open_row call) 0 c))
  unfolding work_out
  told c e =
      (work_gives (work_due_verdict (open_row call) 0 c) (work_named (open_row call) 0 c) (open_row call) at_first c).answer ∙ ap
      (λ (v : Judgement). (work_out v (says_on (open_row call) 0 c) (state_on (open_row call) at_first) c.kept c.lent).answer) e

  abbrev pub once : (revisions : List ℕ) (c : WorkChoice) → work_due_verdict (open_row call) 0 (held_work held c) ≡ pass → AcceptedWork
  once revisions c e =
      record {
        call = call;
        lent = lent;
        back = back;
        state = s;
        calls =
            RowCall.row (Event.work (held_work held c) (work_result (work_due (open_row call) at_first (held_work held c)))
            (work_due (open_row call) at_first (held_work held c)).lent) ∷ [];
        held = _;
        words = words;
        opens = opens;
        revisions = revisions;
        run = RowCalls.next (CallStep.row {h = held_with held []} (Step.work {c = held_work held c} as_held (work_goes row_open holds c))) RowCalls.none;
        done = _;
        made = DoneIn.work {c = held_work held c} MadeCall.here (told (held_work held c) e);
      }
