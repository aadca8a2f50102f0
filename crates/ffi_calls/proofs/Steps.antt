-- One call by numbers: it tells what is due of it, and what the caller then holds by numbers is what it holds after the step of a run with the answer
-- that these numbers are of. Assumes nothing.
use Rattle.std.specs.Prelude.{◌≡◌, ◌∷◌, ◌-◌, ◌<◌}
use Rattle.laws.proofs.Prelude.{ap, ap₂, sym, subst, ◌∙◌, Bool, List, ℕ, zero, suc, arith, Float}
use Rattle.refusals.specs.Refusal.{Judgement, pass, refuse}
use Rattle.refusals.proofs.Naming.{Named}
use Rattle.row_statements.specs.State.{State, state_in}
use Rattle.row_statements.specs.TileWork.{WorkLent, WorkGiven, work_out, work_of, GivesWork}
use Rattle.row_statements.specs.Painting.{PaintGiven, paint_out, paint_of, PaintsLayer}
use Rattle.row_statements.specs.Due.{OpenRow, Past, table_on, queue_on, layers_on, WorkChoice, work_due_verdict, says_on, state_on, work_due, past_work, PaintChoice, paint_due_verdict, paint_on, paint_due, past_paint}
use Rattle.row_statements.specs.Run.{SameCarries, work_on, paint_onto, held_after, Step}
use Rattle.row_statements.specs.InnerHolding.{IsOpen}
use Rattle.row_statements.proofs.WorkSteps.{work_due_lem}
use Rattle.row_statements.proofs.PaintSteps.{paint_due_lem}
use Rattle.row_statements.proofs.Runs.{state_out, state_back, work_result, work_named, work_gives, paint_result, paint_named, paint_gives}
use Rattle.listing_statements.specs.Listing.{ListLent, ListGiven, listing_out, listing_of, ListsTile}
use Rattle.listing_statements.specs.Deciding.{DecideGiven, deciding_of}
use Rattle.listing_statements.specs.Succession.{lent_part}
use Rattle.listing_runs.specs.Due.{ListChoice, list_due_verdict, list_due, DecideChoice, nth_on, decide_due}
use Rattle.listing_runs.specs.Run.{HeldList, HeldAll, held_with, AmongLists, SameEntries, list_on, decide_on, row_after, lists_after, lists_worked, CallStep}
use Rattle.listing_runs.specs.InnerHolding.{HoldsAll}
use Rattle.listing_runs.proofs.Lists.{found}
use Rattle.listing_runs.proofs.Steps.{list_due_lem, nth_is, decide_due_lem}
use Rattle.listing_runs.proofs.Run.{call_right}
use Rattle.listing_runs.proofs.Runs.{list_result, list_named, list_gives}
use Rattle.ffi_numbers.specs.Numbers.{refusal_number}
use Rattle.ffi_numbers.specs.Rows.{state_from}
use Rattle.ffi.specs.Work.{WorkNumbers, worked_numbers, WorkTold}
use Rattle.ffi.specs.Painting.{PaintNumbers, painted_numbers, PaintTold}
use Rattle.ffi.specs.Listing.{ListNumbers, listed_numbers, ListTold}
use Rattle.ffi.specs.Deciding.{DecideNumbers, DecideTold}
use Rattle.ffi_calls.specs.Calls.{held_from, held_worked}
use Rattle.ffi_calls.specs.ListingCalls.{HeldByNumbers, held_both, all_from, held_listed, lists_left, list_left}
use Rattle.ffi_calls.proofs.Numbers.{state_again, positive}

module _ {o : OpenRow} (is_open : IsOpen o) {p : Past} (k : HeldByNumbers) (holds : HoldsAll o p (all_from k)) where
  -- with other numbers of the state
  abbrev with_state : State → HeldAll
  with_state s = held_with (record { state = s; queue = k.row.queue; taken = k.row.taken }) k.lists

  -- the state of a call that is turned down, by the code's answer and by the numbers
  same_state : {s : State} → s ≡ (held_from k.row).state → state_in (state_out (state_on o p)) ≡ s
  same_state e = state_back (state_on o p) ∙ sym holds.row.state ∙ sym e

  -- ---- tile work

  module _ (c : WorkChoice) (same : SameCarries (held_from k.row).state.left k.row.queue c.queue) where
    abbrev worked : Judgement → WorkGiven
    worked v = work_out v (says_on o p.tiles c) (state_on o p) c.kept c.lent

    abbrev held_then : ℕ → WorkNumbers → WorkLent → HeldByNumbers
    held_then r new back =
        held_both (held_worked r k.row new c.queue back) (lists_left r (record { tile = c.tile; count = list_left new; list = (lent_part back).list }) k.lists)

    held_worked_lem : (old : WorkNumbers) (r : ℕ) (new : WorkNumbers) (back : WorkLent) → state_from old.words old.counts ≡ (held_from k.row).state → (v : Judgement) → Named v
        → r ≡ refusal_number (worked v).answer → new ≡ worked_numbers (worked v).answer (worked v).state (worked v).kept old
        → held_with (held_after (work_result (worked v)).answer (state_in (work_result (worked v)).state) (held_from k.row) c.queue back) (lists_worked (work_result (worked v)).answer c.tile (lent_part back).list k.lists)
        ≡ all_from (held_then r new back)
    unfolding work_out
    held_worked_lem old zero new back eo (refuse n) named er en = let above : 0 < n = positive n named in absurd (omega (arith, er, above))
    held_worked_lem old (suc r) new back eo (refuse n) named er en =
        ap with_state (same_state (ap (λ (m : WorkNumbers). state_from m.words m.counts) en ∙ eo))
    held_worked_lem old zero new back eo pass named er en =
        ap₂ (λ (s : State) (count : ℕ). held_with (record { state = s; queue = back.queue; taken = c.queue }) (record { tile = c.tile; count = count; list = (lent_part back).list } ∷ k.lists))
        (state_back (worked pass).state ∙ sym (ap (λ (m : WorkNumbers). state_from m.words m.counts) en ∙ state_again (worked pass).state))
        (sym (ap list_left en))
    held_worked_lem old (suc r) new back eo pass named er en = absurd (omega (arith, er))

    pub worked_right : (old : WorkNumbers) (r : ℕ) (new : WorkNumbers) (back : WorkLent) → state_from old.words old.counts ≡ (held_from k.row).state
        → WorkTold (work_of (work_on o (held_from k.row) c) c.lent) old r new back
        → WorkTold (work_due o p c) old r new back × HoldsAll o (past_work (work_due_verdict o p.tiles c) p) (all_from (held_then r new back))
    worked_right old r new back eo t =
        let v = work_due_verdict o p.tiles c in
        let due = work_due_lem is_open holds.row c same in
        let d : WorkTold (work_due o p c) old r new back = subst (λ (g : WorkGiven). WorkTold g old r new back) due t in
        let gives : GivesWork (worked v) (work_result (worked v)) back = subst (GivesWork (worked v) (work_result (worked v))) (sym d.lent_is) (work_gives v (work_named o p.tiles c) o p c) in
        let g : GivesWork (work_of (work_on o (held_from k.row) c) c.lent) (work_result (worked v)) back = subst (λ (x : WorkGiven). GivesWork x (work_result (worked v)) back) (sym due) gives in
        let u = call_right is_open holds (CallStep.row {h = all_from k} (Step.work {c = c} same g)) in
        (d, subst (HoldsAll o (past_work v p)) (held_worked_lem old r new back eo v (work_named o p.tiles c) d.number d.numbers) u.1)

  -- ---- painting

  module _ (c : PaintChoice) (same : SameCarries (held_from k.row).state.taken k.row.taken c.queue) where
    abbrev painted : Judgement → PaintGiven
    painted v = paint_out v (paint_on o (p.tiles - 1) c.layer p.clip) (state_on o p) c.plane

    held_painted : (old new : PaintNumbers) → state_from old.words old.counts ≡ (held_from k.row).state → (v : Judgement)
        → new ≡ painted_numbers (painted v).answer (painted v).state old
        → state_in (paint_result (painted v)).state ≡ state_from new.words new.counts
    unfolding paint_out
    held_painted old new eo (refuse n) en = same_state (ap (λ (m : PaintNumbers). state_from m.words m.counts) en ∙ eo)
    held_painted old new eo pass en =
        state_back (painted pass).state ∙ sym (ap (λ (m : PaintNumbers). state_from m.words m.counts) en ∙ state_again (painted pass).state)

    pub painted_right : (old : PaintNumbers) (r : ℕ) (new : PaintNumbers) (back : List Float) → state_from old.words old.counts ≡ (held_from k.row).state
        → PaintTold (paint_of (paint_onto o (held_from k.row) c) c.plane) old r new back
        → PaintTold (paint_due o p c) old r new back × HoldsAll o (past_paint (paint_due_verdict o p.tiles c) o c.layer p) (with_state (state_from new.words new.counts))
    painted_right old r new back eo t =
        let v = paint_due_verdict o p.tiles c in
        let due = paint_due_lem is_open holds.row c same in
        let d : PaintTold (paint_due o p c) old r new back = subst (λ (g : PaintGiven). PaintTold g old r new back) due t in
        let gives : PaintsLayer (painted v) (paint_result (painted v)) back = subst (PaintsLayer (painted v) (paint_result (painted v))) (sym d.plane_is) (paint_gives v (paint_named o p.tiles c) o p c) in
        let g : PaintsLayer (paint_of (paint_onto o (held_from k.row) c) c.plane) (paint_result (painted v)) back = subst (λ (x : PaintGiven). PaintsLayer x (paint_result (painted v)) back) (sym due) gives in
        let u = call_right is_open holds (CallStep.row {h = all_from k} (Step.paint {c = c} same g)) in
        (d, subst (λ (s : State). HoldsAll o (past_paint v o c.layer p) (with_state s)) (held_painted old new eo v d.numbers) u.1)

  -- ---- listing

  module _ (c : ListChoice) (same : SameCarries (held_from k.row).state.left k.row.queue c.queue) where
    abbrev listed : Judgement → ListGiven
    listed v = listing_out v (table_on o) (layers_on o p.tiles) (queue_on o (suc p.tiles)) (state_on o p) c.lent

    abbrev held_past : ℕ → ListNumbers → ListLent → HeldByNumbers
    held_past r new back =
        held_both (held_listed r k.row new c.queue back) (lists_left r (record { tile = c.tile; count = new.listed; list = back.list }) k.lists)

    held_listed_lem : (old : ListNumbers) (r : ℕ) (new : ListNumbers) (back : ListLent) → state_from old.words old.counts ≡ (held_from k.row).state → (v : Judgement) → Named v
        → r ≡ refusal_number (listed v).answer → new ≡ listed_numbers (listed v).answer (listed v).state old
        → held_with (row_after (list_result (listed v)).answer (state_in (list_result (listed v)).state) (held_from k.row) c.queue back) (lists_after (list_result (listed v)).answer c.tile back.list k.lists)
        ≡ all_from (held_past r new back)
    unfolding listing_out
    held_listed_lem old zero new back eo (refuse n) named er en = let above : 0 < n = positive n named in absurd (omega (arith, er, above))
    held_listed_lem old (suc r) new back eo (refuse n) named er en =
        ap with_state (same_state (ap (λ (m : ListNumbers). state_from m.words m.counts) en ∙ eo))
    held_listed_lem old zero new back eo pass named er en =
        ap₂ (λ (s : State) (count : ℕ). held_with (record { state = s; queue = back.queue; taken = c.queue }) (record { tile = c.tile; count = count; list = back.list } ∷ k.lists))
        (state_back (listed pass).state ∙ sym (ap (λ (m : ListNumbers). state_from m.words m.counts) en ∙ state_again (listed pass).state))
        (sym (ap (λ (m : ListNumbers). m.listed) en))
    held_listed_lem old (suc r) new back eo pass named er en = absurd (omega (arith, er))

    pub listed_right : (old : ListNumbers) (r : ℕ) (new : ListNumbers) (back : ListLent) → state_from old.words old.counts ≡ (held_from k.row).state
        → ListTold (listing_of (list_on o (held_from k.row) c) c.lent) old r new back
        → ListTold (list_due o p c) old r new back × HoldsAll o (past_work (list_due_verdict o p.tiles c) p) (all_from (held_past r new back))
    listed_right old r new back eo t =
        let v = list_due_verdict o p.tiles c in
        let due = list_due_lem is_open holds.row c same in
        let d : ListTold (list_due o p c) old r new back = subst (λ (g : ListGiven). ListTold g old r new back) due t in
        let gives : ListsTile (listed v) (list_result (listed v)) back = subst (ListsTile (listed v) (list_result (listed v))) (sym d.lent_is) (list_gives v (list_named o p.tiles c) o p c) in
        let g : ListsTile (listing_of (list_on o (held_from k.row) c) c.lent) (list_result (listed v)) back = subst (λ (x : ListGiven). ListsTile x (list_result (listed v)) back) (sym due) gives in
        let u = call_right is_open holds (CallStep.list {h = all_from k} {c = c} same g) in
        (d, subst (HoldsAll o (past_work v p)) (held_listed_lem old r new back eo v (list_named o p.tiles c) d.number d.numbers) u.1)

  -- ---- deciding

  pub decided_right : {l : HeldList} (c : DecideChoice) {old : DecideNumbers} {r : ℕ} {new : DecideNumbers} {back : List Bool}
      → AmongLists l k.lists → l.tile ≡ c.tile → SameEntries l.count l.list c.list
      → DecideTold (deciding_of (decide_on o l c) c.unmasked) old r new back
      → (nth_on o c < p.tiles) × DecideTold (decide_due o c) old r new back
  decided_right {l} c {old} {r} {new} {back} among et same t =
      let f = found p.tiles k.lists holds.lists among in
      (rw (nth_is is_open f.at l f.holds c et same) f.before, subst (λ (g : DecideGiven). DecideTold g old r new back) (decide_due_lem is_open f.at l f.holds c et same) t)
