-- The claim of specs/Batches: between batches the caller holds by numbers what it holds in a run, and each batch goes on with the run. Assumes nothing.
use Rattle.std.specs.Prelude.{◌≡◌, ◌∷◌, ◌+◌, ◌<◌}
use Rattle.laws.proofs.Prelude.{refl, ap, sym, subst, ◌∙◌, Bool, true, false, List, [], ℕ, zero, suc, arith, get_or, Answer}
use Rattle.laws.proofs.Prelude.{refused, given}
use Rattle.row_statements.specs.Lent.{Columns}
use Rattle.row_statements.specs.Due.{OpenRow, Past, at_first}
use Rattle.row_statements.specs.Run.{open_row, Held, Event, Run}
use Rattle.row_statements.specs.InnerHolding.{IsOpen}
use Rattle.row_statements.proofs.Run.{facts, run_right}
use Rattle.batch_statements.specs.BatchLent.{BatchLent, sided}
use Rattle.batch_statements.specs.Batch.{BatchAt, BatchEnd, BatchGiven, BatchCall, batch_start, batch_of, batch_answer}
use Rattle.batch_statements.proofs.Refused.{batch_refused}
use Rattle.batch_runs.specs.BatchClaim.{CalledIn, taken_by, IsRun}
use Rattle.batch_runs.proofs.BatchRun.{is_run, asked, enough_lent}
use Rattle.batch_runs.proofs.BatchRun as batch
use Rattle.listing_runs.specs.Run.{HeldList, held_with, lists_past, CallStep}
use Rattle.listing_runs.specs.InnerHolding.{HoldsAll}
use Rattle.listing_runs.proofs.Run.{call_right}
use Rattle.ffi_numbers.specs.Numbers.{refusal_number}
use Rattle.ffi_numbers.specs.Rows.{state_from}
use Rattle.ffi_batch.specs.Batches.{BatchNumbers, batch_numbers, queue_number, numbers_by}
use Rattle.ffi_calls.specs.Calls.{HeldNumbers, held_from, held_opened}
use Rattle.ffi_calls.specs.ListingCalls.{held_both, lists_told, ListingCall}
use Rattle.ffi_calls.specs.Batches.{queue_named, taken_named, held_batch, BatchMade, MadeWith, RowTold, Batches, past_events, TellsAnswer, RightBatch, AllBatches, BatchesClaim, BatchesExist}
use Rattle.ffi_calls.proofs.Numbers.{state_again, opened_held}
use Rattle.ffi_calls.proofs.ListingCalls.{told_right}

-- ---- what the numbers say

-- the queue that holds the carries, as the memory lies
queue_named_lem : (first : Bool) (m : BatchLent) → queue_named (queue_number first) (sided first m) ≡ m.queue
queue_named_lem true m = refl
queue_named_lem false m = refl

-- and the one that the last tile took in
taken_named_lem : (worked : ℕ) (first : Bool) (held : Columns) (m : BatchLent) → taken_named worked (queue_number first) held (sided first m) ≡ taken_by worked held m.other
taken_named_lem zero first held m = refl
taken_named_lem (suc worked) true held m = refl
taken_named_lem (suc worked) false held m = refl

module _ {o : OpenRow} {k : HeldNumbers} (b : BatchMade) (made : MadeWith o k b) where
  g : BatchGiven
  g = batch_of b.call b.lent

  abbrev Says : Type 0
  Says = held_from (held_batch k b.new b.back) ≡ record { state = g.at.state; queue = g.at.lent.queue; taken = taken_by g.at.worked k.taken g.at.lent.other }

  abbrev told : Answer BatchEnd → BatchNumbers
  told a = numbers_by a g.at.state g.at.worked g.at.used g.at.first b.old

  -- a refused batch leaves all as it was
  pub refused_leaves : {n : ℕ} → batch_answer (batch_of b.call b.lent) ≡ refused n → (b.number ≡ n) × ((b.new ≡ b.old) × (b.back ≡ b.lent))
  unfolding g
  refused_leaves {n} e =
      let at_is = (batch_refused b.call b.lent n e).0 in
      (made.told.number ∙ ap refusal_number e, (made.told.numbers ∙ ap told e, made.told.lent_is ∙ ap (λ (s : BatchAt). sided s.first s.lent) at_is))

  by_answer : (a : Answer BatchEnd) → batch_answer g ≡ a → Says
  unfolding g
  by_answer (given end) e =
      let new_is : b.new ≡ told (given end) = made.told.numbers ∙ ap told e in
      let state = ap (λ (n : BatchNumbers). state_from n.words n.counts) new_is ∙ state_again g.at.state in
      let queue = (λ i. queue_named (get_or (new_is i).done 2 0) (made.told.lent_is i)) ∙ queue_named_lem g.at.first g.at.lent in
      let taken = (λ i. taken_named (get_or (new_is i).done 0 0) (get_or (new_is i).done 2 0) k.taken (made.told.lent_is i)) ∙ taken_named_lem g.at.worked g.at.first k.taken g.at.lent in
      λ i. record { state = state i; queue = queue i; taken = taken i }
  by_answer (refused n) e =
      let at_is : g.at ≡ batch_start b.call b.lent = (batch_refused b.call b.lent n e).0 in
      let leaves = refused_leaves e in
      let held = leaves.1.0 ∙ made.numbers in
      let lies = leaves.1.1 in
      let state = ap (λ (n : BatchNumbers). state_from n.words n.counts) held ∙ sym made.state ∙ sym (ap (λ (s : BatchAt). s.state) at_is) in
      let queue = (λ i. queue_named (get_or (held i).done 2 0) (lies i)) ∙ sym (ap (λ (s : BatchAt). s.lent.queue) at_is) in
      let taken = (λ i. taken_named (get_or (held i).done 0 0) (get_or (held i).done 2 0) k.taken (lies i)) ∙ sym (ap (λ (s : BatchAt). taken_by s.worked k.taken g.at.lent.other) at_is) in
      λ i. record { state = state i; queue = queue i; taken = taken i }

  pub says : held_from (held_batch k b.new b.back)
      ≡ record { state = (batch_of b.call b.lent).at.state; queue = (batch_of b.call b.lent).at.lent.queue; taken = taken_by (batch_of b.call b.lent).at.worked k.taken (batch_of b.call b.lent).at.lent.other }
  unfolding g
  says = by_answer (batch_answer g) refl

  tells_by : (a : Answer BatchEnd) → batch_answer (batch_of b.call b.lent) ≡ a → TellsAnswer a b
  tells_by (refused n) e = refused_leaves e
  tells_by (given end) e = made.told.number ∙ ap refusal_number e

  pub tells : TellsAnswer (batch_answer (batch_of b.call b.lent)) b
  tells = tells_by (batch_answer (batch_of b.call b.lent)) refl

-- ---- in a run

-- beside what the caller holds stand the lists that the calls left, which a batch keeps for itself
record HoldsSo (o : OpenRow) (p : Past) (h : Held) : Type 0 where
  lists : List HeldList
  holds : HoldsAll o p (held_with h lists)

run_holds : {o : OpenRow} {h h' : Held} {p : Past} {es : List Event} → IsOpen o → HoldsSo o p h → Run o h es h' → HoldsSo o (past_events o es p) h'
run_holds is_open here Run.none = here
run_holds {h = h} is_open here (Run.next {e = e} s rest) =
    run_holds is_open (record { lists = lists_past e here.lists; holds = (call_right is_open here.holds (CallStep.row {h = held_with h here.lists} s)).1 }) rest

record Goes (o : OpenRow) (p : Past) (k : HeldNumbers) (b : BatchMade) : Type 0 where
  right : RightBatch o p b
  after : HoldsSo o (past_events o right.events p) (held_from (held_batch k b.new b.back))

module _ {o : OpenRow} (is_open : IsOpen o) (p : Past) (k : HeldNumbers) (here : HoldsSo o p (held_from k)) (b : BatchMade) (made : MadeWith o k b) where
  goes : Goes o p k b
  goes =
      let h = held_from k in
      let called : CalledIn o h b.call b.lent = record { state = made.state; row = made.row; table = made.table; queue = made.queue } in
      let r : IsRun o h b.call b.lent = is_run o is_open h b.call b.lent (record { past = p; holds = here.holds.row }) called in
      let held : r.after ≡ held_from (held_batch k b.new b.back) = (λ i. record { state = r.state i; queue = r.queue i; taken = r.taken i }) ∙ sym (says b made) in
      record {
        right = record { events = r.events; calls = r.calls; right = run_right is_open here.holds.row r.runs; tells = tells b made };
        after = subst (HoldsSo o (past_events o r.events p)) held (run_holds is_open here r.runs);
      }

all_right : {o : OpenRow} {k k' : HeldNumbers} {p : Past} {ts : List RowTold} → IsOpen o → HoldsSo o p (held_from k) → Batches o k ts k' → AllBatches o p ts
all_right is_open here Batches.none = AllBatches.none
all_right {k = k} {p = p} is_open here (Batches.batch {b = b} made rest) =
    let u = goes is_open p k here b made in
    AllBatches.batch u.right (all_right is_open u.after rest)
all_right {k = k} is_open here (Batches.call {t = t} c rest) =
    let u = told_right {k = held_both k here.lists} is_open here.holds (ListingCall.row c) in
    AllBatches.call u.0 (all_right is_open (record { lists = lists_told t here.lists; holds = u.1 }) rest)

-- demand 3 by numbers, in batches and single calls
pub batches : BatchesClaim
batches c lent back old new ts k w t made =
    let u = opened_held c lent w t in
    (facts u.0, all_right u.0 (record { lists = []; holds = record { row = u.1; lists = tt } }) made)

-- ---- there are such batches

-- what a batch tells is what its definition says
abbrev made_by : HeldNumbers → BatchCall → BatchLent → BatchMade
made_by k c m =
    let g = batch_of c m in
    let old = batch_numbers k.words k.counts (0 ∷ 0 ∷ 0 ∷ 0 ∷ 0 ∷ []) in
    record {
      call = c;
      lent = m;
      old = old;
      number = refusal_number (batch_answer g);
      new = numbers_by (batch_answer g) g.at.state g.at.worked g.at.used g.at.first old;
      back = sided g.at.first g.at.lent;
    }

pub exist : BatchesExist
exist c lent back old new tiles clear previous w t inside =
    let u = opened_held c lent w t in
    let h = held_from (held_opened new back) in
    let left : (open_row c).from + at_first.tiles < (open_row c).to = omega (arith, inside) in
    record {
      made = made_by (held_opened new back) (asked (open_row c) at_first h u.0 u.1 left tiles clear previous) (enough_lent (open_row c) at_first h u.0 u.1 left tiles clear previous);
      with_held = record { state = refl; row = refl; table = refl; queue = refl; numbers = refl; told = record { number = refl; numbers = refl; lent_is = refl } };
      asks = refl;
      left = batch.left (open_row c) at_first h u.0 u.1 left tiles clear previous;
      room = batch.enough_room (open_row c) at_first h u.0 u.1 left tiles clear previous;
      passes = batch.first_passes (open_row c) at_first h u.0 u.1 left tiles clear previous;
    }
