-- The claim of specs/Example: a call tells what its contract says of any numbers that are lent, so that calls by numbers exist for every list of
-- choices. Assumes nothing.
use Rattle.std.specs.Prelude.{◌≡◌, ◌∷◌}
use Rattle.laws.proofs.Prelude.{refl, ap, sym, subst, ◌∙◌, Bool, true, false, List, [], ℕ, Float, of_bits, binary32, replicate}
use Rattle.refusals.specs.Refusal.{Judgement, pass, refuse}
use Rattle.cached_tile.specs.declared.kept.Kept as kept
use Rattle.row_statements.specs.TileWork.{WorkCall, WorkLent, work_verdict, work_of}
use Rattle.row_statements.specs.Painting.{PaintCall, paint_verdict, paint_of}
use Rattle.row_statements.specs.Due.{OpenRow, Past, state_on, work_due_verdict, paint_due_verdict}
use Rattle.row_statements.specs.Example.{work_at, paint_at, if_turned_down}
use Rattle.row_statements.specs.InnerHolding.{IsOpen}
use Rattle.row_statements.proofs.Runs.{as_held, held_work, held_paint, turned}
use Rattle.listing_statements.specs.Listing.{ListCall, ListLent, listing_verdict, listing_of}
use Rattle.listing_statements.specs.Deciding.{deciding_verdict, deciding_of}
use Rattle.listing_statements.specs.declared.TileDecided.{TileDecided}
use Rattle.listing_runs.specs.Due.{list_due_verdict, DecideChoice, decide_due_verdict}
use Rattle.listing_runs.specs.Run.{HeldAll, RowCall, decide_on, CallStep}
use Rattle.listing_runs.specs.Example.{CallChoice, list_at, is_past, call_choices_due}
use Rattle.listing_runs.specs.InnerHolding.{HoldsAll}
use Rattle.listing_runs.proofs.Runs.{held_listing, decide_goes}
use Rattle.ffi_numbers.specs.Numbers.{refusal_number}
use Rattle.ffi_numbers.specs.Cached.{bytes_by}
use Rattle.ffi.specs.Work.{WorkNumbers, worked_numbers}
use Rattle.ffi.specs.Painting.{PaintNumbers, painted_numbers}
use Rattle.ffi.specs.Listing.{ListNumbers, list_numbers, listed_numbers}
use Rattle.ffi.specs.Deciding.{DecideNumbers, decided_numbers}
use Rattle.ffi_calls.specs.Calls as rows
use Rattle.ffi_calls.specs.Calls.{held_from}
use Rattle.ffi_calls.specs.ListingCalls.{HeldByNumbers, all_from, held_still, ListingTold, ListingCall, ListingCalls, past_listing_told}
use Rattle.ffi_calls.specs.Example.{dues_told, CalledSo, CallsExist}
use Rattle.ffi_calls.proofs.Numbers.{opened_held}
use Rattle.ffi_calls.proofs.ListingCalls.{told_right}

-- numbers to lend: the bytes of a cached tile, and what answers are written over
abbrev lent_bytes : kept.Kept → List ℕ
lent_bytes k = bytes_by k (replicate 8 0)

abbrev lent_color : List Float
lent_color = replicate 4 (of_bits binary32 0)

abbrev lent_work : HeldByNumbers → kept.Kept → WorkNumbers
lent_work k given = record { words = k.row.words; counts = k.row.counts; kept = lent_bytes given; told = replicate 4 0; bottom = lent_color }

abbrev lent_paint : HeldByNumbers → PaintNumbers
lent_paint k = record { words = k.row.words; counts = k.row.counts; mark = 0 }

abbrev lent_listing : HeldByNumbers → ListNumbers
lent_listing k = list_numbers k.row.words k.row.counts 0

abbrev lent_decide : kept.Kept → DecideNumbers
lent_decide given = record { kept = lent_bytes given; told = replicate 3 0; bottom = lent_color }

module _ {o : OpenRow} (is_open : IsOpen o) where
  -- a deciding of a run, told by numbers
  record Decides (k : HeldByNumbers) (c : DecideChoice) : Type 0 where
    old : DecideNumbers
    number : ℕ
    new : DecideNumbers
    back : List Bool
    call : ListingCall o k (ListingTold.decide c old number new back) k

  decides : (k : HeldByNumbers) {c : DecideChoice} {r : TileDecided} {back : List Bool} {after : HeldAll} → CallStep o (all_from k) (RowCall.decide c r back) after → Decides k c
  decides k (CallStep.decide {l = l} {c = c} among et same g) =
      let out = deciding_of (decide_on o l c) c.unmasked in
      record {
        old = lent_decide c.kept;
        number = refusal_number out.answer;
        new = decided_numbers out.answer out.kept (lent_decide c.kept);
        back = out.unmasked;
        call = ListingCall.decide {k = k} {l = l} {c = c} among et same (record { number = refl; numbers = refl; unmasked_is = refl });
      }

  decide_first : {p : Past} (k : HeldByNumbers) (c : DecideChoice) (cs : List CallChoice) (b : Bool) → is_past o p.tiles c.tile ≡ b → HoldsAll o p (all_from k) → CalledSo o p k cs → CalledSo o p k (CallChoice.decide c ∷ cs)
  unfolding dues_told call_choices_due
  decide_first k c cs false e holds rest = record { told = rest.told; after = rest.after; calls = rest.calls; dues = rw e rest.dues }
  decide_first k c cs true e holds rest =
      let d = decides k (decide_goes is_open holds c e).step in
      record {
        told = _ ∷ rest.told;
        after = rest.after;
        calls = ListingCalls.next d.call rest.calls;
        dues = rw e (ap (λ (vs : List Judgement). decide_due_verdict c ∷ vs) rest.dues);
      }

  -- a call with any row, table and queue, where the verdict on it is to turn it down
  record Turned (p : Past) (k : HeldByNumbers) (v : Judgement) : Type 0 where
    told : ListingTold
    after : HeldByNumbers
    call : (n : ℕ) → v ≡ refuse n → ListingCall o k told after
    due : (ts : List ListingTold) → dues_told o p (told ∷ ts) ≡ v ∷ dues_told o p ts
    past : past_listing_told o told p ≡ p

  work_other : (p : Past) (k : HeldByNumbers) (a : WorkCall) (lent : WorkLent) → Turned p k (work_verdict a lent)
  unfolding dues_told
  work_other p k a lent =
      let out = work_of a lent in
      let old = lent_work k a.kept in
      let new = worked_numbers out.answer out.state out.kept old in
      record {
        told = ListingTold.other_work a lent old (refusal_number out.answer) new out.lent;
        after = held_still new.words new.counts k;
        call = λ n e. ListingCall.other_work {k = k} (refl, refl) e (record { number = refl; numbers = refl; lent_is = refl });
        due = λ ts. refl;
        past = refl;
      }

  paint_other : (p : Past) (k : HeldByNumbers) (a : PaintCall) (plane : List Float) → Turned p k (paint_verdict a plane)
  unfolding dues_told
  paint_other p k a plane =
      let out = paint_of a plane in
      let new = painted_numbers out.answer out.state (lent_paint k) in
      record {
        told = ListingTold.other_paint a plane (lent_paint k) (refusal_number out.answer) new out.plane;
        after = held_still new.words new.counts k;
        call = λ n e. ListingCall.other_paint {k = k} (refl, refl) e (record { number = refl; numbers = refl; plane_is = refl });
        due = λ ts. refl;
        past = refl;
      }

  list_other : (p : Past) (k : HeldByNumbers) (a : ListCall) (lent : ListLent) → Turned p k (listing_verdict a lent)
  unfolding dues_told
  list_other p k a lent =
      let out = listing_of a lent in
      let new = listed_numbers out.answer out.state (lent_listing k) in
      record {
        told = ListingTold.other_list a lent (lent_listing k) (refusal_number out.answer) new out.lent;
        after = held_still new.words new.counts k;
        call = λ n e. ListingCall.other_list {k = k} (refl, refl) e (record { number = refl; numbers = refl; lent_is = refl });
        due = λ ts. refl;
        past = refl;
      }

  -- it is one of the calls where it is turned down, and else none
  other_first : {p : Past} {k : HeldByNumbers} (c : CallChoice) (cs : List CallChoice) (v w : Judgement) → v ≡ w → (t : Turned p k v)
      → call_choices_due o p (c ∷ cs) ≡ if_turned_down v (call_choices_due o p cs)
      → HoldsAll o p (all_from k) → CalledSo o p k cs → (HoldsAll o p (all_from t.after) → CalledSo o p t.after cs) → CalledSo o p k (c ∷ cs)
  other_first {p} c cs v pass is t q holds rest still =
      let due = rest.dues ∙ sym (q ∙ ap (λ (u : Judgement). if_turned_down u (call_choices_due o p cs)) is) in
      record { told = rest.told; after = rest.after; calls = rest.calls; dues = due }
  other_first {p} c cs v (refuse n) is t q holds rest still =
      let call = t.call n is in
      let more = still (subst (λ (r : Past). HoldsAll o r (all_from t.after)) t.past (told_right is_open holds call).1) in
      record {
        told = t.told ∷ more.told;
        after = more.after;
        calls = ListingCalls.next call more.calls;
        dues = t.due more.told ∙ ap (λ (vs : List Judgement). v ∷ vs) more.dues ∙ turned (call_choices_due o p cs) is ∙ sym q;
      }

  exists : (cs : List CallChoice) {p : Past} (k : HeldByNumbers) → HoldsAll o p (all_from k) → CalledSo o p k cs
  unfolding dues_told call_choices_due
  exists [] k holds = record { told = []; after = k; calls = ListingCalls.none; dues = refl }
  exists (CallChoice.work c ∷ cs) {p} k holds =
      let held = held_work (held_from k.row) c in
      let call = ListingCall.row {k = k} (rows.Call.work {k = k.row} {c = held} {bytes = lent_bytes c.kept} {told = replicate 4 0} {bottom = lent_color} as_held (record { number = refl; numbers = refl; lent_is = refl })) in
      let rest = exists cs _ (told_right is_open holds call).1 in
      record { told = _ ∷ rest.told; after = rest.after; calls = ListingCalls.next call rest.calls; dues = ap (λ (vs : List Judgement). work_due_verdict o p.tiles c ∷ vs) rest.dues }
  exists (CallChoice.paint c ∷ cs) {p} k holds =
      let held = held_paint (held_from k.row) c in
      let call = ListingCall.row {k = k} (rows.Call.paint {k = k.row} {c = held} {mark = 0} as_held (record { number = refl; numbers = refl; plane_is = refl })) in
      let rest = exists cs _ (told_right is_open holds call).1 in
      record { told = _ ∷ rest.told; after = rest.after; calls = ListingCalls.next call rest.calls; dues = ap (λ (vs : List Judgement). paint_due_verdict o p.tiles c ∷ vs) rest.dues }
  exists (CallChoice.list c ∷ cs) {p} k holds =
      let held = held_listing (held_from k.row) c in
      let call = ListingCall.list {k = k} {c = held} {listed = 0} as_held (record { number = refl; numbers = refl; lent_is = refl }) in
      let rest = exists cs _ (told_right is_open holds call).1 in
      record { told = _ ∷ rest.told; after = rest.after; calls = ListingCalls.next call rest.calls; dues = ap (λ (vs : List Judgement). list_due_verdict o p.tiles c ∷ vs) rest.dues }
  exists (CallChoice.decide c ∷ cs) {p} k holds = decide_first k c cs (is_past o p.tiles c.tile) refl holds (exists cs k holds)
  exists (CallChoice.other_work row table c ∷ cs) {p} k holds =
      let a = work_at (state_on o p) row table c in
      let v = work_verdict a c.lent in
      other_first (CallChoice.other_work row table c) cs v v refl (work_other p k a c.lent) refl holds (exists cs k holds) (λ still. exists cs _ still)
  exists (CallChoice.other_paint row table c ∷ cs) {p} k holds =
      let a = paint_at (state_on o p) row table c in
      let v = paint_verdict a c.plane in
      other_first (CallChoice.other_paint row table c) cs v v refl (paint_other p k a c.plane) refl holds (exists cs k holds) (λ still. exists cs _ still)
  exists (CallChoice.other_list row table c ∷ cs) {p} k holds =
      let a = list_at (state_on o p) row table c in
      let v = listing_verdict a c.lent in
      other_first (CallChoice.other_list row table c) cs v v refl (list_other p k a c.lent) refl holds (exists cs k holds) (λ still. exists cs _ still)
  exists (CallChoice.other_decide a masks ∷ cs) {p} k holds =
      let call =
      ListingCall.other_decide {k = k} {a = a} {unmasked = masks} {old = lent_decide a.kept} (record { number = refl; numbers = refl; unmasked_is = refl }) in
      let rest = exists cs k holds in
      let due = ap (λ (vs : List Judgement). deciding_verdict a masks ∷ vs) rest.dues in
      record { told = _ ∷ rest.told; after = rest.after; calls = ListingCalls.next call rest.calls; dues = due }

-- the claims' premises can be met
pub calls_exist : CallsExist
calls_exist c lent back old new cs w t =
    let u = opened_held c lent w t in
    exists u.0 cs _ (record { row = u.1; lists = tt })
