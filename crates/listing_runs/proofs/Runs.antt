-- The claim is not empty: after every accepted opening, every list of choices is the list of some run's calls. Assumes nothing.
use Rattle.refusals.specs.declared.Refusal.{Refusal}
use Rattle.std.specs.Prelude.{◌≡◌, ◌||◌, ◌∷◌, ◌+◌, ◌-◌, ◌<◌, Result, Ok, Err}
use Rattle.laws.proofs.Prelude.{refl, ap, sym, subst, ◌∙◌, Bool, true, false, not, List, [], ℕ, suc, arith, not-true}
use Rattle.laws.proofs.Prelude.{ltb-true, ltb, Float, ℤ, pos, length, take, lt_z, Answer, refused, given, plus, left, right, whole, equal, lt_false}
use Rattle.refusals.specs.Refusal.{Judgement, pass, refuse, unless}
use Rattle.refusals.proofs.Naming.{refusal_of, Named, named}
use Rattle.styling.specs.Ascending.{strictly_ascends}
use Rattle.cached_tile.specs.Kept.{tag_out_of_range}
use Rattle.cached_tile.specs.declared.kept.Kept as kept
use Rattle.layer_carrying.specs.Carrying.{handed_on}
use Rattle.pass_statements.specs.declared.Index.{Index}
use Rattle.pass_statements.specs.declared.decide.Decision.{Decision}
use Rattle.pass_statements.specs.Decision.{TileDecision}
use Rattle.pass_statements.specs.Decide.{Outcome}
use Rattle.row_statements.specs.Lent.{is_queue_short, layers_of, is_lent_table}
use Rattle.row_statements.specs.State.{is_wrong_next}
use Rattle.row_statements.specs.TileWork.{WorkCall, WorkLent, list_verdict, work_verdict}
use Rattle.row_statements.specs.Painting.{PaintCall, paint_verdict}
use Rattle.row_statements.specs.Due.{OpenRow, Past, table_on, queue_on, layers_on, state_on, is_not_due, work_due_verdict, paint_due_verdict, past_work, past_paint}
use Rattle.row_statements.specs.Run.{Held, Event, Step}
use Rattle.row_statements.specs.Example.{work_at, paint_at, if_turned_down}
use Rattle.row_statements.specs.InnerHolding.{IsOpen}
use Rattle.row_statements.proofs.Run.{still_holds}
use Rattle.row_statements.proofs.Runs.{state_out, state_back, decision_out, decision_back, listed_named, five_named, then_named, as_held, held_work, held_paint, work_goes, paint_goes, turned, still_held, work_turned, paint_turned, work_turned_lem, paint_turned_lem}
use Rattle.listing_statements.specs.Listing.{ListCall, ListLent, ListGiven, is_tile_list_short, is_listing_short, list_call_verdict, listed_by, listed_verdict, listing_verdict, listing_out, listing_of, ListsTile}
use Rattle.listing_statements.specs.Deciding.{DecideCall, DecideSays, DecideGiven, is_deciding_short, are_in_table, lines_for, deciding_verdict, deciding_out, decided_outcome, deciding_of, DecidesTile}
use Rattle.listing_statements.specs.declared.TileListed.{TileListed}
use Rattle.listing_statements.specs.declared.TileDecided.{TileDecided}
use Rattle.listing_runs.specs.Due.{ListChoice, list_due_verdict, list_due, DecideChoice, outcome_due, nth_on, decide_due_verdict, decide_due}
use Rattle.listing_runs.specs.Run.{HeldList, HeldAll, held_with, SameEntries, RowCall, list_on, decide_on, CallStep, RowCalls}
use Rattle.listing_runs.specs.Example.{CallChoice, list_at, is_past, call_choices_due, call_dues_of}
use Rattle.listing_runs.specs.InnerHolding.{HoldsAll}
use Rattle.listing_runs.proofs.Lists.{past_list}
use Rattle.listing_runs.proofs.Steps.{list_due_lem, decide_due_lem}
use Rattle.listing_runs.proofs.Run.{call_right}

-- ---- an answer of the code for what is due

abbrev listed_out : Answer ℕ → Result ℕ Refusal
listed_out (refused n) = Err (refusal_of n)
listed_out (given n) = Ok n

abbrev decided_out : Answer DecideSays → Result (Decision × Index) Refusal
decided_out (refused n) = Err (refusal_of n)
decided_out (given t) = Ok (decision_out t.decision, record { 0 = t.skipped })

abbrev pub list_result : ListGiven → TileListed
list_result g = record { state = state_out g.state; answer = listed_out g.answer }

abbrev pub decide_result : DecideGiven → TileDecided
decide_result g = record { kept = g.kept; answer = decided_out g.answer }

-- every number that is due is one of the table
pub list_named : (o : OpenRow) (n : ℕ) (c : ListChoice) → Named (list_due_verdict o n c)
list_named o n c =
    let below = list_verdict (table_on o) (layers_on o n) in
    named (is_queue_short c.lent.queue || is_tile_list_short c.lent.list) 1 (unless (is_not_due o n c.tile) 2 below) refl
    (named (is_not_due o n c.tile) 2 below refl (listed_named (table_on o) (layers_on o n)))

pub decide_named : (c : DecideChoice) → Named (decide_due_verdict c)
decide_named c =
    named (ltb (length c.unmasked) 256) 1 (unless (tag_out_of_range c.kept) 6 pass) refl (named (tag_out_of_range c.kept) 6 pass refl tt)

-- and so is every number that a listing with any row, table and queue, or a deciding of any list, is turned down by
any_list_named : (a : ListCall) (lent : ListLent) → Named (listing_verdict a lent)
unfolding list_call_verdict
any_list_named a lent =
    then_named (list_call_verdict a lent) (listed_verdict a)
    (five_named (is_listing_short a lent) (is_wrong_next a.state a.tile) a.state.tile_y a.row a.table a.state.left a.queue.ids pass tt)
    (listed_named (layers_of a.table) (listed_by a))

any_decide_named : (a : DecideCall) (unmasked : List Bool) → Named (deciding_verdict a unmasked)
unfolding lines_for
any_decide_named a unmasked =
    let ids = take a.count a.list.ids in
    let eight = unless (not (are_in_table (layers_of a.table) ids)) 8 pass in
    let seven = unless (ltb 256 a.count) 7 eight in
    let six = unless (tag_out_of_range a.kept) 6 seven in
    let five = unless (not (strictly_ascends ids)) 5 six in
    named (is_deciding_short a unmasked) 1 (unless (not (is_lent_table a.table)) 4 five) refl
    (named (not (is_lent_table a.table)) 4 five refl
    (named (not (strictly_ascends ids)) 5 six refl
    (named (tag_out_of_range a.kept) 6 seven refl
    (named (ltb 256 a.count) 7 eight refl
    (named (not (are_in_table (layers_of a.table) ids)) 8 pass refl tt)))))

-- so there is an answer of the code that gives it
pub list_gives : (v : Judgement) → Named v → (o : OpenRow) (p : Past) (c : ListChoice) → let g = listing_out v (table_on o) (layers_on o p.tiles) (queue_on o (suc p.tiles)) (state_on o p) c.lent in ListsTile g (list_result g) g.lent
unfolding listing_out
list_gives (refuse n) named o p c = record { answer = ap refused named; state = state_back (state_on o p); lent_is = refl }
list_gives pass named o p c =
    record { answer = refl; state = state_back (listing_out pass (table_on o) (layers_on o p.tiles) (queue_on o (suc p.tiles)) (state_on o p) c.lent).state; lent_is = refl }

pub decide_gives : (v : Judgement) → Named v → (out : Outcome) (n : ℕ) (k : kept.Kept) (masks : List Bool)
    → let g = deciding_out v out n k masks in DecidesTile g (decide_result g) g.unmasked
unfolding deciding_out
decide_gives (refuse number) named out n k masks = record { answer = ap refused named; kept = refl; unmasked_is = refl }
decide_gives pass named out n k masks =
    record {
      answer = ap (λ (d : TileDecision). given (record { decision = d; skipped = out.skipped })) (decision_back out.decision);
      kept = refl;
      unmasked_is = refl;
    }

-- ---- a choice, made with what the caller holds

abbrev pub held_listing : Held → ListChoice → ListChoice
held_listing h c = record { tile = c.tile; queue = h.queue; lent = c.lent }

abbrev pub held_deciding : HeldList → DecideChoice → DecideChoice
held_deciding l c = record { tile = c.tile; list = l.list; kept = c.kept; clear = c.clear; previous = c.previous; unmasked = c.unmasked }

same_list_lem : (l : HeldList) → SameEntries l.count l.list l.list
same_list_lem l = record { reads = refl; ids = refl; room = refl }

-- a tile that is past, by its place in the row
pub record Place (o : OpenRow) (n : ℕ) (tile : ℤ) : Type 0 where
  pub at : ℕ
  pub before : at < n
  pub is_tile : tile ≡ pos (o.from + at)

placed : (o : OpenRow) (n : ℕ) (tile : ℤ) → is_past o n tile ≡ true → Place o n tile
placed o n tile e =
    let low = not (lt_z tile (pos o.from)) in
    let above = ltb (plus tile) (o.from + n) in
    let natural = lt_false tile (pos o.from) (not-true (lt_z tile (pos o.from)) (left low above e)) in
    let less = ltb-true (plus tile) (o.from + n) (right low above e) in
    record {
      at = plus tile - o.from;
      before = omega (arith, natural, less, whole tile);
      is_tile = equal tile (pos (o.from + (plus tile - o.from))) (omega (arith, natural, less, whole tile));
    }

-- ---- a call with any row, table and queue, where it is turned down, and a deciding of any list

abbrev pub all_still : OpenRow → Past → HeldAll → HeldAll
all_still o p h = held_with (still_held o p h.row) h.lists

-- calls of a run, where the verdict on them is to turn them down: by the number, which they answer
pub record TurnedDown (o : OpenRow) (p : Past) (h : HeldAll) (v : Judgement) (call : ℕ → RowCall) : Type 0 where
  pub step : (n : ℕ) → v ≡ refuse n → CallStep o h (call n) (all_still o p h)
  pub due : (n : ℕ) (es : List RowCall) → call_dues_of o p (call n ∷ es) ≡ v ∷ call_dues_of o p es

abbrev pub work_refused : OpenRow → Past → WorkCall → WorkLent → ℕ → RowCall
work_refused o p a lent n = RowCall.row (Event.other_work a lent (work_turned o p a lent n) lent)

abbrev pub paint_refused : OpenRow → Past → PaintCall → List Float → ℕ → RowCall
paint_refused o p a plane n = RowCall.row (Event.other_paint a plane (paint_turned o p plane n) plane)

abbrev pub list_refused : OpenRow → Past → ListCall → ListLent → ℕ → RowCall
list_refused o p a lent n = RowCall.other_list a lent (list_result (record { answer = refused n; state = state_on o p; lent = lent })) lent

module _ {o : OpenRow} {p : Past} {h : HeldAll} (holds : HoldsAll o p h) where
  pub still_all : HoldsAll o p (all_still o p h)
  still_all = record { row = still_holds holds.row (state_back (state_on o p)); lists = holds.lists }

  pub work_other : (a : WorkCall) (lent : WorkLent) → a.state ≡ state_on o p → TurnedDown o p h (work_verdict a lent) (work_refused o p a lent)
  unfolding call_dues_of
  work_other a lent s = record { step = λ n e. CallStep.row {h = h} (work_turned_lem holds.row a lent n s e); due = λ n es. refl }

  pub paint_other : (a : PaintCall) (plane : List Float) → a.state ≡ state_on o p → TurnedDown o p h (paint_verdict a plane) (paint_refused o p a plane)
  unfolding call_dues_of
  paint_other a plane s = record { step = λ n e. CallStep.row {h = h} (paint_turned_lem holds.row a plane n s e); due = λ n es. refl }

  list_turned : (a : ListCall) (lent : ListLent) (n : ℕ) → a.state ≡ state_on o p → listing_verdict a lent ≡ refuse n
      → CallStep o h (list_refused o p a lent n) (all_still o p h)
  unfolding listing_out
  list_turned a lent n s e =
      let table = layers_of a.table in
      let told = list_result (record { answer = refused n; state = state_on o p; lent = lent }) in
      CallStep.other_list {h = h} (s ∙ sym holds.row.state) e
      (subst (λ (v : Judgement). ListsTile (listing_out v table (listed_by a) (handed_on table (listed_by a)) a.state lent) told lent) (sym e)
      (record { answer = ap refused (subst Named e (any_list_named a lent)); state = state_back (state_on o p) ∙ sym s; lent_is = refl }))

  pub list_other : (a : ListCall) (lent : ListLent) → a.state ≡ state_on o p → TurnedDown o p h (listing_verdict a lent) (list_refused o p a lent)
  unfolding call_dues_of
  list_other a lent s = record { step = λ n e. list_turned a lent n s e; due = λ n es. refl }

pub decide_other : (o : OpenRow) (h : HeldAll) (a : DecideCall) (masks : List Bool)
    → CallStep o h (RowCall.other_decide a masks (decide_result (deciding_of a masks)) (deciding_of a masks).unmasked) h
decide_other o h a masks =
    CallStep.other_decide (decide_gives (deciding_verdict a masks) (any_decide_named a masks) (decided_outcome a) a.count a.kept masks)

-- ---- for every list of choices there is a run, with the verdicts that are due

module _ {o : OpenRow} (is_open : IsOpen o) where
  pub record Goes (p : Past) (h : HeldAll) (cs : List CallChoice) : Type 0 where
    pub events : List RowCall
    pub after : HeldAll
    pub runs : RowCalls o h events after
    pub dues : call_dues_of o p events ≡ call_choices_due o p cs

  -- a deciding, where a list of the tile is held
  pub record Decides (h : HeldAll) (c : DecideChoice) : Type 0 where
    pub list : HeldList
    pub result : TileDecided
    pub masks : List Bool
    pub step : CallStep o h (RowCall.decide (held_deciding list c) result masks) h

  pub decide_goes : {p : Past} {h : HeldAll} → HoldsAll o p h → (c : DecideChoice) → is_past o p.tiles c.tile ≡ true → Decides h c
  decide_goes {p} {h} holds c e =
      let place = placed o p.tiles c.tile e in
      let f = past_list p.tiles h.lists place.at holds.lists place.before in
      let l = f.held in
      let held = held_deciding l c in
      let tile : l.tile ≡ c.tile = f.holds.tile ∙ sym place.is_tile in
      let g : DecidesTile (deciding_of (decide_on o l held) c.unmasked) (decide_result (decide_due o held)) (decide_due o held).unmasked =
      subst (λ (out : DecideGiven). DecidesTile out (decide_result (decide_due o held)) (decide_due o held).unmasked) (sym (decide_due_lem is_open place.at l f.holds held tile (same_list_lem l)))
      (decide_gives (decide_due_verdict held) (decide_named held) (outcome_due o held) (length (layers_on o (nth_on o held))) c.kept c.unmasked) in
      record { list = l; result = decide_result (decide_due o held); masks = (decide_due o held).unmasked; step = CallStep.decide {l = l} {c = held} f.among tile (same_list_lem l) g }

  decide_first : {p : Past} {h : HeldAll} (c : DecideChoice) (cs : List CallChoice) (b : Bool) → is_past o p.tiles c.tile ≡ b → HoldsAll o p h → Goes p h cs → Goes p h (CallChoice.decide c ∷ cs)
  unfolding call_dues_of call_choices_due
  decide_first c cs false e holds rest = record { events = rest.events; after = rest.after; runs = rest.runs; dues = rw e rest.dues }
  decide_first {p} {h} c cs true e holds rest =
      record {
        events = _ ∷ rest.events;
        after = rest.after;
        runs = RowCalls.next (decide_goes holds c e).step rest.runs;
        dues = rw e (ap (λ (vs : List Judgement). decide_due_verdict c ∷ vs) rest.dues);
      }

  -- a listing
  pub list_goes : {p : Past} {h : HeldAll} → HoldsAll o p h → (c : ListChoice)
      → ListsTile (listing_of (list_on o h.row (held_listing h.row c)) c.lent) (list_result (list_due o p (held_listing h.row c))) (list_due o p (held_listing h.row c)).lent
  list_goes {p} {h} holds c =
      let held = held_listing h.row c in
      subst (λ (out : ListGiven). ListsTile out (list_result (list_due o p held)) (list_due o p held).lent) (sym (list_due_lem is_open holds.row held as_held)) (list_gives (list_due_verdict o p.tiles held) (list_named o p.tiles held) o p held)

  -- a call that is turned down, or that is none
  other_first : {p : Past} {h : HeldAll} (c : CallChoice) (cs : List CallChoice) (v w : Judgement) (call : ℕ → RowCall) → v ≡ w
      → TurnedDown o p h v call → call_choices_due o p (c ∷ cs) ≡ if_turned_down v (call_choices_due o p cs)
      → Goes p h cs → Goes p (all_still o p h) cs → Goes p h (c ∷ cs)
  other_first {p} c cs v pass call is t q rest still =
      let due = rest.dues ∙ sym (q ∙ ap (λ (u : Judgement). if_turned_down u (call_choices_due o p cs)) is) in
      record { events = rest.events; after = rest.after; runs = rest.runs; dues = due }
  other_first {p} c cs v (refuse n) call is t q rest still =
      record {
        events = call n ∷ still.events;
        after = still.after;
        runs = RowCalls.next (t.step n is) still.runs;
        dues = t.due n still.events ∙ ap (λ (vs : List Judgement). v ∷ vs) still.dues ∙ turned (call_choices_due o p cs) is ∙ sym q;
      }

  pub exists : {p : Past} {h : HeldAll} → HoldsAll o p h → (cs : List CallChoice) → Goes p h cs
  unfolding call_dues_of call_choices_due
  exists {p} {h} holds [] = record { events = []; after = h; runs = RowCalls.none; dues = refl }
  exists {p} {h} holds (CallChoice.work c ∷ cs) =
      let step = CallStep.row {h = h} (Step.work {c = held_work h.row c} as_held (work_goes is_open holds.row c)) in
      let rest = exists {p = past_work (work_due_verdict o p.tiles (held_work h.row c)) p} (call_right is_open holds step).1 cs in
      record { events = _ ∷ rest.events; after = rest.after; runs = RowCalls.next step rest.runs; dues = ap (λ (vs : List Judgement). work_due_verdict o p.tiles c ∷ vs) rest.dues }
  exists {p} {h} holds (CallChoice.paint c ∷ cs) =
      let step = CallStep.row {h = h} (Step.paint {c = held_paint h.row c} as_held (paint_goes is_open holds.row c)) in
      let rest = exists {p = past_paint (paint_due_verdict o p.tiles (held_paint h.row c)) o c.layer p} (call_right is_open holds step).1 cs in
      record { events = _ ∷ rest.events; after = rest.after; runs = RowCalls.next step rest.runs; dues = ap (λ (vs : List Judgement). paint_due_verdict o p.tiles c ∷ vs) rest.dues }
  exists {p} {h} holds (CallChoice.list c ∷ cs) =
      let step = CallStep.list {h = h} {c = held_listing h.row c} as_held (list_goes holds c) in
      let rest = exists {p = past_work (list_due_verdict o p.tiles (held_listing h.row c)) p} (call_right is_open holds step).1 cs in
      record { events = _ ∷ rest.events; after = rest.after; runs = RowCalls.next step rest.runs; dues = ap (λ (vs : List Judgement). list_due_verdict o p.tiles c ∷ vs) rest.dues }
  exists {p} {h} holds (CallChoice.decide c ∷ cs) = decide_first c cs (is_past o p.tiles c.tile) refl holds (exists holds cs)
  exists {p} {h} holds (CallChoice.other_work row table c ∷ cs) =
      let a = work_at (state_on o p) row table c in
      let v = work_verdict a c.lent in
      other_first (CallChoice.other_work row table c) cs v v (work_refused o p a c.lent) refl (work_other holds a c.lent refl) refl
      (exists holds cs) (exists (still_all holds) cs)
  exists {p} {h} holds (CallChoice.other_paint row table c ∷ cs) =
      let a = paint_at (state_on o p) row table c in
      let v = paint_verdict a c.plane in
      other_first (CallChoice.other_paint row table c) cs v v (paint_refused o p a c.plane) refl (paint_other holds a c.plane refl) refl
      (exists holds cs) (exists (still_all holds) cs)
  exists {p} {h} holds (CallChoice.other_list row table c ∷ cs) =
      let a = list_at (state_on o p) row table c in
      let v = listing_verdict a c.lent in
      other_first (CallChoice.other_list row table c) cs v v (list_refused o p a c.lent) refl (list_other holds a c.lent refl) refl
      (exists holds cs) (exists (still_all holds) cs)
  exists {p} {h} holds (CallChoice.other_decide a masks ∷ cs) =
      let rest = exists holds cs in
      let due = ap (λ (vs : List Judgement). deciding_verdict a masks ∷ vs) rest.dues in
      record { events = _ ∷ rest.events; after = rest.after; runs = RowCalls.next (decide_other o h a masks) rest.runs; dues = due }
