-- The claim is not empty: after every accepted opening, every list of choices is the list of some run's calls. Assumes nothing.
use Rattle.refusals.specs.declared.Refusal.{Refusal}
use Rattle.std.specs.Prelude.{◌≡◌, ◌||◌, ◌∷◌, ◌+◌, ◌-◌, Result, Ok, Err}
use Rattle.laws.proofs.Prelude.{refl, ap, sym, subst, ◌∙◌, Bool, not, List, [], Option, Some, None, ℕ, suc, ltb, Float, pos}
use Rattle.laws.proofs.Prelude.{length, Answer, refused, given, is_given}
use Rattle.refusals.specs.Refusal.{Judgement, pass, refuse, unless, and_then}
use Rattle.refusals.proofs.Naming.{refusal_of, Named, named}
use Rattle.pixel_segment.specs.Field.{cpu}
use Rattle.segment_rows.specs.Rows.{is_row}
use Rattle.segment_rows.specs.Search.{tile_part}
use Rattle.layer_table.specs.Lookup.{lookup}
use Rattle.styling.specs.declared.Layer.{Layer}
use Rattle.queue_statements.specs.Queue.{Carry, is_queue}
use Rattle.cached_tile.specs.Kept.{tag_out_of_range}
use Rattle.tile_layers.specs.Listing.{Listed, is_too_many, are_known, are_light}
use Rattle.pass_statements.specs.Decision as decision
use Rattle.pass_statements.specs.Decision.{TileDecision, solid, paint, decision_in}
use Rattle.pass_statements.specs.declared.decide.Decision.{Decision}
use Rattle.pass_statements.specs.declared.decide.Decision.TheVariants.{None, Solid, Paint}
use Rattle.painter.specs.Painting.{is_light_in}
use Rattle.row_statements.specs.Lent.{Columns, LentTable, is_queue_short, is_list_short, layers_of, is_lent_table}
use Rattle.row_statements.specs.State.{State, state_in, is_wrong_next, is_wrong_worked}
use Rattle.row_statements.specs.Conditions.{first_five}
use Rattle.row_statements.specs.TileWork.{WorkCall, WorkLent, WorkGiven, TileAnswer, is_short_for, args_verdict, list_verdict, listed_for, layers_verdict, work_verdict, says_for, work_out, work_of, GivesWork}
use Rattle.row_statements.specs.Painting.{PaintCall, PaintGiven, is_paint_short, call_verdict, layer_verdict, taken_for, part_for, own_verdict, paint_verdict, paint_says, paint_out, paint_of, PaintsLayer}
use Rattle.row_statements.specs.Due.{OpenRow, Past, table_on, queue_on, layers_on, WorkChoice, is_not_due, work_due_verdict, says_on, state_on, work_due, past_work, PaintChoice, is_not_last, paint_due_verdict, paint_on, paint_due, past_paint}
use Rattle.row_statements.specs.Run.{Held, SameCarries, work_on, paint_onto, Event, Step, Run}
use Rattle.row_statements.specs.Example.{Choice, work_at, paint_at, if_turned_down, dues_of, choices_due}
use Rattle.row_statements.specs.InnerHolding.{IsOpen, Holds}
use Rattle.row_statements.specs.declared.RowState.{RowState}
use Rattle.row_statements.specs.declared.TileDone.{TileDone}
use Rattle.row_statements.specs.declared.TileWorked.{TileWorked}
use Rattle.row_statements.specs.declared.Painted.{Painted}
use Rattle.row_statements.proofs.WorkSteps.{work_due_lem, right_work}
use Rattle.row_statements.proofs.PaintSteps.{paint_due_lem, right_paint}
use Rattle.row_statements.proofs.Run.{still_holds}

-- ---- an answer of the code for what is due

abbrev pub state_out : State → RowState
state_out s = record { tile_y = s.tile_y; from = s.from; to = s.to; next = s.next; left = s.left; taken = s.taken; clip = s.clip }

pub state_back : (s : State) → state_in (state_out s) ≡ s
state_back s = refl

abbrev pub decision_out : TileDecision → Decision
decision_out decision.none = None
decision_out (solid bottom before) = Solid bottom before
decision_out paint = Paint

pub decision_back : (d : TileDecision) → decision_in (decision_out d) ≡ d
decision_back decision.none = refl
decision_back (solid bottom before) = refl
decision_back paint = refl

abbrev pub told_out : TileAnswer → TileDone
told_out t = record { decision = decision_out t.decision; listed = t.listed; skipped = record { 0 = t.skipped } }

abbrev pub worked_out : Answer TileAnswer → Result TileDone Refusal
worked_out (refused n) = Err (refusal_of n)
worked_out (given t) = Ok (told_out t)

abbrev pub painted_out : Answer ℕ → Result ℕ Refusal
painted_out (refused n) = Err (refusal_of n)
painted_out (given mark) = Ok mark

-- ---- every number that is due is one of the table

pub listed_named : (table : List Layer) (ls : List Listed) → Named (list_verdict table ls)
unfolding list_verdict
listed_named table ls =
    named (is_too_many ls) 7 (unless (not (are_known table ls)) 8 (unless (not (are_light ls)) 9 pass)) refl
    (named (not (are_known table ls)) 8 (unless (not (are_light ls)) 9 pass) refl
    (named (not (are_light ls)) 9 pass refl tt))

pub work_named : (o : OpenRow) (n : ℕ) (c : WorkChoice) → Named (work_due_verdict o n c)
work_named o n c =
    let seven = list_verdict (table_on o) (layers_on o n) in
    let six = unless (tag_out_of_range c.kept) 6 seven in
    named (is_queue_short c.lent.queue || is_list_short c.lent.list) 1 (unless (is_not_due o n c.tile) 2 six) refl
    (named (is_not_due o n c.tile) 2 six refl
    (named (tag_out_of_range c.kept) 6 seven refl (listed_named (table_on o) (layers_on o n))))

layer_named : (table : List Layer) (q : List Carry) (part : List ℕ) (id : ℕ) → Named (layer_verdict table q part id)
layer_named table q part id =
    named (not (is_given (lookup table id))) 8 (unless (not (is_light_in q part id)) 9 pass) refl (named (not (is_light_in q part id)) 9 pass refl tt)

pub paint_named : (o : OpenRow) (n : ℕ) (c : PaintChoice) → Named (paint_due_verdict o n c)
paint_named o n c =
    let q = queue_on o (n - 1) in
    let part = tile_part (pos (o.from + (n - 1))) o.row in
    let eight = layer_verdict (table_on o) q part c.layer in
    named (ltb (length c.plane) 256) 1 (unless (is_not_last o n c.tile) 2 eight) refl
    (named (is_not_last o n c.tile) 2 eight refl (layer_named (table_on o) q part c.layer))

-- and so is every number that a call with any row, table and queue is turned down by
pub five_named : (short wrong : Bool) (y : ℕ) (row : List ℕ) (table : LentTable) (n : ℕ) (ids : List ℕ) (below : Judgement) → Named below → Named (first_five short wrong y row table n ids below)
five_named short wrong y row table n ids below h =
    let five = unless (not (is_queue n ids)) 5 below in
    let four = unless (not (is_lent_table table)) 4 five in
    let three = unless (not (is_row cpu (suc y) row)) 3 four in
    named short 1 (unless wrong 2 three) refl
    (named wrong 2 three refl
    (named (not (is_row cpu (suc y) row)) 3 four refl
    (named (not (is_lent_table table)) 4 five refl
    (named (not (is_queue n ids)) 5 below refl h))))

pub then_named : (v w : Judgement) → Named v → Named w → Named (and_then v w)
then_named pass w first second = second
then_named (refuse n) w first second = first

any_work_named : (a : WorkCall) (lent : WorkLent) → Named (work_verdict a lent)
unfolding args_verdict
any_work_named a lent =
    then_named (args_verdict a lent) (layers_verdict a)
    (five_named (is_short_for a lent) (is_wrong_next a.state a.tile) a.state.tile_y a.row a.table a.state.left a.queue.ids (unless (tag_out_of_range a.kept) 6 pass)
    (named (tag_out_of_range a.kept) 6 pass refl tt))
    (listed_named (layers_of a.table) (listed_for a))

any_paint_named : (a : PaintCall) (plane : List Float) → Named (paint_verdict a plane)
unfolding call_verdict
any_paint_named a plane =
    then_named (call_verdict a plane) (own_verdict a)
    (five_named (is_paint_short a plane) (is_wrong_worked a.state a.tile) a.state.tile_y a.row a.table a.state.taken a.queue.ids pass tt)
    (layer_named (layers_of a.table) (taken_for a) (part_for a) a.layer)

-- ---- so there is an answer of the code that gives it

abbrev pub work_result : WorkGiven → TileWorked
work_result g = record { state = state_out g.state; kept = g.kept; answer = worked_out g.answer }

pub work_gives : (v : Judgement) → Named v → (o : OpenRow) (p : Past) (c : WorkChoice) → let g = work_out v (says_on o p.tiles c) (state_on o p) c.kept c.lent in GivesWork g (work_result g) g.lent
unfolding work_out
work_gives (refuse n) named o p c = record { answer = ap refused named; state = state_back (state_on o p); kept = refl; lent_is = refl }
work_gives pass named o p c =
    record {
      answer = ap (λ (d : TileDecision). given (record { decision = d; listed = length (layers_on o p.tiles); skipped = (says_on o p.tiles c).outcome.skipped })) (decision_back (says_on o p.tiles c).outcome.decision);
      state = state_back (work_out pass (says_on o p.tiles c) (state_on o p) c.kept c.lent).state;
      kept = refl;
      lent_is = refl;
    }

abbrev pub paint_result : PaintGiven → Painted
paint_result g = record { state = state_out g.state; answer = painted_out g.answer }

pub paint_gives : (v : Judgement) → Named v → (o : OpenRow) (p : Past) (c : PaintChoice) → let g = paint_out v (paint_on o (p.tiles - 1) c.layer p.clip) (state_on o p) c.plane in PaintsLayer g (paint_result g) g.plane
unfolding paint_out
paint_gives (refuse n) named o p c = record { answer = ap refused named; state = state_back (state_on o p); plane = refl }
paint_gives pass named o p c = record { answer = refl; state = state_back (paint_out pass (paint_on o (p.tiles - 1) c.layer p.clip) (state_on o p) c.plane).state; plane = refl }

-- ---- a choice, made with the carries that the caller holds

pub as_held : {n : ℕ} {k : Columns} → SameCarries n k k
as_held = record { reads = refl; room = refl; order = refl }

abbrev pub held_work : Held → WorkChoice → WorkChoice
held_work h c = record { tile = c.tile; kept = c.kept; clear = c.clear; previous = c.previous; queue = h.queue; lent = c.lent }

abbrev pub held_paint : Held → PaintChoice → PaintChoice
held_paint h c = record { tile = c.tile; layer = c.layer; queue = h.taken; plane = c.plane }

module _ {o : OpenRow} {p : Past} {h : Held} (is_open : IsOpen o) (holds : Holds o p h) where
  pub work_goes : (c : WorkChoice) → GivesWork (work_of (work_on o h (held_work h c)) c.lent) (work_result (work_due o p (held_work h c))) (work_due o p (held_work h c)).lent
  work_goes c =
      let held = held_work h c in
      subst (λ (out : WorkGiven). GivesWork out (work_result (work_due o p held)) (work_due o p held).lent) (sym (work_due_lem is_open holds held as_held)) (work_gives (work_due_verdict o p.tiles held) (work_named o p.tiles held) o p held)

  pub paint_goes : (c : PaintChoice) → PaintsLayer (paint_of (paint_onto o h (held_paint h c)) c.plane) (paint_result (paint_due o p (held_paint h c))) (paint_due o p (held_paint h c)).plane
  paint_goes c =
      let held = held_paint h c in
      subst (λ (out : PaintGiven). PaintsLayer out (paint_result (paint_due o p held)) (paint_due o p held).plane) (sym (paint_due_lem is_open holds held as_held)) (paint_gives (paint_due_verdict o p.tiles held) (paint_named o p.tiles held) o p held)

-- ---- a call with any row, table and queue, where it is turned down

pub turned : {v : Judgement} {n : ℕ} (vs : List Judgement) → v ≡ refuse n → v ∷ vs ≡ if_turned_down v vs
turned vs e = subst (λ (u : Judgement). u ∷ vs ≡ if_turned_down u vs) (sym e) refl

-- the state that it returns is the one that the caller held
abbrev pub still_held : OpenRow → Past → Held → Held
still_held o p h = record { state = state_in (state_out (state_on o p)); queue = h.queue; taken = h.taken }

abbrev pub work_turned : OpenRow → Past → WorkCall → WorkLent → ℕ → TileWorked
work_turned o p a lent n = work_result (record { answer = refused n; state = state_on o p; kept = a.kept; lent = lent })

abbrev pub paint_turned : OpenRow → Past → List Float → ℕ → Painted
paint_turned o p plane n = paint_result (record { answer = refused n; state = state_on o p; plane = plane })

module _ {o : OpenRow} {p : Past} {h : Held} (holds : Holds o p h) where
  pub work_turned_lem : (a : WorkCall) (lent : WorkLent) (n : ℕ) → a.state ≡ state_on o p → work_verdict a lent ≡ refuse n → Step o h (Event.other_work a lent (work_turned o p a lent n) lent) (still_held o p h)
  unfolding work_out
  work_turned_lem a lent n s e =
      Step.other_work (s ∙ sym holds.state) e
      (subst (λ (v : Judgement). GivesWork (work_out v (says_for a) a.state a.kept lent) (work_turned o p a lent n) lent) (sym e)
      (record { answer = ap refused (subst Named e (any_work_named a lent)); state = state_back (state_on o p) ∙ sym s; kept = refl; lent_is = refl }))

  pub paint_turned_lem : (a : PaintCall) (plane : List Float) (n : ℕ) → a.state ≡ state_on o p → paint_verdict a plane ≡ refuse n → Step o h (Event.other_paint a plane (paint_turned o p plane n) plane) (still_held o p h)
  unfolding paint_out
  paint_turned_lem a plane n s e =
      let says = paint_says (layers_of a.table) (taken_for a) (part_for a) a.layer a.state.clip in
      Step.other_paint (s ∙ sym holds.state) e
      (subst (λ (v : Judgement). PaintsLayer (paint_out v says a.state plane) (paint_turned o p plane n) plane) (sym e)
      (record { answer = ap refused (subst Named e (any_paint_named a plane)); state = state_back (state_on o p) ∙ sym s; plane = refl }))

-- ---- for every list of choices there is a run, with the verdicts that are due

module _ {o : OpenRow} (is_open : IsOpen o) where
  pub record Goes (p : Past) (h : Held) (cs : List Choice) : Type 0 where
    pub events : List Event
    pub after : Held
    pub runs : Run o h events after
    pub dues : dues_of o p events ≡ choices_due o p cs

  -- a call that is turned down, or that is none
  other_first : {p : Past} {h h' : Held} (c : Choice) (cs : List Choice) (v w : Judgement) (e : ℕ → Event) → v ≡ w → ((n : ℕ) → v ≡ refuse n → Step o h (e n) h')
      → ((n : ℕ) (es : List Event) → dues_of o p (e n ∷ es) ≡ v ∷ dues_of o p es) → choices_due o p (c ∷ cs) ≡ if_turned_down v (choices_due o p cs)
      → Goes p h cs → Goes p h' cs → Goes p h (c ∷ cs)
  other_first {p} c cs v pass e is step d q rest still =
      record { events = rest.events; after = rest.after; runs = rest.runs; dues = rest.dues ∙ sym (q ∙ ap (λ (u : Judgement). if_turned_down u (choices_due o p cs)) is) }
  other_first {p} c cs v (refuse n) e is step d q rest still =
      record {
        events = e n ∷ still.events;
        after = still.after;
        runs = Run.next (step n is) still.runs;
        dues = d n still.events ∙ ap (λ (vs : List Judgement). v ∷ vs) still.dues ∙ turned (choices_due o p cs) is ∙ sym q;
      }

  pub exists : {p : Past} {h : Held} → Holds o p h → (cs : List Choice) → Goes p h cs
  unfolding dues_of choices_due
  exists {p} {h} holds [] = record { events = []; after = h; runs = Run.none; dues = refl }
  exists {p} {h} holds (Choice.work c ∷ cs) =
      let rest = exists {p = past_work (work_due_verdict o p.tiles (held_work h c)) p} (right_work is_open holds (held_work h c) as_held (work_goes is_open holds c)).1 cs in
      record { events = _ ∷ rest.events; after = rest.after; runs = Run.next (Step.work {c = held_work h c} as_held (work_goes is_open holds c)) rest.runs; dues = ap (λ (vs : List Judgement). work_due_verdict o p.tiles c ∷ vs) rest.dues }
  exists {p} {h} holds (Choice.paint c ∷ cs) =
      let rest = exists {p = past_paint (paint_due_verdict o p.tiles (held_paint h c)) o c.layer p} (right_paint is_open holds (held_paint h c) as_held (paint_goes is_open holds c)).1 cs in
      record { events = _ ∷ rest.events; after = rest.after; runs = Run.next (Step.paint {c = held_paint h c} as_held (paint_goes is_open holds c)) rest.runs; dues = ap (λ (vs : List Judgement). paint_due_verdict o p.tiles c ∷ vs) rest.dues }
  exists {p} {h} holds (Choice.other_work row table c ∷ cs) =
      let a = work_at (state_on o p) row table c in
      let v = work_verdict a c.lent in
      other_first (Choice.other_work row table c) cs v v (λ n. Event.other_work a c.lent (work_turned o p a c.lent n) c.lent) refl (λ n e. work_turned_lem holds a c.lent n refl e)
      (λ n es. refl) refl (exists holds cs) (exists (still_holds holds (state_back (state_on o p))) cs)
  exists {p} {h} holds (Choice.other_paint row table c ∷ cs) =
      let a = paint_at (state_on o p) row table c in
      let v = paint_verdict a c.plane in
      other_first (Choice.other_paint row table c) cs v v (λ n. Event.other_paint a c.plane (paint_turned o p c.plane n) c.plane) refl (λ n e. paint_turned_lem holds a c.plane n refl e)
      (λ n es. refl) refl (exists holds cs) (exists (still_holds holds (state_back (state_on o p))) cs)
