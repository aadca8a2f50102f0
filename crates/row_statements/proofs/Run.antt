-- The claim of specs/Claim: between calls the caller holds the row's carries, each call keeps that, and what is held makes each call right.
-- Assumes nothing.
use Rattle.std.specs.Prelude.{◌≡◌, ◌+◌, ◌≤◌, Ok}
use Rattle.laws.proofs.Prelude.{refl, ap, ap₂, sym, subst, ◌∙◌, Bool, true, false, cond, List, None, ℕ, arith, ltb-false, ltb, Float}
use Rattle.laws.proofs.Prelude.{ℤ, pos, length, Answer, refused, given, plus, clash, whole, equal}
use Rattle.laws.proofs.Bools.{not-true}
use Rattle.refusals.specs.Refusal.{Judgement, pass, refuse}
use Rattle.segment_rows.specs.Rows.{Words}
use Rattle.segment_rows.specs.Search.{left_part}
use Rattle.styling.specs.Ascending.{strictly_ascends}
use Rattle.layer_table.proofs.Judging.{table_short}
use Rattle.queue_statements.specs.Queue.{Carry, ids_in}
use Rattle.queue_statements.specs.Opening.{open_queue, is_light_opening}
use Rattle.queue_statements.proofs.Columns.{are_wide}
use Rattle.row_carries.proofs.Carried.{queue_first, queue_ascends, queue_wide, listed_is, held_from_row}
use Rattle.row_carries.proofs.Planes.{unlisted_zeros, unknown_zeros}
use Rattle.row_carries.proofs.Covered.{covered_under}
use Rattle.row_statements.specs.Lent.{Columns, is_lent_short, queue_over}
use Rattle.row_statements.specs.State.{State, state_in}
use Rattle.row_statements.specs.Opening.{OpenCall, left_of, open_verdict, open_count, open_state, open_out, open_of, OpensRow}
use Rattle.row_statements.specs.TileWork.{WorkCall, WorkLent, says_for, work_out, work_of, GivesWork}
use Rattle.row_statements.specs.Painting.{PaintCall, taken_for, part_for, paint_says, paint_out, paint_of, PaintsLayer}
use Rattle.row_statements.specs.Due.{OpenRow, Past, at_first, table_on, queue_on, state_on}
use Rattle.row_statements.specs.Run.{open_row, Held, held_first, Event, Step, Run}
use Rattle.row_statements.specs.Claim.{TileFacts, RightOtherWork, RightOtherPaint, Right, past_after, AllRight, Claim}
use Rattle.row_statements.specs.InnerHolding.{HoldsQueue, IsOpen, Holds}
use Rattle.row_statements.specs.declared.RowState.{RowState}
use Rattle.row_statements.specs.declared.TileWorked.{TileWorked}
use Rattle.row_statements.specs.declared.Painted.{Painted}
use Rattle.row_statements.proofs.Openings.{opening_passed}
use Rattle.row_statements.proofs.Holding.{holds_written}
use Rattle.row_statements.proofs.WorkSteps.{right_work}
use Rattle.row_statements.proofs.PaintSteps.{right_paint}

-- ---- what the row alone says

pub facts : {o : OpenRow} → IsOpen o → (n : ℕ) → TileFacts o n
facts {o} is_open n =
    let row = is_open.in_order in
    record {
      sums = held_from_row row (table_on o) o.from n;
      listed = listed_is row (table_on o) o.from n;
      unlisted = unlisted_zeros row (table_on o) o.from n;
      unknown = unknown_zeros row (table_on o) o.from n;
      covered = covered_under row (table_on o) o.from n;
    }

-- ---- a call with another row, table or queue that is turned down

module _ {o : OpenRow} {p : Past} {h : Held} (holds : Holds o p h) where
  other_work : (a : WorkCall) (lent : WorkLent) {r : TileWorked} {back : WorkLent} → a.state ≡ h.state → GivesWork (work_of a lent) r back → RightOtherWork o p a lent r back
  unfolding work_out
  other_work a lent {r} {back} es g n e =
      let d : GivesWork (work_out (refuse n) (says_for a) a.state a.kept lent) r back = subst (λ (v : Judgement). GivesWork (work_out v (says_for a) a.state a.kept lent) r back) e g in
      record { answer = d.answer; state = d.state ∙ es ∙ holds.state; kept = d.kept; lent_is = d.lent_is }

  other_paint : (a : PaintCall) (plane : List Float) {r : Painted} {back : List Float} → a.state ≡ h.state → PaintsLayer (paint_of a plane) r back → RightOtherPaint o p a plane r back
  unfolding paint_out
  other_paint a plane {r} {back} es g n e =
      let says = paint_says (table_on (record { tile_y = 0; from = 0; to = 0; row = a.row; table = a.table })) (taken_for a) (part_for a) a.layer a.state.clip in
      let d : PaintsLayer (paint_out (refuse n) says a.state plane) r back = subst (λ (v : Judgement). PaintsLayer (paint_out v says a.state plane) r back) e g in
      record { answer = d.answer; state = d.state ∙ es ∙ holds.state; plane = d.plane }

  pub still_holds : {s : State} → s ≡ state_on o p → Holds o p (record { state = s; queue = h.queue; taken = h.taken })
  still_holds es = record { state = es; inside = holds.inside; queue = holds.queue; taken_long = holds.taken_long; took = holds.took }

-- ---- one call, and any list of them

pub step_right : {o : OpenRow} {p : Past} {h h' : Held} {e : Event} → IsOpen o → Holds o p h → Step o h e h' → Right o p e × Holds o (past_after o e p) h'
step_right is_open holds (Step.work same g) = right_work is_open holds _ same g
step_right is_open holds (Step.paint same g) = right_paint is_open holds _ same g
step_right is_open holds (Step.other_work {a = a} {lent = lent} {n = n} es e g) =
    let right = other_work holds a lent es g in
    (right, still_holds holds (right n e).state)
step_right is_open holds (Step.other_paint {a = a} {plane = plane} {n = n} es e g) =
    let right = other_paint holds a plane es g in
    (right, still_holds holds (right n e).state)

pub run_right : {o : OpenRow} {p : Past} {h h' : Held} {es : List Event} → IsOpen o → Holds o p h → Run o h es h' → AllRight o p es
run_right is_open holds Run.none = tt
run_right {o = o} {p = p} is_open holds (Run.next {e = e} s rest) =
    let u = step_right is_open holds s in
    (u.0, run_right {p = past_after o e p} is_open u.1 rest)

-- what the caller then holds is the row's carries, after some calls
pub record HoldsAfter (o : OpenRow) (h : Held) : Type 0 where
  pub past : Past
  pub holds : Holds o past h

pub run_holds : {o : OpenRow} {p : Past} {h h' : Held} {es : List Event} → IsOpen o → Holds o p h → Run o h es h' → HoldsAfter o h'
run_holds {p = p} is_open holds Run.none = record { past = p; holds = holds }
run_holds {o = o} {p = p} is_open holds (Run.next {e = e} s rest) = run_holds {p = past_after o e p} is_open (step_right is_open holds s).1 rest

-- ---- the opening

-- an opening that gives a state is refused by neither 7 nor 9
given_state : (c : OpenCall) (lent : Columns) (many light : Bool) (n : ℕ) (s : State) → given s ≡ (open_out (cond many (refused 7) (cond light (given n) (refused 9))) c lent).answer → (many ≡ false) × (s ≡ open_state c.tile_y c.from c.to n) × (cond many (refused 7) (cond light (given n) (refused 9)) ≡ given n)
given_state c lent true light n s e = absurd (let z : ◌≡◌ {A = ℕ} 0 1 = cc in omega arith)
given_state c lent false true n s e = (refl, cc, refl)
given_state c lent false false n s e = absurd (let z : ◌≡◌ {A = ℕ} 0 1 = cc in omega arith)

module _ (c : OpenCall) (lent back : Columns) (s : RowState) where
  pub q : List Carry
  q = open_queue (left_of c)

  -- what an accepted opening says, and leaves
  pub record Accepted : Type 0 where
    pub passes : open_verdict c lent ≡ pass
    pub few : length q ≤ 256
    pub state : state_in s ≡ open_state c.tile_y c.from c.to (length q)
    pub back_is : back ≡ queue_over q lent

  pub accepted : OpensRow (open_of c lent) (Ok s) back → Accepted
  unfolding open_of q
  accepted g = by (open_verdict c lent) refl g.answer g.lent_is
    where
      by : (v : Judgement) → open_verdict c lent ≡ v → given (state_in s) ≡ (open_out (open_count v (left_of c)) c lent).answer → back ≡ (open_out (open_count v (left_of c)) c lent).lent → Accepted
      by (refuse n) e a l = absurd (let z : ◌≡◌ {A = ℕ} 0 1 = cc in omega arith)
      by pass e a l =
          let t = given_state c lent (ltb 256 (length q)) (is_light_opening (left_of c)) (length q) (state_in s) a in
          record {
            passes = e;
            few = ltb-false 256 (length q) t.0;
            state = t.1;
            back_is = l ∙ ap (λ (n : Answer ℕ). (open_out n c lent).lent) t.2;
          }

  pub is_open : Words c.row → Accepted → IsOpen (open_row c)
  is_open w a =
      let t = opening_passed c lent a.passes in
      record {
        tile_y = t.ends.tile_y.1;
        last = t.ends.last.1;
        in_order = record { words = w; is_row_lem = t.in_row_lem };
        in_table = t.in_table;
        table_long = not-true (is_lent_short c.table) (λ e. clash t.in_table (table_short c.table.words c.table.floats c.table.count e));
      }

  -- the first tile is no negative one
  queue_is : Accepted → queue_on (open_row c) 0 ≡ q
  unfolding q
  queue_is a =
      let e = (opening_passed c lent a.passes).ends in
      let natural : pos (plus c.from) ≡ c.from = equal (pos (plus c.from)) c.from (omega (arith, whole c.from, e.first)) in
      queue_first (table_on (open_row c)) c.row (plus c.from) ∙ ap (λ (t : ℤ). open_queue (left_part t c.row)) natural

  -- the caller holds the opening's carries
  pub held_first_lem : Words c.row → Accepted → Holds (open_row c) at_first (held_first s back)
  held_first_lem w a =
      let o = open_row c in
      let t = opening_passed c lent a.passes in
      let i = is_open w a in
      let first : q ≡ queue_on o 0 = sym (queue_is a) in
      let next : plus c.from ≡ plus c.from + 0 = omega arith in
      let wide = subst (λ (r : List Carry). are_wide r ≡ true) (queue_is a) (queue_wide i.in_order (table_on o) (plus c.from) 0) in
      let up = subst (λ (r : List Carry). strictly_ascends (ids_in r) ≡ true) (queue_is a) (queue_ascends i.in_order (table_on o) (plus c.from) 0) in
      let holds : HoldsQueue q back = subst (HoldsQueue q) (sym a.back_is) (holds_written q lent t.room a.few wide up) in
      record {
        state =
            a.state
            ∙ ap₂ (λ (n : ℕ) (r : List Carry). record { tile_y = plus c.tile_y; from = plus c.from; to = plus c.to; next = n; left = length r; taken = 0; clip = None }) next first;
        inside = omega (arith, t.ends.first);
        queue = subst (λ (r : List Carry). HoldsQueue r back) first holds;
        taken_long = holds.long;
        took = tt;
      }

-- demand 3
pub run : Claim
run c lent back s es h w g r =
    let a = accepted c lent back s g in
    let opened_row = is_open c lent back s w a in
    (facts opened_row, run_right opened_row (held_first_lem c lent back s w a) r)
