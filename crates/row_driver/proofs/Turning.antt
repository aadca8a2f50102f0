-- A tile of a driven row: what the driver holds lets the work pass without judging the row and the table again, and the theorem of demand 3 says
-- what the work gives and what the driver then holds. Assumes nothing.
use Rattle.std.specs.Prelude.{◌≡◌, ◌+◌, ◌^◌, ◌<◌, Ok, Err}
use Rattle.laws.proofs.Prelude.{refl, ap, sym, subst, ◌∙◌, Bool, true, false, not, List, Some, None, ℕ, suc, arith, le-ltb}
use Rattle.laws.proofs.Prelude.{lt-leb, eq-eqb, pos, length, refused, given}
use Rattle.refusals.specs.Refusal.{Judgement, pass, refuse, number_of, and_then}
use Rattle.refusals.specs.declared.Refusal.{Refusal}
use Rattle.segment_rows.specs.Search.{tile_part}
use Rattle.queue_statements.specs.Queue.{is_queue}
use Rattle.cached_tile.specs.Kept.{no_tile}
use Rattle.row_statements.specs.Lent.{Columns, ListColumns, carries_in, is_list_short}
use Rattle.row_statements.specs.State.{State, state_in}
use Rattle.row_statements.specs.TileWork.{WorkLent, work_lent, listed_for, says_for, list_verdict, args_verdict, layers_verdict, work_out, work_of, work_answer, tile_answer_in, GivesWork}
use Rattle.row_statements.specs.Due.{OpenRow, Past, WorkChoice, table_on, layers_on, says_on, state_on, is_not_due, work_due_verdict}
use Rattle.row_statements.specs.Run.{Held, SameCarries, work_on}
use Rattle.row_statements.specs.Claim.{RightWork}
use Rattle.row_statements.specs.InnerHolding.{IsOpen, Holds}
use Rattle.row_statements.specs.declared.RowState.{RowState}
use Rattle.row_statements.specs.declared.TileDone.{TileDone}
use Rattle.row_statements.proofs.Works.{args_passed, judged, list_passed}
use Rattle.row_statements.proofs.WorkSteps.{args_due, layers_due, right_work}
use Rattle.row_lines.specs.Lines.{clear_color, line_on}
use Rattle.row_lines.specs.Driven.{refusal_of}
use Rattle.row_driver.specs.InnerSteps.{args_of, side, held_by, line_at, Workable, WorksLine, PartWorkable, Turns}
use Rattle.row_driver.specs.declared.tile.TileLine.{TileLine}
use Rattle.row_driver.proofs.LineLaws as line

-- a lent list keeps its room
pub list_kept : (list list' : ListColumns) → length list'.ids ≡ length list.ids → length list'.covers ≡ length list.covers → length list'.flags ≡ length list.flags → length list'.unmasked ≡ length list.unmasked → is_list_short list ≡ false → is_list_short list' ≡ false
list_kept list list' ei ec es eh h = rw (ei, ec, es, eh) h

-- the tile is the state's next, and its number is narrow
module _ {o : OpenRow} {n : ℕ} {h : Held} (is_open : IsOpen o) (holds : Holds o (record { tiles = n; clip = None }) h) where
  pub tile_is : h.state.next ≡ o.from + n
  tile_is = ap (λ (x : State). x.next) holds.state

  pub narrow : h.state.next < 2 ^ 15
  narrow = omega (arith, tile_is, holds.inside, is_open.last)

-- the side whose turn it is not
other_side : (in-a : Bool) (a b : Columns) → side (not (not in-a)) a b ≡ side in-a a b
other_side true a b = refl
other_side false a b = refl

module _ {o : OpenRow} {n : ℕ} (in-a : Bool) (s : RowState) (a b : Columns) (is_open : IsOpen o) (holds : Holds o (record { tiles = n; clip = None }) (held_by in-a s a b)) (inside : o.from + n < o.to) (list : ListColumns) (list_long : is_list_short list ≡ false) where
  choice : WorkChoice
  choice = record { tile = pos s.next; kept = no_tile; clear = clear_color; previous = None; queue = side in-a a b; lent = work_lent (side (not in-a) a b) list }

  past : Past
  past = record { tiles = n; clip = None }

  same : SameCarries (held_by in-a s a b).state.left (held_by in-a s a b).queue (side in-a a b)
  same = record { reads = refl; room = refl; order = refl }

  due : is_not_due o n (pos s.next) ≡ false
  due = rw (tile_is is_open holds, lt-leb o.to (o.from + n) inside, le-ltb (o.from + n) 0 (omega arith), eq-eqb (o.from + n) (o.from + n) refl)

  passes : args_verdict (work_on o (held_by in-a s a b) choice) choice.lent ≡ pass
  unfolding choice
  passes = args_due is_open holds choice same ∙ rw (holds.taken_long, list_long, due)

  pub workable : Workable (args_of s o.row o.table.words o.table.floats o.table.count (side in-a a b)) (work_lent (side (not in-a) a b) list)
  unfolding choice
  workable =
      let args = work_on o (held_by in-a s a b) choice in
      record {
        judged = judged args choice.lent is_open.in_order.words (args_passed args choice.lent passes);
        in_queue = ap (λ (x : State). is_queue x.left (side in-a a b).ids) holds.state ∙ holds.queue.ordered;
      }

  pub part_workable : {part : List ℕ} → part ≡ tile_part (pos s.next) o.row → PartWorkable s part o.table.words o.table.floats o.table.count (side in-a a b) (work_lent (side (not in-a) a b) list)
  part_workable own = record { row = o.row; part_is = own; workable = workable }

  layers_are : listed_for (work_on o (held_by in-a s a b) choice) ≡ layers_on o n
  unfolding choice
  layers_are = layers_due is_open holds choice same due

  module _ {part : List ℕ} (own : part ≡ tile_part (pos s.next) o.row) {r : TileLine} (a' b' : Columns) (list' : ListColumns) (t : Turns in-a s part o.table.words o.table.floats o.table.count a b list r a' b' list') where
    back : WorkLent
    back = work_lent (side (not in-a) a' b') list'

    -- the part is the row's
    works : WorksLine (args_of s o.row o.table.words o.table.floats o.table.count (side in-a a b)) (work_lent (side (not in-a) a b) list) r back
    unfolding back
    works = t.works.gives o.row own workable

    -- the contract of the public operation
    given_work : GivesWork (work_of (work_on o (held_by in-a s a b) choice) choice.lent) r.worked back
    unfolding choice back
    given_work =
        let k = work_on o (held_by in-a s a b) choice in
        subst (λ (v : Judgement). GivesWork (work_out (and_then v (layers_verdict k)) (says_for k) k.state k.kept choice.lent) r.worked back) (sym passes) works.works

    -- by the theorem's step
    told : RightWork o past choice r.worked back
    unfolding past choice back
    told = (right_work is_open holds choice same given_work).0

    verdict_is : work_due_verdict o n choice ≡ list_verdict (table_on o) (layers_on o n)
    unfolding choice
    verdict_is = rw (holds.taken_long, list_long, due)

    answer_is : work_answer r.worked.answer ≡ (work_out (list_verdict (table_on o) (layers_on o n)) (says_on o n choice) (state_on o past) choice.kept choice.lent).answer
    unfolding past choice
    answer_is = told.gives.answer ∙ ap (λ (v : Judgement). (work_out v (says_on o n choice) (state_on o past) choice.kept choice.lent).answer) verdict_is

    -- an accepted tile: its line is the whole row's, and the driver holds the next tile's carries on the other side
    pub accepted : {d : TileDone} → r.worked.answer ≡ Ok d → list_verdict (table_on o) (layers_on o n) ≡ pass
    unfolding work_out
    accepted {d} e = by (list_verdict (table_on o) (layers_on o n)) (sym (ap work_answer e) ∙ answer_is)
      where
        by : (v : Judgement) → given (tile_answer_in d) ≡ (work_out v (says_on o n choice) (state_on o past) choice.kept choice.lent).answer → v ≡ pass
        by (refuse k) h = absurd (let z : ◌≡◌ {A = ℕ} 0 1 = cc in omega arith)
        by pass h = refl

    pub line_is : {d : TileDone} → r.worked.answer ≡ Ok d → r.line ≡ line_on o n
    unfolding choice line_at
    line_is e =
        let v = accepted e in
        works.line_is (ap (list_verdict (table_on o)) layers_are ∙ v)
        ∙ line.line_is is_open n (list_passed (table_on o) (layers_on o n) v).known layers_are
        (ap (λ (x : State). carries_in x.left (side in-a a b)) holds.state ∙ holds.queue.reads) (ap (λ (m : ℕ). tile_part (pos m) o.row) (tile_is is_open holds))

    pub holds_next : {d : TileDone} → r.worked.answer ≡ Ok d → Holds o (record { tiles = suc n; clip = None }) (held_by (not in-a) r.worked.state a' b')
    unfolding choice back
    holds_next e =
        let h = rw (e, verdict_is, accepted e) at (right_work is_open holds choice same given_work).1 in
        let taken : side in-a a b ≡ side (not (not in-a)) a' b' = sym (other_side in-a a' b' ∙ t.kept) in
        subst (λ (k : Columns). Holds o (record { tiles = suc n; clip = None }) (record { state = state_in r.worked.state; queue = side (not in-a) a' b'; taken = k })) taken h

    -- a refused one: the number is the list's
    pub refused_is : {k : Refusal} → r.worked.answer ≡ Err k → refusal_of (list_verdict (table_on o) (layers_on o n)) ≡ Some (number_of k)
    unfolding work_out
    refused_is {k} e = by (list_verdict (table_on o) (layers_on o n)) (sym (ap work_answer e) ∙ answer_is)
      where
        by : (v : Judgement) → refused (number_of k) ≡ (work_out v (says_on o n choice) (state_on o past) choice.kept choice.lent).answer → refusal_of v ≡ Some (number_of k)
        by (refuse x) h = ap Some (sym cc)
        by pass h = absurd (let z : ◌≡◌ {A = ℕ} 0 1 = cc in omega arith)
