-- After every accepted opening there is a run of the public calls that a driven row stands for. Assumes nothing.
use Rattle.std.specs.Prelude.{◌≡◌, ◌∷◌, ◌++◌, ◌+◌, ◌-◌, ◌≤◌, ◌<◌, None, Ok}
use Rattle.laws.proofs.Prelude.{refl, ap, sym, subst, ◌∙◌, Bool, true, false, cond, List, [], Option, ℕ, zero, suc}
use Rattle.laws.proofs.Prelude.{arith, eq-eqb, ne_eqb, le-ltb, ones, binary32, of_bits, pos, replicate, refused, given, plus}
use Rattle.std.specs.declared.option.Option.TheVariants as option
use Rattle.refusals.specs.Refusal.{Judgement, pass, refuse}
use Rattle.segment_rows.specs.Rows.{Words}
use Rattle.segment_rows.specs.Search.{tile_part}
use Rattle.cached_tile.specs.Kept.{no_tile}
use Rattle.row_carries.proofs.Carried.{queue_ascends}
use Rattle.row_carries.proofs.Parts.{tile_ordered}
use Rattle.painter.specs.Clip.{clip_after}
use Rattle.row_statements.specs.Lent.{Columns, ListColumns}
use Rattle.row_statements.specs.State.{State, state_in}
use Rattle.row_statements.specs.Opening.{OpenCall, open_of, OpensRow}
use Rattle.row_statements.specs.TileWork.{WorkLent, TileAnswer, tile_answer, work_out, work_of, GivesWork}
use Rattle.row_statements.specs.Painting.{paint_out, paint_of, layer_verdict, PaintsLayer}
use Rattle.row_statements.specs.Due.{OpenRow, Past, WorkChoice, table_on, queue_on, layers_on, state_on, work_due_verdict, says_on, work_due, PaintChoice, paint_due_verdict, paint_on, paint_due, mark_on, past_paint, func_on}
use Rattle.row_statements.specs.Run.{open_row, held_first, Held, work_on, held_after, paint_onto, Event, Step, Run}
use Rattle.row_statements.specs.Claim.{RightWork}
use Rattle.row_statements.specs.InnerHolding.{IsOpen, Holds}
use Rattle.row_statements.specs.declared.RowState.{RowState}
use Rattle.row_statements.specs.declared.TileWorked.{TileWorked}
use Rattle.row_statements.proofs.Works.{list_passed}
use Rattle.row_statements.proofs.WorkSteps.{right_work}
use Rattle.row_statements.proofs.PaintSteps.{right_paint}
use Rattle.row_statements.proofs.Run.{accepted, is_open, held_first_lem, run}
use Rattle.row_statements.proofs.Runs.{work_result, work_gives, work_named, paint_result, paint_gives, paint_named, as_held, work_goes, paint_goes}
use Rattle.row_lines.specs.Lines.{clear_color, is_paint, decided_on, RowLines}
use Rattle.row_lines.specs.Driven.{empty_queue}
use Rattle.row_lines.specs.Calls.{WorksTile, shown_by, painted_by, line_by, Paintings, LineCalls, TellLines, LinesTold}
use Rattle.row_lines.proofs.Accepted.{AllPass, shown_pass}
use Rattle.row_lines.proofs.Calls.{tiles_past, verdict_on, WorkTold, verdict_is, work_told, past_told, lines_are}

run_append : {o : OpenRow} {h h' h'' : Held} {es fs : List Event} → Run o h es h' → Run o h' fs h'' → Run o h (es ++ fs) h''
run_append Run.none r = r
run_append (Run.next s rest) r = Run.next s (run_append rest r)

module _ (o : OpenRow) (is_open : IsOpen o) where
  -- ---- paintings

  part : ℕ → List ℕ
  part n = tile_part (pos (o.from + n)) o.row

  abbrev pub choice_paint : ℕ → ℕ → Held → PaintChoice
  choice_paint n id h = record { tile = pos (o.from + n); layer = id; queue = h.taken; plane = replicate 256 (of_bits binary32 0) }

  -- the tile just worked, with a plane that has room: only the layer is left to judge
  paint_verdict : (n id : ℕ) (h : Held) → paint_due_verdict o (suc n) (choice_paint n id h) ≡ layer_verdict (table_on o) (queue_on o n) (part n) id
  unfolding part
  paint_verdict n id h =
      let last : suc n - 1 ≡ n = omega arith in
      rw (last, ne_eqb (suc n) 0 (λ e. omega (arith, e)), le-ltb (o.from + n) 0 (omega arith), eq-eqb (o.from + n + 1) (o.from + suc n) (omega arith))

  pub record Painting (n : ℕ) (h : Held) (ids : List ℕ) : Type 0 where
    pub events : List Event
    pub octets : ℕ
    pub after : Held
    pub clip : Option ℕ
    pub runs : Run o h events after
    pub calls : Paintings o n ids events octets
    pub holds : Holds o (tiles_past (suc n) clip) after

  accepted_mark : (n : ℕ) (clip : Option ℕ) (c : PaintChoice) → paint_due_verdict o (suc n) c ≡ pass → (paint_due o (tiles_past (suc n) clip) c).answer ≡ given (mark_on o (suc n - 1) c.layer clip)
  unfolding paint_out
  accepted_mark n clip c v = ap (λ (j : Judgement). (paint_out j (paint_on o (suc n - 1) c.layer clip) (state_on o (tiles_past (suc n) clip)) c.plane).answer) v

  paintings : (n : ℕ) (clip : Option ℕ) (h : Held) (ids : List ℕ) → Holds o (tiles_past (suc n) clip) h → AllPass (table_on o) (queue_on o n) (part n) ids → Painting n h ids
  paintings n clip h [] holds all = record { events = []; octets = 0; after = h; clip = clip; runs = Run.none; calls = Paintings.none; holds = holds }
  paintings n clip h (id ∷ ids) holds all =
      let c = choice_paint n id h in
      let p = tiles_past (suc n) clip in
      let v : paint_due_verdict o (suc n) c ≡ pass = paint_verdict n id h ∙ all.0 in
      let r = paint_result (paint_due o p c) in
      let back = (paint_due o p c).plane in
      let due : PaintsLayer (paint_due o p c) r back = paint_gives (paint_due_verdict o (suc n) c) (paint_named o (suc n) c) o p c in
      let g : PaintsLayer (paint_of (paint_onto o h c) c.plane) r back = paint_goes is_open holds c in
      let next = (right_paint is_open holds c as_held g).1 in
      let h' : Held = record { state = state_in r.state; queue = h.queue; taken = h.taken } in
      let rest = paintings n (clip_after (func_on o id) id clip) h' ids (subst (λ (j : Judgement). Holds o (past_paint j o id p) h') v next) all.1 in
      record {
        events = Event.paint c r back ∷ rest.events;
        octets = ones (mark_on o (suc n - 1) id clip) + rest.octets;
        after = rest.after;
        clip = rest.clip;
        runs = Run.next (Step.paint {c = c} as_held g) rest.runs;
        calls = Paintings.next (record { tile = refl; layer = refl; room = refl }) (due.answer ∙ accepted_mark n clip c v) rest.calls;
        holds = rest.holds;
      }

  -- ---- the work on each tile, and its paintings

  abbrev pub empty_list : ListColumns
  empty_list = record { ids = replicate 256 0; covers = replicate 4096 (pos 0); flags = replicate 512 false; unmasked = replicate 256 false }

  abbrev pub choice_work : ℕ → Held → WorkChoice
  choice_work n h = record { tile = pos (o.from + n); kept = no_tile; clear = clear_color; previous = None; queue = h.queue; lent = record { queue = empty_queue; list = empty_list } }

  works : (n : ℕ) (h : Held) → WorksTile o n (choice_work n h)
  works n h = record { tile = refl; kept = refl; clear = refl; previous = refl; queue_room = refl; list_room = refl }

  -- what is due of it, by the verdict
  refused_answer : (m : ℕ) (p : Past) (c : WorkChoice) → work_due_verdict o p.tiles c ≡ refuse m → (work_due o p c).answer ≡ refused m
  unfolding work_out
  refused_answer m p c v = ap (λ (j : Judgement). (work_out j (says_on o p.tiles c) (state_on o p) c.kept c.lent).answer) v

  accepted_answer : (p : Past) (c : WorkChoice) → work_due_verdict o p.tiles c ≡ pass → (work_due o p c).answer ≡ given (tile_answer (says_on o p.tiles c))
  unfolding work_out
  accepted_answer p c v = ap (λ (j : Judgement). (work_out j (says_on o p.tiles c) (state_on o p) c.kept c.lent).answer) v

  painted_pass : (n : ℕ) (t : TileAnswer) (s : State) (back : WorkLent) → WorkTold o n t s back → AllPass (table_on o) (queue_on o n) (part n) (painted_by t back)
  unfolding part
  painted_pass n t s back told =
      let d = decided_on o n in
      let l = list_passed (table_on o) (layers_on o n) told.passes in
      let all = shown_pass (table_on o) (queue_on o n) (part n) (queue_ascends is_open.in_order (table_on o) o.from n) (tile_ordered is_open.in_order (o.from + n)) l d.skipped d.unmasked in
      chosen (is_paint t.decision) (shown_by t back) (subst (AllPass (table_on o) (queue_on o n) (part n)) (sym told.shown_is) all)
    where
      chosen : (b : Bool) (ids : List ℕ) → AllPass (table_on o) (queue_on o n) (part n) ids → AllPass (table_on o) (queue_on o n) (part n) (cond b ids [])
      chosen true ids all = all
      chosen false ids all = tt

  pub record Driving (k n : ℕ) (h : Held) : Type 0 where
    pub events : List Event
    pub lines : RowLines
    pub after : Held
    pub runs : Run o h events after
    pub calls : LineCalls o k n events lines

  pub driven : (k n : ℕ) (clip : Option ℕ) (h : Held) → o.from + n + k ≤ o.to → Holds o (tiles_past n clip) h → Driving k n h
  driven zero n clip h inside holds = record { events = []; lines = record { lines = []; end = pass }; after = h; runs = Run.none; calls = LineCalls.none }
  driven (suc k) n clip h inside holds = by (λ clip' h' inside' holds'. driven k (suc n) clip' h' inside' holds') (verdict_on o n) refl
    where
      c : WorkChoice
      c = choice_work n h

      p : Past
      p = tiles_past n clip

      r : TileWorked
      r = work_result (work_due o p c)

      back : WorkLent
      back = (work_due o p c).lent

      due : GivesWork (work_due o p c) r back
      due = work_gives (work_due_verdict o n c) (work_named o n c) o p c

      g : GivesWork (work_of (work_on o h c) c.lent) r back
      g = work_goes is_open holds c

      here : o.from + n < o.to
      here = omega (arith, inside)

      right : RightWork o p c r back
      right = (right_work is_open holds c as_held g).0

      by : ((clip' : Option ℕ) (h' : Held) → o.from + suc n + k ≤ o.to → Holds o (tiles_past (suc n) clip') h' → Driving k (suc n) h') → (v : Judgement) → verdict_on o n ≡ v → Driving (suc k) n h
      by go (refuse m) e =
          record {
            events = Event.work c r back ∷ [];
            lines = record { lines = []; end = refuse m };
            after = held_after r.answer (state_in r.state) h c.queue back;
            runs = Run.next (Step.work {c = c} as_held g) Run.none;
            calls = LineCalls.turned_down (works n h) (due.answer ∙ refused_answer m p c (verdict_is o here (works n h) right ∙ e));
          }
      by go pass e =
          let a = due.answer ∙ accepted_answer p c (verdict_is o here (works n h) right ∙ e) in
          let t = tile_answer (says_on o n c) in
          let told = work_told o here (works n h) right a in
          let h' = held_after r.answer (state_in r.state) h c.queue back in
          let holds' = subst (λ (q : Past). Holds o q h') (past_told o here (works n h) right told) (right_work is_open holds c as_held g).1 in
          let painted = paintings n option.None h' (painted_by t back) holds' (painted_pass n t (state_in r.state) back told) in
          let rest = go painted.clip painted.after (omega (arith, inside)) painted.holds in
          record {
            events = Event.work c r back ∷ (painted.events ++ rest.events);
            lines = record { lines = line_by t back (state_in r.state) painted.octets ∷ rest.lines.lines; end = rest.lines.end };
            after = rest.after;
            runs = Run.next (Step.work {c = c} as_held g) (run_append painted.runs rest.runs);
            calls = LineCalls.next (works n h) a painted.calls rest.calls;
          }

-- ---- after an accepted opening

pub tell_lines : TellLines
tell_lines c lent back s k es h ls w g inside r calls = lines_are (open_row c) option.None (omega (arith, inside)) calls (run c lent back s es h w g r).1

pub lines_told : (c : OpenCall) (lent back : Columns) (s : RowState) (k : ℕ) → Words c.row → OpensRow (open_of c lent) (Ok s) back → plus c.from + k ≤ plus c.to → LinesTold c s back k
lines_told c lent back s k w g inside =
    let a = accepted c lent back s g in
    let d = driven (open_row c) (is_open c lent back s w a) k 0 option.None (held_first s back) (omega (arith, inside)) (held_first_lem c lent back s w a) in
    let told = tell_lines c lent back s k d.events d.after d.lines w g inside d.runs d.calls in
    record { events = d.events; after = d.after; runs = d.runs; calls = subst (LineCalls (open_row c) k 0 d.events) told d.calls }
