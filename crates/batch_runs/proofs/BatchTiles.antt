-- The calls that a batch stands for, tile after tile, go on with a run: none of the paintings is refused, and what the batch leaves is what they leave.
-- Assumes nothing.
use Rattle.row_statements.specs.declared.TileDone.{TileDone}
use Rattle.refusals.specs.declared.Refusal.{Refusal}
use Rattle.std.specs.Prelude.{◌≡◌, ◌||◌, ◌∷◌, ◌++◌, ◌+◌, ◌-◌, ◌*◌, ◌≤◌, ◌<◌, Result, Ok, Err}
use Rattle.laws.proofs.Prelude.{refl, ap, ap₂, sym, subst, ◌∙◌, Bool, true, false, cond, List, [], Option, ℕ, zero, suc}
use Rattle.laws.proofs.Prelude.{min, arith, eq-eqb, ne_eqb, le-ltb, leb-true, ltb, leb, Float, ℤ, pos, length, take, drop}
use Rattle.laws.proofs.Prelude.{length-drop, length-map, sets, length-sets, length-take-le, Answer, refused, given, right}
use Rattle.std.specs.declared.option.Option.TheVariants as option
use Rattle.refusals.specs.Refusal.{Judgement, pass, refuse, unless, given_or_refused}
use Rattle.refusals.proofs.Judging.{passed}
use Rattle.segment_rows.specs.Search.{tile_part}
use Rattle.styling.specs.declared.Color.{Color}
use Rattle.painter.specs.Clip.{clip_after}
use Rattle.cached_tile.specs.Kept.{tag_out_of_range}
use Rattle.queue_statements.specs.Queue.{ids_in}
use Rattle.queue_statements.proofs.Columns.{take_ids}
use Rattle.tile_layers.specs.Listing.{incoming_of}
use Rattle.tile_layers.proofs.Ordering.{list_ascends}
use Rattle.row_carries.proofs.Carried.{queue_ascends}
use Rattle.row_carries.proofs.Parts.{tile_ordered}
use Rattle.row_statements.specs.Lent.{Columns, is_queue_short, is_list_short}
use Rattle.row_statements.specs.State.{State, state_in}
use Rattle.row_statements.specs.Painting.{PaintGiven, paint_out, paint_of, layer_verdict, PaintsLayer}
use Rattle.row_statements.specs.TileWork.{list_verdict, WorkLent, WorkGiven, TileAnswer, tile_answer, work_call, work_out, work_of, work_answer, GivesWork}
use Rattle.row_statements.specs.Claim.{RightWork}
use Rattle.row_statements.specs.declared.TileWorked.{TileWorked}
use Rattle.row_statements.specs.Due.{WorkChoice, is_not_due, layers_on, outcome_on, work_due_verdict, says_on, work_due, past_work, OpenRow, table_on, queue_on, state_on, PaintChoice, paint_due_verdict, paint_on, paint_due, mark_on, past_paint, func_on}
use Rattle.row_statements.specs.Run.{Held, SameCarries, work_on, held_after, paint_onto, Event, Step, Run}
use Rattle.row_statements.specs.InnerHolding.{IsOpen, Holds}
use Rattle.row_statements.specs.declared.Painted.{Painted}
use Rattle.row_statements.proofs.PaintSteps.{paint_due_lem, right_paint}
use Rattle.row_statements.proofs.WorkSteps.{work_due_lem, right_work}
use Rattle.row_statements.proofs.Runs.{work_result, work_gives, work_named, paint_result, paint_gives, paint_named, as_held}
use Rattle.row_statements.proofs.Works.{Listable, list_passed, is_next}
use Rattle.row_lines.specs.Shown.{shown_in}
use Rattle.row_lines.specs.Lines.{is_paint}
use Rattle.row_lines.specs.Calls.{shown_by, painted_by}
use Rattle.row_lines.proofs.Accepted.{AllPass, shown_pass}
use Rattle.row_lines.proofs.Calls.{tiles_past}
use Rattle.batch_statements.specs.BatchLent.{plane_at, has_room}
use Rattle.batch_statements.specs.Batch.{BatchRow, BatchAt, batch_row, BatchEnd, row_end, no_room, BatchGiven, ended_at, TurnGiven, own_list, work_at, turn_by, turn_of, next_by, tiles_from, PlanesAt, painted_past, paint_at, paints_from}
use Rattle.batch_statements.specs.declared.Room as room
use Rattle.batch_runs.specs.BatchCalls.{works_here, work_given_as, paints_here, painted_as, PaintCalls, TileCalls}
use Rattle.batch_statements.proofs.ShownFew.{shown_few}
use Rattle.batch_statements.proofs.ListedFew.{listed_few}

pub run_append : {o : OpenRow} {h h' h'' : Held} {es fs : List Event} → Run o h es h' → Run o h' fs h'' → Run o h (es ++ fs) h''
run_append Run.none r = r
run_append (Run.next s rest) r = Run.next s (run_append rest r)

-- calls that go on with a run, tile after tile, and end so
pub record DrivenTo (o : OpenRow) (c : BatchRow) (r : room.Room) (k : ℕ) (h : Held) (s : BatchAt) (g : BatchGiven) : Type 0 where
  pub events : List Event
  pub after : Held
  pub runs : Run o h events after
  pub calls : TileCalls c r k s events g
  pub state : after.state ≡ g.at.state
  pub queue : after.queue ≡ g.at.lent.queue
  pub more : s.worked ≤ g.at.worked
  pub taken : (0 < s.worked → h.taken ≡ s.lent.other) → 0 < g.at.worked → after.taken ≡ g.at.lent.other
  pub still : g.at.worked ≡ s.worked → after.taken ≡ h.taken

module _ (o : OpenRow) (is_open : IsOpen o) (keeps : Bool) (clear : Color) (previous : Option Color) where
  abbrev pub over : BatchRow
  over = batch_row o.row o.table keeps clear previous

  -- ---- paintings

  abbrev tile_of : ℕ → ℤ
  tile_of n = pos (o.from + n)

  abbrev part_of : ℕ → List ℕ
  part_of n = tile_part (tile_of n) o.row

  abbrev planes_of : Held → ℕ → List Float → List ℕ → PlanesAt
  planes_of h used planes words = record { state = h.state; used = used; planes = planes; painted = words }

  plane_long : (used : ℕ) (planes : List Float) → used * 256 + 256 ≤ length planes → 256 ≤ length (plane_at used planes)
  plane_long used planes h =
      let room : 256 ≤ length (drop (used * 256) planes) = rw (length-drop (used * 256) planes) (omega (arith, h)) in
      let long = length-take-le 256 (drop (used * 256) planes) room in
      omega (arith, long)

  -- the tile just worked, with a plane that has room: only the layer is left to judge
  paint_verdict : (n id : ℕ) (queue : Columns) (p : PlanesAt) → 256 ≤ length (plane_at p.used p.planes) → paint_due_verdict o (suc n) (paints_here (tile_of n) queue p id) ≡ layer_verdict (table_on o) (queue_on o n) (part_of n) id
  paint_verdict n id queue p h =
      let last : suc n - 1 ≡ n = omega arith in
      rw (le-ltb (length (plane_at p.used p.planes)) 256 h, last, ne_eqb (suc n) 0 (λ e. omega (arith, e)), le-ltb (o.from + n) 0 (omega arith), eq-eqb (o.from + n + 1) (o.from + suc n) (omega arith))

  accepted_mark : (n : ℕ) (clip : Option ℕ) (w : PaintChoice) → paint_due_verdict o (suc n) w ≡ pass → (paint_due o (tiles_past (suc n) clip) w).answer ≡ given (mark_on o (suc n - 1) w.layer clip)
  unfolding paint_out
  accepted_mark n clip w v = ap (λ (j : Judgement). (paint_out j (paint_on o (suc n - 1) w.layer clip) (state_on o (tiles_past (suc n) clip)) w.plane).answer) v

  pub record Painting (n : ℕ) (h : Held) (used : ℕ) (planes : List Float) (words : List ℕ) (ids : List ℕ) : Type 0 where
    pub events : List Event
    pub after : Held
    pub clip : Option ℕ
    pub runs : Run o h events after
    pub calls : PaintCalls (tile_of n) h.taken (planes_of h used planes words) ids events (paints_from over (tile_of n) h.taken (planes_of h used planes words) ids)
    pub holds : Holds o (tiles_past (suc n) clip) after
    pub state_is : after.state ≡ (paints_from over (tile_of n) h.taken (planes_of h used planes words) ids).state
    pub queue_is : after.queue ≡ h.queue
    pub taken_is : after.taken ≡ h.taken
    pub planes_long : length (paints_from over (tile_of n) h.taken (planes_of h used planes words) ids).planes ≡ length planes

  -- one painting, as it goes and as it is noted
  module _ (n : ℕ) (clip : Option ℕ) (h : Held) (used : ℕ) (planes : List Float) (words : List ℕ) (id : ℕ) (holds : Holds o (tiles_past (suc n) clip) h) (room : used * 256 + 256 ≤ length planes) (layer : layer_verdict (table_on o) (queue_on o n) (part_of n) id ≡ pass) where
    abbrev choice : PaintChoice
    choice = paints_here (tile_of n) h.taken (planes_of h used planes words) id

    abbrev result : Painted
    result = paint_result (paint_due o (tiles_past (suc n) clip) choice)

    abbrev left : List Float
    left = (paint_due o (tiles_past (suc n) clip) choice).plane

    abbrev mark : ℕ
    mark = mark_on o (suc n - 1) id clip

    verdict : paint_due_verdict o (suc n) choice ≡ pass
    verdict = paint_verdict n id h.taken (planes_of h used planes words) (plane_long used planes room) ∙ layer

    due : PaintsLayer (paint_due o (tiles_past (suc n) clip) choice) result left
    due = paint_gives (paint_due_verdict o (suc n) choice) (paint_named o (suc n) choice) o (tiles_past (suc n) clip) choice

    gives : PaintsLayer (paint_of (paint_onto o h choice) choice.plane) result left
    gives = subst (λ (out : PaintGiven). PaintsLayer out result left) (sym (paint_due_lem is_open holds choice as_held)) due

    answered : given_or_refused result.answer ≡ given mark
    answered = due.answer ∙ accepted_mark n clip choice verdict

    abbrev held : Held
    held = record { state = state_in result.state; queue = h.queue; taken = h.taken }

    held_next : Holds o (tiles_past (suc n) (clip_after (func_on o id) id clip)) held
    held_next = subst (λ (j : Judgement). Holds o (past_paint j o id (tiles_past (suc n) clip)) held) verdict (right_paint is_open holds choice as_held gives).1

    noted : let g = paint_at over (tile_of n) h.taken (planes_of h used planes words) id in painted_past g.answer id g (planes_of h used planes words) ≡ painted_as result left id mark (planes_of h used planes words)
    noted =
        let g = paint_at over (tile_of n) h.taken (planes_of h used planes words) id in
        ap (λ (a : Answer ℕ). painted_past a id g (planes_of h used planes words)) (sym gives.answer ∙ answered)
        ∙ (λ i. record { state = sym gives.state i; used = used + 1; planes = sets planes (used * 256) (sym gives.plane i); painted = sets words (used * 2) (id ∷ mark ∷ []) })

  pub paintings : (ids : List ℕ) (n : ℕ) (clip : Option ℕ) (h : Held) (used : ℕ) (planes : List Float) (words : List ℕ) → Holds o (tiles_past (suc n) clip) h → (used + length ids) * 256 ≤ length planes → AllPass (table_on o) (queue_on o n) (part_of n) ids → Painting n h used planes words ids
  unfolding paints_from
  paintings [] n clip h used planes words holds room all = record { events = []; after = h; clip = clip; runs = Run.none; calls = PaintCalls.none; holds = holds; state_is = refl; queue_is = refl; taken_is = refl; planes_long = refl }
  paintings (id ∷ ids) n clip h used planes words holds room all =
      let here : used * 256 + 256 ≤ length planes = omega (arith, room) in
      let w = choice n clip h used planes words id holds here all.0 in
      let r = result n clip h used planes words id holds here all.0 in
      let back = left n clip h used planes words id holds here all.0 in
      let m = mark n clip h used planes words id holds here all.0 in
      let planes' = sets planes (used * 256) back in
      let words' = sets words (used * 2) (id ∷ m ∷ []) in
      let same = length-sets planes (used * 256) back in
      let rest = paintings ids n (clip_after (func_on o id) id clip) (held n clip h used planes words id holds here all.0) (used + 1) planes' words' (held_next n clip h used planes words id holds here all.0) (omega (arith, room, same)) all.1 in
      let whole = ap (λ (p : PlanesAt). paints_from over (tile_of n) h.taken p ids) (noted n clip h used planes words id holds here all.0) in
      record {
        events = Event.paint w r back ∷ rest.events;
        after = rest.after;
        clip = rest.clip;
        runs = Run.next (Step.paint {c = w} as_held (gives n clip h used planes words id holds here all.0)) rest.runs;
        calls = subst (λ (q : PlanesAt). PaintCalls (tile_of n) h.taken (planes_of h used planes words) (id ∷ ids) (Event.paint w r back ∷ rest.events) q) (sym whole) (PaintCalls.next (answered n clip h used planes words id holds here all.0) rest.calls);
        holds = rest.holds;
        state_is = rest.state_is ∙ sym (ap (λ (p : PlanesAt). p.state) whole);
        queue_is = rest.queue_is;
        taken_is = rest.taken_is;
        planes_long = ap (λ (p : PlanesAt). length p.planes) whole ∙ rest.planes_long ∙ same;
      }

  -- ---- a tile

  -- what an answer tells of the verdict, and of what is held after it
  refused_held : {m : ℕ} (a : Result TileDone Refusal) (st : State) (h : Held) (q : Columns) (back : WorkLent) → work_answer a ≡ refused m → held_after a st h q back ≡ record { state = st; queue = h.queue; taken = h.taken }
  refused_held (Err k) st h q back e = refl
  refused_held (Ok d) st h q back e = absurd (let z : ◌≡◌ {A = ℕ} 0 1 = cc in omega arith)

  given_held : {t : TileAnswer} (a : Result TileDone Refusal) (st : State) (h : Held) (q : Columns) (back : WorkLent) → work_answer a ≡ given t → held_after a st h q back ≡ record { state = st; queue = back.queue; taken = q }
  given_held (Err k) st h q back e = absurd (let z : ◌≡◌ {A = ℕ} 0 1 = cc in omega arith)
  given_held (Ok d) st h q back e = refl

  -- the work on the tile where the batch stands
  module _ (n : ℕ) (clip : Option ℕ) (h : Held) (s : BatchAt) (holds : Holds o (tiles_past n clip) h) (es : s.state ≡ h.state) (eq : s.lent.queue ≡ h.queue) where
    abbrev works : WorkChoice
    works = works_here over s

    same : SameCarries h.state.left h.queue s.lent.queue
    same = subst (SameCarries h.state.left h.queue) (sym eq) as_held

    abbrev told : TileWorked
    told = work_result (work_due o (tiles_past n clip) works)

    abbrev lent_back : WorkLent
    lent_back = (work_due o (tiles_past n clip) works).lent

    work_told : GivesWork (work_due o (tiles_past n clip) works) told lent_back
    work_told = work_gives (work_due_verdict o n works) (work_named o n works) o (tiles_past n clip) works

    pub work_given : GivesWork (work_of (work_on o h works) works.lent) told lent_back
    work_given = subst (λ (out : WorkGiven). GivesWork out told lent_back) (sym (work_due_lem is_open holds works same)) work_told

    -- what it gave is what the batch's definition asks
    pub worked_is : work_given_as told lent_back ≡ work_at over s
    worked_is =
        (λ i. record { answer = work_given.answer i; state = work_given.state i; kept = work_given.kept i; lent = work_given.lent_is i })
        ∙ ap (λ (x : State). work_of (work_call x s.tile o.row o.table works.kept clear previous s.lent.queue) works.lent) (sym es)

    pub turn_is : turn_of over s ≡ turn_by over (work_answer told.answer) s (work_given_as told lent_back)
    unfolding turn_of
    turn_is = sym (ap (λ (g : WorkGiven). turn_by over g.answer s g) worked_is)

    pub right_here : RightWork o (tiles_past n clip) works told lent_back × Holds o (past_work (work_due_verdict o n works) (tiles_past n clip)) (held_after told.answer (state_in told.state) h s.lent.queue lent_back)
    right_here = right_work is_open holds works same work_given

    -- a refused work leaves the state
    refused_state : {m : ℕ} → work_answer told.answer ≡ refused m → state_in told.state ≡ s.state
    unfolding work_out
    refused_state {m} e = work_told.state ∙ by (work_due_verdict o n works) (sym work_told.answer ∙ e) ∙ sym holds.state ∙ sym es
      where
        by : (v : Judgement) → (work_out v (says_on o n works) (state_on o (tiles_past n clip)) works.kept works.lent).answer ≡ refused m → (work_out v (says_on o n works) (state_on o (tiles_past n clip)) works.kept works.lent).state ≡ state_on o (tiles_past n clip)
        by (refuse k) x = refl
        by pass x = absurd (let z : ◌≡◌ {A = ℕ} 0 1 = cc in omega arith)

    -- an accepted one passes, and says what the tile says
    given_verdict : {t : TileAnswer} → work_answer told.answer ≡ given t → (work_due_verdict o n works ≡ pass) × (t ≡ tile_answer (says_on o n works))
    unfolding work_out
    given_verdict {t} e = by (work_due_verdict o n works) refl (sym work_told.answer ∙ e)
      where
        by : (v : Judgement) → work_due_verdict o n works ≡ v → (work_out v (says_on o n works) (state_on o (tiles_past n clip)) works.kept works.lent).answer ≡ given t → (v ≡ pass) × (t ≡ tile_answer (says_on o n works))
        by (refuse k) ev x = absurd (let z : ◌≡◌ {A = ℕ} 0 1 = cc in omega arith)
        by pass ev x = (refl, sym cc)

    -- its shown layers: neither 8 nor 9 applies to any
    shown_is : {t : TileAnswer} → work_answer told.answer ≡ given t → shown_by t lent_back ≡ shown_in (outcome_on o n works.kept clear previous).skipped (outcome_on o n works.kept clear previous).unmasked (ids_in (incoming_of (layers_on o n)))
    unfolding work_out
    shown_is {t} e =
        let v = given_verdict e in
        let ls = layers_on o n in
        let right = right_here.0 in
        let lent : lent_back ≡ (work_out pass (says_on o n works) (state_on o (tiles_past n clip)) works.kept works.lent).lent = ap (λ (j : Judgement). (work_out j (says_on o n works) (state_on o (tiles_past n clip)) works.kept works.lent).lent) v.0 in
        let many : length ls ≡ length (incoming_of ls) = sym (length-map ls _) in
        let ids : take (length ls) lent_back.list.ids ≡ ids_in (incoming_of ls) = ap₂ (λ (k : ℕ) (b : WorkLent). take k b.list.ids) many lent ∙ take_ids (incoming_of ls) works.lent.list.ids [] in
        ap (λ (a : TileAnswer). shown_by a lent_back) v.1 ∙ ap₂ (shown_in (outcome_on o n works.kept clear previous).skipped) (right.unmasked_read v.0) ids

    listable : {t : TileAnswer} → work_answer told.answer ≡ given t → Listable (table_on o) (layers_on o n)
    listable e =
        let v = (given_verdict e).0 in
        let below = list_verdict (table_on o) (layers_on o n) in
        let six = unless (tag_out_of_range works.kept) 6 below in
        let two = unless (is_not_due o n s.tile) 2 six in
        let first = passed (is_queue_short s.lent.other || is_list_short (own_list over)) 1 two v in
        let second = passed (is_not_due o n s.tile) 2 six first.1 in
        list_passed (table_on o) (layers_on o n) (passed (tag_out_of_range works.kept) 6 below second.1).1

    painted_pass : {t : TileAnswer} → work_answer told.answer ≡ given t → AllPass (table_on o) (queue_on o n) (part_of n) (painted_by t lent_back)
    painted_pass {t} e =
        let d = outcome_on o n works.kept clear previous in
        let all = shown_pass (table_on o) (queue_on o n) (part_of n) (queue_ascends is_open.in_order (table_on o) o.from n) (tile_ordered is_open.in_order (o.from + n)) (listable e) d.skipped d.unmasked in
        chosen (is_paint t.decision) (shown_by t lent_back) (subst (AllPass (table_on o) (queue_on o n) (part_of n)) (sym (shown_is e)) all)
      where
        chosen : (b : Bool) (ids : List ℕ) → AllPass (table_on o) (queue_on o n) (part_of n) ids → AllPass (table_on o) (queue_on o n) (part_of n) (cond b ids [])
        chosen true ids all = all
        chosen false ids all = tt

    painted_few : {t : TileAnswer} → work_answer told.answer ≡ given t → length (painted_by t lent_back) ≤ min 256 o.table.count
    painted_few {t} e =
        let d = outcome_on o n works.kept clear previous in
        let ids = ids_in (incoming_of (layers_on o n)) in
        let shown : length (shown_by t lent_back) ≤ length ids = rw (shown_is e) (shown_few d.skipped d.unmasked ids) in
        let many : length ids ≡ length (layers_on o n) = length-map (incoming_of (layers_on o n)) (λ x. x.id) ∙ length-map (layers_on o n) (λ x. record { id = x.id; cover = x.cover }) in
        let chosen = few (is_paint t.decision) (shown_by t lent_back) in
        let up = list_ascends (queue_on o n) (part_of n) (queue_ascends is_open.in_order (table_on o) o.from n) (tile_ordered is_open.in_order (o.from + n)) in
        omega (arith, chosen, shown, many, listed_few o.table (layers_on o n) is_open.in_table up (listable e))
      where
        few : (b : Bool) (ids : List ℕ) → length (cond b ids []) ≤ length ids
        few true ids = omega arith
        few false ids = omega arith

    -- its tile is the one that is due
    pub due_tile : {t : TileAnswer} → work_answer told.answer ≡ given t → s.tile ≡ pos (o.from + n)
    due_tile e =
        let below = unless (tag_out_of_range works.kept) 6 (list_verdict (table_on o) (layers_on o n)) in
        let first = passed (is_queue_short s.lent.other || is_list_short (own_list over)) 1 (unless (is_not_due o n s.tile) 2 below) (given_verdict e).0 in
        (is_next (record { tile_y = 0; from = 0; to = o.to; next = o.from + n; left = 0; taken = 0; clip = option.None }) s.tile (passed (is_not_due o n s.tile) 2 below first.1).0).is_tile

    -- what the caller holds past the tile
    abbrev held_past : Held
    held_past = record { state = state_in told.state; queue = lent_back.queue; taken = s.lent.queue }

    holds_past : {t : TileAnswer} → work_answer told.answer ≡ given t → Holds o (tiles_past (suc n) option.None) held_past
    holds_past e =
        let v = (given_verdict e).0 in
        subst (λ (x : Held). Holds o (tiles_past (suc n) option.None) x) (given_held told.answer (state_in told.state) h s.lent.queue lent_back e)
        (subst (λ (j : Judgement). Holds o (past_work j (tiles_past n clip)) (held_after told.answer (state_in told.state) h s.lent.queue lent_back)) v right_here.1)

  -- ---- tile after tile

  abbrev at_tile : BatchAt → ℤ → BatchAt
  at_tile s tile = record { state = s.state; tile = tile; first = s.first; worked = s.worked; used = s.used; lent = s.lent }

  -- planes and how many must be free, of the room that is lent
  pub record Roomy (r : room.Room) (planes : List Float) : Type 0 where
    pub long : r.planes * 256 ≤ length planes
    pub needed : r.needed ≡ min 256 o.table.count

  abbrev Drives : room.Room → ℕ → Type 0
  Drives r k =
      (n : ℕ) (clip : Option ℕ) (h : Held) (s : BatchAt) → Holds o (tiles_past n clip) h → s.state ≡ h.state → s.lent.queue ≡ h.queue → Roomy r s.lent.planes
      → DrivenTo o over r k h s (tiles_from over r k s)

  module _ (r : room.Room) (k : ℕ) (go : Drives r k) (n : ℕ) (clip : Option ℕ) (h : Held) (holds : Holds o (tiles_past n clip) h) where
    -- where it ends without a call
    stood : (s : BatchAt) {e : BatchEnd} → s.state ≡ h.state → s.lent.queue ≡ h.queue → TileCalls over r (suc k) s [] (ended_at s e) → DrivenTo o over r (suc k) h s (ended_at s e)
    stood s es eq calls = record { events = []; after = h; runs = Run.none; calls = calls; state = sym es; queue = sym eq; more = omega arith; taken = λ took. took; still = λ none. refl }

    whole : (s : BatchAt) {a b : Bool} → leb s.state.to s.state.next ≡ a → has_room r s.worked s.used ≡ b → tiles_from over r (suc k) s ≡ cond a (ended_at s row_end) (cond b (next_by over (turn_of over s).verdict s (tiles_from over r k (turn_of over s).at)) (ended_at s no_room))
    unfolding tiles_from
    whole s ea eb = ap₂ (λ (x y : Bool). cond x (ended_at s row_end) (cond y (next_by over (turn_of over s).verdict s (tiles_from over r k (turn_of over s).at)) (ended_at s no_room))) ea eb

    module _ (s : BatchAt) (es : s.state ≡ h.state) (eq : s.lent.queue ≡ h.queue) (left : leb s.state.to s.state.next ≡ false) (room : has_room r s.worked s.used ≡ true) where
      turned : {g : TurnGiven} → turn_of over s ≡ g → tiles_from over r (suc k) s ≡ next_by over g.verdict s (tiles_from over r k g.at)
      turned {g} t = whole s left room ∙ ap (λ (x : TurnGiven). next_by over x.verdict s (tiles_from over r k x.at)) t

      refused_there : {m : ℕ} → work_answer (told n clip h s holds es eq).answer ≡ refused m → DrivenTo o over r (suc k) h s (tiles_from over r (suc k) s)
      refused_there {m} ea =
          let w = told n clip h s holds es eq in
          let back = lent_back n clip h s holds es eq in
          let t = turn_is n clip h s holds es eq ∙ ap (λ (a : Answer TileAnswer). turn_by over a s (work_given_as w back)) ea in
          let held = refused_held w.answer (state_in w.state) h s.lent.queue back ea in
          subst (DrivenTo o over r (suc k) h s) (sym (turned t))
          (record {
            events = Event.work (works n clip h s holds es eq) w back ∷ [];
            after = held_after w.answer (state_in w.state) h s.lent.queue back;
            runs = Run.next (Step.work {c = works n clip h s holds es eq} (same n clip h s holds es eq) (work_given n clip h s holds es eq)) Run.none;
            calls = TileCalls.turned_down left room ea;
            state = ap (λ (x : Held). x.state) held ∙ refused_state n clip h s holds es eq ea;
            queue = ap (λ (x : Held). x.queue) held ∙ sym eq;
            more = omega arith;
            taken = λ took some. ap (λ (x : Held). x.taken) held ∙ took some;
            still = λ none. ap (λ (x : Held). x.taken) held;
          })

    -- an accepted work is that on the tile that is due
    module _ (s₀ : BatchAt) (es : s₀.state ≡ h.state) (eq : s₀.lent.queue ≡ h.queue) (left : leb s₀.state.to s₀.state.next ≡ false) (room : has_room r s₀.worked s₀.used ≡ true) (roomy : Roomy r s₀.lent.planes) where
      abbrev s : BatchAt
      s = at_tile s₀ (tile_of n)

      accepted_there : {t : TileAnswer} → work_answer (told n clip h s holds es eq).answer ≡ given t → DrivenTo o over r (suc k) h s (tiles_from over r (suc k) s)
      accepted_there {t} ea =
          let w = told n clip h s holds es eq in
          let back = lent_back n clip h s holds es eq in
          let turn = turn_is n clip h s holds es eq ∙ ap (λ (a : Answer TileAnswer). turn_by over a s (work_given_as w back)) ea in
          let free = leb-true (s.used + r.needed) r.planes (right (ltb s.worked r.tiles) (leb (s.used + r.needed) r.planes) room) in
          let here : (s.used + length (painted_by t back)) * 256 ≤ length s.lent.planes = let few = painted_few n clip h s holds es eq ea in omega (arith, few, free, roomy.long, roomy.needed) in
          let painted = paintings (painted_by t back) n option.None (held_past n clip h s holds es eq) s.used s.lent.planes s.lent.painted (holds_past n clip h s holds es eq ea) here (painted_pass n clip h s holds es eq ea) in
          let s' = (turn_by over (given t) s (work_given_as w back)).at in
          let rest = go (suc n) painted.clip painted.after s' painted.holds (sym painted.state_is) (sym painted.queue_is) (record { long = let same = painted.planes_long in omega (arith, same, roomy.long); needed = roomy.needed }) in
          let held = given_held w.answer (state_in w.state) h s.lent.queue back ea in
          subst (DrivenTo o over r (suc k) h s) (sym (turned s es eq left room turn))
          (record {
            events = Event.work (works n clip h s holds es eq) w back ∷ (painted.events ++ rest.events);
            after = rest.after;
            runs = Run.next (Step.work {c = works n clip h s holds es eq} (same n clip h s holds es eq) (work_given n clip h s holds es eq)) (subst (λ (x : Held). Run o x (painted.events ++ rest.events) rest.after) (sym held) (run_append painted.runs rest.runs));
            calls = TileCalls.next left room ea painted.calls rest.calls;
            state = rest.state;
            queue = rest.queue;
            more = omega (arith, rest.more);
            taken = λ took. rest.taken (λ some. painted.taken_is);
            still = λ none. absurd (omega (arith, rest.more, none));
          })

      by_answer : (a : Answer TileAnswer) → work_answer (told n clip h s₀ holds es eq).answer ≡ a → DrivenTo o over r (suc k) h s₀ (tiles_from over r (suc k) s₀)
      by_answer (refused m) ea = refused_there s₀ es eq left room ea
      by_answer (given t) ea =
          let due = due_tile n clip h s₀ holds es eq ea in
          subst (λ (tile : ℤ). DrivenTo o over r (suc k) h (at_tile s₀ tile) (tiles_from over r (suc k) (at_tile s₀ tile))) (sym due)
          (accepted_there (subst (λ (tile : ℤ). work_answer (told n clip h (at_tile s₀ tile) holds es eq).answer ≡ given t) due ea))

    by_room : (s : BatchAt) → s.state ≡ h.state → s.lent.queue ≡ h.queue → Roomy r s.lent.planes → (a b : Bool) → leb s.state.to s.state.next ≡ a → has_room r s.worked s.used ≡ b → DrivenTo o over r (suc k) h s (tiles_from over r (suc k) s)
    by_room s es eq roomy true b ea eb = subst (DrivenTo o over r (suc k) h s) (sym (whole s ea eb)) (stood s es eq (TileCalls.row_end_step ea))
    by_room s es eq roomy false false ea eb = subst (DrivenTo o over r (suc k) h s) (sym (whole s ea eb)) (stood s es eq (TileCalls.full ea eb))
    by_room s es eq roomy false true ea eb = by_answer s es eq ea eb roomy (work_answer (told n clip h s holds es eq).answer) refl

  pub driven : (r : room.Room) (k : ℕ) → Drives r k
  unfolding tiles_from
  driven r zero n clip h s holds es eq roomy = record { events = []; after = h; runs = Run.none; calls = TileCalls.none; state = sym es; queue = sym eq; more = omega arith; taken = λ took. took; still = λ none. refl }
  driven r (suc k) n clip h s holds es eq roomy = by_room r k (driven r k) n clip h holds s es eq roomy (leb s.state.to s.state.next) (has_room r s.worked s.used) refl refl
