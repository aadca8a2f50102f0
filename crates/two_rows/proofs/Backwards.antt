-- Two runs over a row of mild covers and over its opposite, by the same calls: the claims of specs/Backwards. Each call of a run gives what is due of it
-- (listing_runs), and what is due of it on the two rows is alike (proofs/Turned). Assumes nothing.
use Rattle.std.specs.Prelude.{◌≡◌, ◌||◌, ◌-◌}
use Rattle.laws.proofs.Prelude.{refl, ap, ap₂, sym, subst, ◌∙◌, Bool, true, not, List, map, ℕ, suc, Float, length, take, take_at}
use Rattle.laws.proofs.Prelude.{Answer, given, plus, over}
use Rattle.refusals.specs.Refusal.{Judgement, pass, refuse, unless}
use Rattle.pixel_segment.specs.Field.{cpu}
use Rattle.pixel_segment.proofs.Opposite.{are_mild, are_mild_lem}
use Rattle.pixel_segment.proofs.Ranges.{cpu_layout}
use Rattle.segment_rows.specs.Search.{left_part}
use Rattle.segment_rows.proofs.Opposite.{row_opposite, words_opposite, left_opposite, left_mild}
use Rattle.queue_statements.specs.Opening.{open_answer}
use Rattle.queue_statements.specs.Opposite.{opposite_carry}
use Rattle.queue_statements.proofs.Opposite.{answer_opposite}
use Rattle.pass_statements.specs.Decide.{Outcome}
use Rattle.pass_statements.specs.Opposite.{opposite_entry}
use Rattle.layer_workbench.specs.Work.{kept_after}
use Rattle.cached_tile.specs.Kept.{tag_out_of_range}
use Rattle.row_statements.specs.Lent.{Columns, is_queue_short, is_lent_short, is_lent_table, carries_in}
use Rattle.row_statements.specs.State.{State, state_in, next_state, with_clip}
use Rattle.row_statements.specs.Opening.{OpenCall, left_of, has_bad_ends, open_verdict, open_count, state_by, open_of}
use Rattle.row_statements.specs.TileWork.{WorkLent, TileAnswer, work_out, GivesWork}
use Rattle.row_statements.specs.Painting.{PaintSays, paint_out, PaintsLayer}
use Rattle.row_statements.specs.Due.{OpenRow, Past, at_first, WorkChoice, PaintChoice, table_on, queue_on, layers_on, plane_on, state_on, says_on, paint_on, outcome_on, work_due_verdict, paint_due_verdict, past_work, past_paint}
use Rattle.row_statements.specs.Run.{open_row}
use Rattle.row_statements.specs.Claim.{RightWork, RightPaint}
use Rattle.row_statements.specs.declared.TileWorked.{TileWorked}
use Rattle.row_statements.specs.declared.Painted.{Painted}
use Rattle.row_statements.proofs.Run.{accepted, held_first_lem}
use Rattle.listing_statements.specs.Listing.{ListLent, listing_out, ListsTile}
use Rattle.listing_statements.specs.Deciding.{DecideSays, DecideGiven, deciding_out, deciding_of, DecidesTile}
use Rattle.listing_statements.specs.declared.TileListed.{TileListed}
use Rattle.listing_statements.specs.declared.TileDecided.{TileDecided}
use Rattle.listing_runs.specs.Due.{ListChoice, list_due_verdict, DecideChoice, nth_on, decide_due_verdict, outcome_due}
use Rattle.listing_runs.specs.Run.{RowCall}
use Rattle.listing_runs.specs.Claim.{RightListing, RightDeciding, RightCall, past_call, AllCallsRight}
use Rattle.listing_runs.proofs.Run as calls
use Rattle.two_rows.specs.Backwards.{opposite_call, list_read, masks_read, carries_read, entries_read, decided_read, plane_read, BackWork, BackPaint, BackList, BackDecide, BackCall, BackCalls, OpensBoth, Backwards}
use Rattle.two_rows.specs.SameCalls.{AlikeWorks, AlikePaints, AlikeLists, AlikeDecides, AlikeCall, AlikeCalls}
use Rattle.two_rows.proofs.Apart.{plane_long}
use Rattle.two_rows.proofs.Turned.{opposite_row, queue_turned, left_turned, listed_turned, entries_turned, state_turned, work_verdict, work_outcome, answer_turned, list_verdict_lem, decide_outcome, decide_listed, paint_verdict, paint_turned_lem}

-- ---- one call, by the verdict that is due of both

module _ (o : OpenRow) (mild : are_mild cpu o.row ≡ true) (p : Past) where
  -- past a tile
  next_turned : next_state (state_on (opposite_row o) p) (length (queue_on (opposite_row o) (suc p.tiles))) ≡ next_state (state_on o p) (length (queue_on o (suc p.tiles)))
  next_turned = ap₂ next_state (state_turned o mild p) (left_turned o mild (suc p.tiles))

  back_work : {c c' : WorkChoice} {r r' : TileWorked} {back back' : WorkLent} → AlikeWorks c c' → RightWork o p c r back → RightWork (opposite_row o) p c' r' back' → BackWork r r' back back'
  unfolding work_out
  back_work {c} {c'} {r} {r'} {back} {back'} a x x' =
      let v = work_verdict o mild p.tiles a in
      by (work_due_verdict o p.tiles c) refl v x.gives
      (subst (λ (w : Judgement). GivesWork (work_out w (says_on (opposite_row o) p.tiles c') (state_on (opposite_row o) p) c'.kept c'.lent) r' back') v x'.gives)
    where
      outcome : outcome_on (opposite_row o) p.tiles c'.kept c'.clear c'.previous ≡ outcome_on o p.tiles c.kept c.clear c.previous
      outcome = work_outcome o mild p.tiles a

      by : (v : Judgement) → work_due_verdict o p.tiles c ≡ v → work_due_verdict (opposite_row o) p.tiles c' ≡ v
          → GivesWork (work_out v (says_on o p.tiles c) (state_on o p) c.kept c.lent) r back
          → GivesWork (work_out v (says_on (opposite_row o) p.tiles c') (state_on (opposite_row o) p) c'.kept c'.lent) r' back'
          → BackWork r r' back back'
      by (refuse m) e e' g g' =
          record {
            answer = g'.answer ∙ sym g.answer;
            state = g'.state ∙ state_turned o mild p ∙ sym g.state;
            kept = g'.kept ∙ sym a.kept ∙ sym g.kept;
            list = ap (λ (t : Answer TileAnswer). list_read t back'.list) g'.answer ∙ sym (ap (λ (t : Answer TileAnswer). map opposite_entry (list_read t back.list)) g.answer);
            masks = ap (λ (t : Answer TileAnswer). masks_read t back'.list) g'.answer ∙ sym (ap (λ (t : Answer TileAnswer). masks_read t back.list) g.answer);
            carries =
                ap (λ (t : Answer TileAnswer). carries_read t (state_in r'.state) back'.queue) g'.answer
                ∙ sym (ap (λ (t : Answer TileAnswer). map opposite_carry (carries_read t (state_in r.state) back.queue)) g.answer);
          }
      by pass e e' g g' =
          record {
            answer = g'.answer ∙ ap given (answer_turned o mild p.tiles a) ∙ sym g.answer;
            state = g'.state ∙ next_turned ∙ sym g.state;
            kept = g'.kept ∙ (λ i. kept_after (outcome i) (sym a.kept i) (listed_turned o mild p.tiles i)) ∙ sym g.kept;
            list =
                ap (λ (t : Answer TileAnswer). list_read t back'.list) g'.answer
                ∙ x'.list_read e' ∙ entries_turned o mild p.tiles
                ∙ sym (ap (map opposite_entry) (ap (λ (t : Answer TileAnswer). list_read t back.list) g.answer ∙ x.list_read e));
            masks =
                ap (λ (t : Answer TileAnswer). masks_read t back'.list) g'.answer
                ∙ x'.unmasked_read e' ∙ ap (λ (d : Outcome). d.unmasked) outcome
                ∙ sym (ap (λ (t : Answer TileAnswer). masks_read t back.list) g.answer ∙ x.unmasked_read e);
            carries =
                ap₂ (λ (t : Answer TileAnswer) (s : State). carries_read t s back'.queue) g'.answer g'.state
                ∙ x'.queue_read e' ∙ queue_turned o mild (suc p.tiles)
                ∙ sym (ap (map opposite_carry) (ap₂ (λ (t : Answer TileAnswer) (s : State). carries_read t s back.queue) g.answer g.state ∙ x.queue_read e));
          }

  back_list : {c c' : ListChoice} {r r' : TileListed} {back back' : ListLent} → AlikeLists c c' → RightListing o p c r back → RightListing (opposite_row o) p c' r' back' → BackList r r' back back'
  unfolding listing_out
  back_list {c} {c'} {r} {r'} {back} {back'} a x x' =
      let v = list_verdict_lem o mild p.tiles a in
      by (list_due_verdict o p.tiles c) refl v x.gives
      (subst (λ (w : Judgement). ListsTile (listing_out w (table_on o) (layers_on (opposite_row o) p.tiles) (queue_on (opposite_row o) (suc p.tiles)) (state_on (opposite_row o) p) c'.lent) r' back') v x'.gives)
    where
      by : (v : Judgement) → list_due_verdict o p.tiles c ≡ v → list_due_verdict (opposite_row o) p.tiles c' ≡ v
          → ListsTile (listing_out v (table_on o) (layers_on o p.tiles) (queue_on o (suc p.tiles)) (state_on o p) c.lent) r back
          → ListsTile (listing_out v (table_on o) (layers_on (opposite_row o) p.tiles) (queue_on (opposite_row o) (suc p.tiles)) (state_on (opposite_row o) p) c'.lent) r' back'
          → BackList r r' back back'
      by (refuse m) e e' g g' =
          record {
            answer = g'.answer ∙ sym g.answer;
            state = g'.state ∙ state_turned o mild p ∙ sym g.state;
            list = ap (λ (t : Answer ℕ). entries_read t back'.list) g'.answer ∙ sym (ap (λ (t : Answer ℕ). map opposite_entry (entries_read t back.list)) g.answer);
            carries =
                ap (λ (t : Answer ℕ). carries_read t (state_in r'.state) back'.queue) g'.answer
                ∙ sym (ap (λ (t : Answer ℕ). map opposite_carry (carries_read t (state_in r.state) back.queue)) g.answer);
          }
      by pass e e' g g' =
          record {
            answer = g'.answer ∙ ap given (listed_turned o mild p.tiles) ∙ sym g.answer;
            state = g'.state ∙ next_turned ∙ sym g.state;
            list =
                ap (λ (t : Answer ℕ). entries_read t back'.list) g'.answer
                ∙ x'.list_read e' ∙ entries_turned o mild p.tiles
                ∙ sym (ap (map opposite_entry) (ap (λ (t : Answer ℕ). entries_read t back.list) g.answer ∙ x.list_read e));
            carries =
                ap₂ (λ (t : Answer ℕ) (s : State). carries_read t s back'.queue) g'.answer g'.state
                ∙ x'.queue_read e' ∙ queue_turned o mild (suc p.tiles)
                ∙ sym (ap (map opposite_carry) (ap₂ (λ (t : Answer ℕ) (s : State). carries_read t s back.queue) g.answer g.state ∙ x.queue_read e));
          }

  back_decide : {c c' : DecideChoice} {r r' : TileDecided} {back back' : List Bool} → AlikeDecides c c' → RightDeciding o p c r back → RightDeciding (opposite_row o) p c' r' back'
      → BackDecide (length (layers_on o (nth_on o c))) r r' back back'
  unfolding deciding_out
  back_decide {c} {c'} {r} {r'} {back} {back'} a x x' =
      by (decide_due_verdict c) refl same x.gives
      (subst (λ (w : Judgement). DecidesTile (deciding_out w (outcome_due (opposite_row o) c') (length (layers_on (opposite_row o) (nth_on (opposite_row o) c'))) c'.kept c'.unmasked) r' back') same x'.gives)
    where
      same : decide_due_verdict c' ≡ decide_due_verdict c
      same = λ i. unless (sym a.room i) 1 (unless (tag_out_of_range (sym a.kept i)) 6 pass)

      outcome : outcome_due (opposite_row o) c' ≡ outcome_due o c
      outcome = decide_outcome o mild a

      listed : length (layers_on (opposite_row o) (nth_on (opposite_row o) c')) ≡ length (layers_on o (nth_on o c))
      listed = decide_listed o mild a

      by : (v : Judgement) → decide_due_verdict c ≡ v → decide_due_verdict c' ≡ v
          → DecidesTile (deciding_out v (outcome_due o c) (length (layers_on o (nth_on o c))) c.kept c.unmasked) r back
          → DecidesTile (deciding_out v (outcome_due (opposite_row o) c') (length (layers_on (opposite_row o) (nth_on (opposite_row o) c'))) c'.kept c'.unmasked) r' back'
          → BackDecide (length (layers_on o (nth_on o c))) r r' back back'
      by (refuse m) e e' g g' =
          record {
            answer = g'.answer ∙ sym g.answer;
            kept = g'.kept ∙ sym a.kept ∙ sym g.kept;
            masks =
                ap (λ (t : Answer DecideSays). decided_read t (length (layers_on o (nth_on o c))) back') g'.answer
                ∙ sym (ap (λ (t : Answer DecideSays). decided_read t (length (layers_on o (nth_on o c))) back) g.answer);
          }
      by pass e e' g g' =
          record {
            answer = g'.answer ∙ (λ i. given (record { decision = (outcome i).decision; skipped = (outcome i).skipped })) ∙ sym g.answer;
            kept = g'.kept ∙ (λ i. kept_after (outcome i) (sym a.kept i) (listed i)) ∙ sym g.kept;
            masks =
                ap (λ (t : Answer DecideSays). decided_read t (length (layers_on o (nth_on o c))) back') g'.answer
                ∙ ap (λ (n : ℕ). take n back') (sym listed) ∙ x'.unmasked_read e' ∙ ap (λ (d : Outcome). d.unmasked) outcome
                ∙ sym (ap (λ (t : Answer DecideSays). decided_read t (length (layers_on o (nth_on o c))) back) g.answer ∙ x.unmasked_read e);
          }

  back_paint : {c c' : PaintChoice} {r r' : Painted} {back back' : List Float} → AlikePaints c c' → RightPaint o p c r back → RightPaint (opposite_row o) p c' r' back' → BackPaint r r' back back'
  unfolding paint_out over
  back_paint {c} {c'} {r} {r'} {back} {back'} a x x' =
      let v = paint_verdict o mild p.tiles a in
      by (paint_due_verdict o p.tiles c) x
      (subst (λ (w : Judgement). PaintsLayer (paint_out w (paint_on (opposite_row o) (p.tiles - 1) c'.layer p.clip) (state_on (opposite_row o) p) c'.plane) r' back') v x')
    where
      says : paint_on (opposite_row o) (p.tiles - 1) c'.layer p.clip ≡ paint_on o (p.tiles - 1) c.layer p.clip
      says = ap (λ (id : ℕ). paint_on (opposite_row o) (p.tiles - 1) id p.clip) (sym a.layer) ∙ paint_turned_lem o mild (p.tiles - 1) c.layer p.clip

      read : (plane : List Float) (old back : List Float) → length plane ≡ 256 → back ≡ over plane old → take 256 back ≡ plane
      read plane old back long e = ap (take 256) e ∙ take_at plane _ 256 long

      by : (v : Judgement) → PaintsLayer (paint_out v (paint_on o (p.tiles - 1) c.layer p.clip) (state_on o p) c.plane) r back
          → PaintsLayer (paint_out v (paint_on (opposite_row o) (p.tiles - 1) c'.layer p.clip) (state_on (opposite_row o) p) c'.plane) r' back'
          → BackPaint r r' back back'
      by (refuse m) g g' =
          record {
            answer = g'.answer ∙ sym g.answer;
            state = g'.state ∙ state_turned o mild p ∙ sym g.state;
            plane = ap (λ (t : Answer ℕ). plane_read t back') g'.answer ∙ sym (ap (λ (t : Answer ℕ). plane_read t back) g.answer);
          }
      by pass g g' =
          record {
            answer = g'.answer ∙ ap (λ (s : PaintSays). given s.mark) says ∙ sym g.answer;
            state = g'.state ∙ ap₂ (λ (s : State) (t : PaintSays). with_clip s t.clip) (state_turned o mild p) says ∙ sym g.state;
            plane =
                ap (λ (t : Answer ℕ). plane_read t back') g'.answer
                ∙ read (plane_on (opposite_row o) (p.tiles - 1) c'.layer) c'.plane back' (plane_long (opposite_row o) (p.tiles - 1) c'.layer) g'.plane
                ∙ ap (λ (s : PaintSays). s.plane) says
                ∙ sym (ap (λ (t : Answer ℕ). plane_read t back) g.answer ∙ read (plane_on o (p.tiles - 1) c.layer) c.plane back (plane_long o (p.tiles - 1) c.layer) g.plane);
          }

  -- a painting leaves one clip
  past_paint_lem : (v : Judgement) (id : ℕ) → past_paint v (opposite_row o) id p ≡ past_paint v o id p
  past_paint_lem (refuse n) id = refl
  past_paint_lem pass id = refl

  pub call_back : {e e' : RowCall} → AlikeCall e e' → RightCall o p e → RightCall (opposite_row o) p e' → BackCall o e e' × (past_call (opposite_row o) e' p ≡ past_call o e p)
  call_back (AlikeCall.work a) x x' = (BackCall.work (back_work a x x'), ap (λ (v : Judgement). past_work v p) (work_verdict o mild p.tiles a))
  call_back (AlikeCall.paint {c = c} {c' = c'} a) x x' = (
    BackCall.paint (back_paint a x x'),
    ap₂ (λ (v : Judgement) (id : ℕ). past_paint v (opposite_row o) id p) (paint_verdict o mild p.tiles a) (sym a.layer) ∙ past_paint_lem (paint_due_verdict o p.tiles c) c.layer,
  )
  call_back (AlikeCall.list a) x x' = (BackCall.list (back_list a x x'), ap (λ (v : Judgement). past_work v p) (list_verdict_lem o mild p.tiles a))
  call_back (AlikeCall.decide a) x x' = (BackCall.decide (back_decide a x x'), refl)
  call_back AlikeCall.other_work x x' =
      (BackCall.other_work (λ m e e'. ((x' m e').answer ∙ sym (x m e).answer, (x' m e').state ∙ state_turned o mild p ∙ sym (x m e).state)), refl)
  call_back AlikeCall.other_paint x x' =
      (BackCall.other_paint (λ m e e'. ((x' m e').answer ∙ sym (x m e).answer, (x' m e').state ∙ state_turned o mild p ∙ sym (x m e).state)), refl)
  call_back AlikeCall.other_list x x' =
      (BackCall.other_list (λ m e e'. ((x' m e').answer ∙ sym (x m e).answer, (x' m e').state ∙ state_turned o mild p ∙ sym (x m e).state)), refl)
  call_back (AlikeCall.other_decide {a = a} {a' = a'} {masks = masks} {masks' = masks'}) x x' = (
    BackCall.other_decide
        (λ e f.
        let same : deciding_of a' masks' ≡ deciding_of a masks = sym (ap₂ deciding_of e f) in (
          x'.answer ∙ ap (λ (g : DecideGiven). g.answer) same ∙ sym x.answer,
          x'.kept ∙ ap (λ (g : DecideGiven). g.kept) same ∙ sym x.kept,
          x'.unmasked_is ∙ ap (λ (g : DecideGiven). g.unmasked) same ∙ sym x.unmasked_is,
        )),
    refl,
  )

-- ---- any list of them

calls_back : (o : OpenRow) → are_mild cpu o.row ≡ true → (p : Past) {es es' : List RowCall} → AlikeCalls es es' → AllCallsRight o p es → AllCallsRight (opposite_row o) p es' → BackCalls o es es'
calls_back o mild p AlikeCalls.none all all' = BackCalls.none
calls_back o mild p (AlikeCalls.next {e = e} {e' = e'} {es = es} {es' = es'} a rest) all all' =
    let u = call_back o mild p a all.0 all'.0 in
    BackCalls.next u.0 (calls_back o mild (past_call o e p) rest all.1 (subst (λ (q : Past). AllCallsRight (opposite_row o) q es') u.1 all'.1))

-- ---- the opening

module _ (c : OpenCall) (mild : are_mild cpu c.row ≡ true) where
  verdict_turned : (lent lent' : Columns) → is_queue_short lent ≡ is_queue_short lent' → open_verdict (opposite_call c) lent' ≡ open_verdict c lent
  unfolding open_verdict
  verdict_turned lent lent' room =
      λ i. unless (sym room i || is_lent_short c.table) 1
      (unless (has_bad_ends c.tile_y c.from c.to) 2
      (unless (not (row_opposite cpu cpu_layout (suc (plus c.tile_y)) c.row i)) 3
      (unless (not (is_lent_table c.table)) 4
      pass)))

  count_turned : (v : Judgement) → open_count v (left_of (opposite_call c)) ≡ open_count v (left_of c)
  count_turned (refuse n) = refl
  count_turned pass = ap open_answer (left_opposite c.from c.row) ∙ answer_opposite (left_part c.from c.row) (left_mild c.row mild c.from)

  pub open_turned : (lent lent' : Columns) → is_queue_short lent ≡ is_queue_short lent' → (open_of (opposite_call c) lent').answer ≡ (open_of c lent).answer
  unfolding open_of
  open_turned lent lent' room =
      ap (state_by c.tile_y c.from c.to)
      (ap (λ (v : Judgement). open_count v (left_of (opposite_call c))) (verdict_turned lent lent' room) ∙ count_turned (open_verdict c lent))

pub opens_both : OpensBoth
opens_both c lent lent' back back' r r' m room g g' = g'.answer ∙ open_turned c (are_mild_lem cpu c.row m) lent lent' room ∙ sym g.answer

pub backwards : Backwards
backwards c lent lent' back back' s s' es es' h h' w m g g' runs runs' alike =
    let o = open_row c in
    let mild = are_mild_lem cpu c.row m in
    let w' = words_opposite c.row w in
    let holds = held_first_lem c lent back s w (accepted c lent back s g) in
    let holds' = held_first_lem (opposite_call c) lent' back' s' w' (accepted (opposite_call c) lent' back' s' g') in
    let all = (calls.run c lent back s es h w g runs).1 in
    let all' = (calls.run (opposite_call c) lent' back' s' es' h' w' g' runs').1 in (
      record {
        state = holds'.state ∙ state_turned o mild at_first ∙ sym holds.state;
        carries =
            ap (λ (t : State). carries_in t.left back') holds'.state ∙ holds'.queue.reads ∙ queue_turned o mild 0
            ∙ sym (ap (map opposite_carry) (ap (λ (t : State). carries_in t.left back) holds.state ∙ holds.queue.reads));
      },
      calls_back o mild at_first alike all all',
    )
