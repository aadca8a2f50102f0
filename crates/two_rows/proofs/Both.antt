-- For every list of choices there are two runs whose calls are alike, over a row of mild covers and over its opposite: specs/Backwards' last claim.
-- Assumes nothing.
use Rattle.std.specs.Prelude.{◌≡◌, ◌∷◌, Ok}
use Rattle.laws.proofs.Prelude.{refl, ap, sym, subst, ◌∙◌, Bool, true, false, List, [], ℕ}
use Rattle.refusals.specs.Refusal.{Judgement, pass, refuse}
use Rattle.pixel_segment.specs.Field.{cpu}
use Rattle.pixel_segment.proofs.Opposite.{are_mild, are_mild_lem}
use Rattle.segment_rows.proofs.Opposite.{words_opposite}
use Rattle.row_statements.specs.Opening.{open_of, OpensRow}
use Rattle.row_statements.specs.TileWork.{work_verdict}
use Rattle.row_statements.specs.Painting.{paint_verdict}
use Rattle.row_statements.specs.Due.{OpenRow, Past, at_first, state_on, work_due_verdict, paint_due_verdict, past_work, past_paint}
use Rattle.row_statements.specs.Run.{open_row, Step}
use Rattle.row_statements.specs.Example.{work_at, paint_at, if_turned_down}
use Rattle.row_statements.specs.InnerHolding.{IsOpen}
use Rattle.row_statements.proofs.Run.{accepted, is_open, held_first_lem}
use Rattle.row_statements.proofs.Runs.{as_held, held_work, held_paint, work_goes, paint_goes, turned}
use Rattle.listing_statements.specs.Listing.{listing_verdict}
use Rattle.listing_statements.specs.Deciding.{deciding_verdict}
use Rattle.listing_runs.specs.Due.{list_due_verdict, DecideChoice, decide_due_verdict}
use Rattle.listing_runs.specs.Run.{HeldAll, RowCall, CallStep, RowCalls}
use Rattle.listing_runs.specs.Claim.{past_call}
use Rattle.listing_runs.specs.Example.{CallChoice, list_at, is_past, call_choices_due, call_dues_of}
use Rattle.listing_runs.specs.InnerHolding.{HoldsAll}
use Rattle.listing_runs.proofs.Run.{call_right}
use Rattle.listing_runs.proofs.Runs.{held_listing, list_goes, decide_goes, TurnedDown, all_still, still_all, work_other, paint_other, list_other, decide_other}
use Rattle.two_rows.specs.Backwards.{opposite_call, RunsBoth}
use Rattle.two_rows.specs.SameCalls.{AlikeCall, AlikeCalls}
use Rattle.two_rows.proofs.Turned.{opposite_row, state_turned}
use Rattle.two_rows.proofs.Backwards.{call_back, open_turned}

module _ (o : OpenRow) (mild : are_mild cpu o.row ≡ true) (one : IsOpen o) (other : IsOpen (opposite_row o)) where
  pub record Both (p : Past) (h h' : HeldAll) (cs : List CallChoice) : Type 0 where
    pub events : List RowCall
    pub events' : List RowCall
    pub after : HeldAll
    pub after' : HeldAll
    pub runs : RowCalls o h events after
    pub runs' : RowCalls (opposite_row o) h' events' after'
    pub alike : AlikeCalls events events'
    pub dues : call_dues_of o p events ≡ call_choices_due o p cs

  -- one call more on both sides
  onward : {p : Past} {h h' k k' : HeldAll} {e e' : RowCall} (c : CallChoice) (cs : List CallChoice) (v : Judgement) → HoldsAll o p h → HoldsAll (opposite_row o) p h'
      → CallStep o h e k → CallStep (opposite_row o) h' e' k' → AlikeCall e e'
      → ((es : List RowCall) → call_dues_of o p (e ∷ es) ≡ v ∷ call_dues_of o (past_call o e p) es) → call_choices_due o p (c ∷ cs) ≡ v ∷ call_choices_due o (past_call o e p) cs
      → (HoldsAll o (past_call o e p) k → HoldsAll (opposite_row o) (past_call o e p) k' → Both (past_call o e p) k k' cs) → Both p h h' (c ∷ cs)
  onward {p} {h} {h'} {k} {k'} {e} {e'} c cs v holds holds' step step' a d q rest =
      let u = call_right one holds step in
      let u' = call_right other holds' step' in
      let same = (call_back o mild p a u.0 u'.0).1 in
      let r = rest u.1 (subst (λ (t : Past). HoldsAll (opposite_row o) t k') same u'.1) in
      record {
        events = e ∷ r.events;
        events' = e' ∷ r.events';
        after = r.after;
        after' = r.after';
        runs = RowCalls.next step r.runs;
        runs' = RowCalls.next step' r.runs';
        alike = AlikeCalls.next a r.alike;
        dues = d r.events ∙ ap (λ (vs : List Judgement). v ∷ vs) r.dues ∙ sym q;
      }

  -- a deciding, where a list of the tile is held on both sides
  decide_both : {p : Past} {h h' : HeldAll} (c : DecideChoice) (cs : List CallChoice) (b : Bool) → is_past o p.tiles c.tile ≡ b → HoldsAll o p h → HoldsAll (opposite_row o) p h' → Both p h h' cs
      → Both p h h' (CallChoice.decide c ∷ cs)
  unfolding call_dues_of call_choices_due
  decide_both c cs false e holds holds' rest =
      record { events = rest.events; events' = rest.events'; after = rest.after; after' = rest.after'; runs = rest.runs; runs' = rest.runs'; alike = rest.alike; dues = rw e rest.dues }
  decide_both {p} {h} {h'} c cs true e holds holds' rest =
      onward (CallChoice.decide c) cs (decide_due_verdict c) holds holds' (decide_goes one holds c e).step (decide_goes other holds' c e).step
      (AlikeCall.decide (record { tile = refl; kept = refl; clear = refl; previous = refl; room = refl }))
      (λ es. refl) (rw e) (λ x y. rest)

  -- a call with any row, table and queue: turned down on both sides, or none on either
  other_both : {p : Past} {h h' : HeldAll} (c : CallChoice) (cs : List CallChoice) (v w : Judgement) {call call' : ℕ → RowCall} → v ≡ w
      → TurnedDown o p h v call → TurnedDown (opposite_row o) p h' v call' → ((n : ℕ) → AlikeCall (call n) (call' n))
      → call_choices_due o p (c ∷ cs) ≡ if_turned_down v (call_choices_due o p cs)
      → Both p h h' cs → Both p (all_still o p h) (all_still (opposite_row o) p h') cs → Both p h h' (c ∷ cs)
  other_both {p} c cs v pass is t t' a q rest still =
      record {
        events = rest.events;
        events' = rest.events';
        after = rest.after;
        after' = rest.after';
        runs = rest.runs;
        runs' = rest.runs';
        alike = rest.alike;
        dues = rest.dues ∙ sym (q ∙ ap (λ (u : Judgement). if_turned_down u (call_choices_due o p cs)) is);
      }
  other_both {p} c cs v (refuse n) {call} {call'} is t t' a q rest still =
      record {
        events = call n ∷ still.events;
        events' = call' n ∷ still.events';
        after = still.after;
        after' = still.after';
        runs = RowCalls.next (t.step n is) still.runs;
        runs' = RowCalls.next (t'.step n is) still.runs';
        alike = AlikeCalls.next (a n) still.alike;
        dues = t.due n still.events ∙ ap (λ (vs : List Judgement). v ∷ vs) still.dues ∙ turned (call_choices_due o p cs) is ∙ sym q;
      }

  both : (p : Past) {h h' : HeldAll} → HoldsAll o p h → HoldsAll (opposite_row o) p h' → (cs : List CallChoice) → Both p h h' cs
  unfolding call_dues_of call_choices_due
  both p {h} {h'} holds holds' [] = record { events = []; events' = []; after = h; after' = h'; runs = RowCalls.none; runs' = RowCalls.none; alike = AlikeCalls.none; dues = refl }
  both p {h} {h'} holds holds' (CallChoice.work c ∷ cs) =
      onward (CallChoice.work c) cs (work_due_verdict o p.tiles c) holds holds'
      (CallStep.row {h = h} (Step.work {c = held_work h.row c} as_held (work_goes one holds.row c)))
      (CallStep.row {h = h'} (Step.work {c = held_work h'.row c} as_held (work_goes other holds'.row c)))
      (AlikeCall.work (record { tile = refl; kept = refl; clear = refl; previous = refl; room = refl }))
      (λ es. refl) refl (λ x y. both (past_work (work_due_verdict o p.tiles (held_work h.row c)) p) x y cs)
  both p {h} {h'} holds holds' (CallChoice.paint c ∷ cs) =
      onward (CallChoice.paint c) cs (paint_due_verdict o p.tiles c) holds holds'
      (CallStep.row {h = h} (Step.paint {c = held_paint h.row c} as_held (paint_goes one holds.row c)))
      (CallStep.row {h = h'} (Step.paint {c = held_paint h'.row c} as_held (paint_goes other holds'.row c)))
      (AlikeCall.paint (record { tile = refl; layer = refl; room = refl }))
      (λ es. refl) refl (λ x y. both (past_paint (paint_due_verdict o p.tiles (held_paint h.row c)) o c.layer p) x y cs)
  both p {h} {h'} holds holds' (CallChoice.list c ∷ cs) =
      onward (CallChoice.list c) cs (list_due_verdict o p.tiles c) holds holds'
      (CallStep.list {h = h} {c = held_listing h.row c} as_held (list_goes one holds c))
      (CallStep.list {h = h'} {c = held_listing h'.row c} as_held (list_goes other holds' c))
      (AlikeCall.list (record { tile = refl; room = refl }))
      (λ es. refl) refl (λ x y. both (past_work (list_due_verdict o p.tiles (held_listing h.row c)) p) x y cs)
  both p holds holds' (CallChoice.decide c ∷ cs) = decide_both c cs (is_past o p.tiles c.tile) refl holds holds' (both p holds holds' cs)
  both p holds holds' (CallChoice.other_work row table c ∷ cs) =
      let a = work_at (state_on o p) row table c in
      let v = work_verdict a c.lent in
      other_both (CallChoice.other_work row table c) cs v v refl (work_other holds a c.lent refl)
      (work_other holds' a c.lent (sym (state_turned o mild p))) (λ n. AlikeCall.other_work) refl
      (both p holds holds' cs) (both p (still_all holds) (still_all holds') cs)
  both p holds holds' (CallChoice.other_paint row table c ∷ cs) =
      let a = paint_at (state_on o p) row table c in
      let v = paint_verdict a c.plane in
      other_both (CallChoice.other_paint row table c) cs v v refl (paint_other holds a c.plane refl)
      (paint_other holds' a c.plane (sym (state_turned o mild p))) (λ n. AlikeCall.other_paint) refl
      (both p holds holds' cs) (both p (still_all holds) (still_all holds') cs)
  both p holds holds' (CallChoice.other_list row table c ∷ cs) =
      let a = list_at (state_on o p) row table c in
      let v = listing_verdict a c.lent in
      other_both (CallChoice.other_list row table c) cs v v refl (list_other holds a c.lent refl)
      (list_other holds' a c.lent (sym (state_turned o mild p))) (λ n. AlikeCall.other_list) refl
      (both p holds holds' cs) (both p (still_all holds) (still_all holds') cs)
  both p {h} {h'} holds holds' (CallChoice.other_decide a masks ∷ cs) =
      onward (CallChoice.other_decide a masks) cs (deciding_verdict a masks) holds holds' (decide_other o h a masks)
      (decide_other (opposite_row o) h' a masks) AlikeCall.other_decide (λ es. refl) refl (λ x y. both p x y cs)

pub runs_both : RunsBoth
runs_both c lent lent' back s cs w m room g =
    let mild = are_mild_lem cpu c.row m in
    let w' = words_opposite c.row w in
    let back' = (open_of (opposite_call c) lent').lent in
    let g' : OpensRow (open_of (opposite_call c) lent') (Ok s) back' = record { answer = g.answer ∙ sym (open_turned c mild lent lent' room); lent_is = refl } in
    let a = accepted c lent back s g in
    let a' = accepted (opposite_call c) lent' back' s g' in
    let r =
    both (open_row c) mild (is_open c lent back s w a) (is_open (opposite_call c) lent' back' s w' a') at_first
    (record { row = held_first_lem c lent back s w a; lists = tt }) (record { row = held_first_lem (opposite_call c) lent' back' s w' a'; lists = tt }) cs in
    record {
      back' = back';
      opens' = g';
      events = r.events;
      events' = r.events';
      after = r.after;
      after' = r.after';
      runs = r.runs;
      runs' = r.runs';
      alike = r.alike;
      dues = r.dues;
    }
