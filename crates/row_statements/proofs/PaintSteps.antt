-- A painting in a run: what it gives is what is due, and what the caller then holds is again the row's. Assumes nothing.
use Rattle.std.specs.Prelude.{◌≡◌, ◌||◌, ◌+◌, ◌-◌}
use Rattle.laws.proofs.Prelude.{refl, ap, ap₂, sym, subst, ◌∙◌, Bool, true, false, not, false≢true, List, Option, ℕ, zero, suc}
use Rattle.laws.proofs.Prelude.{arith, le-leb, lt-leb, ne_eqb, eqb-true, not-false, ltb, leb, eqb, Float, ℤ, pos, length, lt_z, Answer, refused, given}
use Rattle.laws.proofs.Prelude.{plus, whole, equal, lt_false}
use Rattle.refusals.specs.Refusal.{Judgement, pass, refuse, unless, and_then}
use Rattle.refusals.proofs.Judging.{passed, or_left, or_right}
use Rattle.pixel_segment.specs.Field.{cpu}
use Rattle.segment_rows.specs.Search.{tile_part, layer_part}
use Rattle.layer_table.specs.Lookup.{lookup}
use Rattle.styling.specs.declared.FillRule.{FillRule}
use Rattle.styling.specs.declared.Layer.{Layer}
use Rattle.cover_statements.specs.Cover.{cover_at}
use Rattle.cover_statements.specs.Plane.{plane_of}
use Rattle.queue_statements.specs.Queue.{Carry, held_in, is_queue}
use Rattle.layer_carrying.specs.Carrying.{rule_from, rule_in}
use Rattle.tile_layers.specs.Listing.{are_known}
use Rattle.pass_statements.specs.Rules.{needs_clip}
use Rattle.pass_statements.specs.declared.item.Item.{Item}
use Rattle.row_carries.proofs.Carried.{plane_is}
use Rattle.painter.specs.Clip.{alive_at, clip_after}
use Rattle.painter.specs.Painting.{mark_for, plane_in, mark_in}
use Rattle.painter.proofs.Items.{items_known}
use Rattle.row_statements.specs.Lent.{Columns, carries_in}
use Rattle.row_statements.specs.State.{State, state_in, is_stray, is_not_worked}
use Rattle.row_statements.specs.Painting.{PaintGiven, PaintSays, call_verdict, own_verdict, layer_verdict, layer_from, layer_in, taken_for, part_for, paint_verdict, paint_says, paint_out, paint_of, PaintsLayer}
use Rattle.row_statements.specs.Due.{OpenRow, Past, PaintChoice, table_on, queue_on, layers_on, taken_on, state_on, is_not_last, paint_due_verdict, func_on, plane_on, mark_on, paint_on, paint_due, past_paint}
use Rattle.row_statements.specs.Run.{Held, SameCarries, paint_onto}
use Rattle.row_statements.specs.InnerHolding.{HoldsQueue, IsOpen, Took, Holds}
use Rattle.row_statements.specs.declared.Painted.{Painted}
use Rattle.row_statements.proofs.Holding.{same_holds}
use Rattle.row_statements.proofs.WorkSteps.{not_stray}

-- 2: in a row that is open, what the state says is what the calls before say
no_tile : (from n : ℕ) → leb (from + n) from ≡ eqb n 0
no_tile from zero = le-leb (from + 0) from (omega arith)
no_tile from (suc n) = lt-leb (from + suc n) from (omega arith) ∙ sym (ne_eqb (suc n) 0 (λ e. absurd (omega arith)))

-- the lines of the judge, and what is due: 5 is asked only of a tile that is worked
joined : (short out q : Bool) (v w : Judgement) → (out ≡ false → q ≡ true) → (out ≡ false → v ≡ w) → and_then (unless short 1 (unless out 2 (unless (not q) 5 pass))) v ≡ unless short 1 (unless out 2 w)
joined true out q v w e h = refl
joined false true q v w e h = refl
joined false false true v w e h = h refl
joined false false false v w e h = absurd (false≢true (e refl))

-- the rule of a painted layer is the one that its carries go by
rule_is : (table : List Layer) (id : ℕ) → (layer_in table id).props.fill_rule ≡ rule_in table id
rule_is table id = by (lookup table id)
  where
    by : (found : Answer Layer) → (layer_from found id).props.fill_rule ≡ rule_from found
    by (refused n) = refl
    by (given l) = refl

-- the last of n tiles, where there is one
record LastTile (o : OpenRow) (n : ℕ) (tile : ℤ) (k : Columns) : Type 0 where
  queue : HoldsQueue (queue_on o (n - 1)) k
  known : are_known (table_on o) (layers_on o (n - 1)) ≡ true
  many : taken_on o n ≡ length (queue_on o (n - 1))
  is_tile : tile ≡ pos (o.from + (n - 1))

last_tile : (o : OpenRow) (n : ℕ) (tile : ℤ) (k : Columns) → Took o n k → is_not_last o n tile ≡ false → LastTile o n tile k
last_tile o zero tile k t e = absurd (false≢true (sym e))
last_tile o (suc n) tile k t e =
    let some = eqb (suc n) 0 in
    let other = not (eqb (plus tile + 1) (o.from + suc n)) in
    let natural = lt_false tile (pos 0) (or_right some (lt_z tile (pos 0)) (or_left (some || lt_z tile (pos 0)) other e)) in
    let same = eqb-true (plus tile + 1) (o.from + suc n) (not-false _ (or_right (some || lt_z tile (pos 0)) other e)) in
    let before : suc n - 1 ≡ n = omega arith in
    record {
      queue = rw before t.0;
      known = rw before t.1;
      many = rw before;
      is_tile = rw before (equal tile (pos (o.from + n)) (omega (arith, whole tile, natural, same)));
    }

-- the coverages and the mark of a layer in the tile from + n, of the carries that the tile takes in and its part of the row
module _ {o : OpenRow} (is_open : IsOpen o) (n id : ℕ) where
  pub row_plane : plane_in (queue_on o n) (tile_part (pos (o.from + n)) o.row) id (layer_in (table_on o) id) ≡ plane_on o n id
  row_plane =
      ap (λ (rule : FillRule). plane_of cpu 16 rule (cover_at (held_in (queue_on o n) id)) (layer_part id (tile_part (pos (o.from + n)) o.row))) (rule_is (table_on o) id)
      ∙ plane_is is_open.in_order (table_on o) o.from n id

  pub row_mark : are_known (table_on o) (layers_on o n) ≡ true → (clip : Option ℕ) → mark_in (table_on o) (queue_on o n) (tile_part (pos (o.from + n)) o.row) id (layer_in (table_on o) id) clip ≡ mark_on o n id clip
  row_mark known clip =
      let f = func_on o id in
      ap₂ (λ (items : List Item) (plane : List Float). mark_for f (needs_clip items f id) (alive_at clip id) plane) (items_known (table_on o) (layers_on o n) known) row_plane

  pub row_says : are_known (table_on o) (layers_on o n) ≡ true → (clip : Option ℕ) → paint_says (table_on o) (queue_on o n) (tile_part (pos (o.from + n)) o.row) id clip ≡ paint_on o n id clip
  row_says known clip =
      ap₂ (λ (plane : List Float) (mark : ℕ). record { plane = plane; mark = mark; clip = clip_after (func_on o id) id clip }) row_plane (row_mark known clip)

module _ {o : OpenRow} {p : Past} {h : Held} (is_open : IsOpen o) (holds : Holds o p h) (c : PaintChoice) (same : SameCarries h.state.taken h.taken c.queue) where
  tile_due : (is_stray h.state || is_not_worked h.state c.tile) ≡ is_not_last o p.tiles c.tile
  tile_due = rw (holds.state, not_stray o p is_open.tile_y is_open.last holds.inside, no_tile o.from p.tiles)

  -- the last tile, and its carries in the lent queue
  last : is_not_last o p.tiles c.tile ≡ false → LastTile o p.tiles c.tile c.queue
  last e =
      let t = last_tile o p.tiles c.tile h.taken holds.took e in
      record {
        queue = same_holds (queue_on o (p.tiles - 1)) same (ap (λ (s : State). s.taken) holds.state ∙ t.many) t.queue;
        known = t.known;
        many = t.many;
        is_tile = t.is_tile;
      }

  taken_due : is_not_last o p.tiles c.tile ≡ false → h.state.taken ≡ length (queue_on o (p.tiles - 1))
  taken_due e = ap (λ (s : State). s.taken) holds.state ∙ (last e).many

  queue_due : is_not_last o p.tiles c.tile ≡ false → is_queue h.state.taken c.queue.ids ≡ true
  queue_due e = ap (λ (n : ℕ). is_queue n c.queue.ids) (taken_due e) ∙ (last e).queue.ordered

  carries_due : is_not_last o p.tiles c.tile ≡ false → taken_for (paint_onto o h c) ≡ queue_on o (p.tiles - 1)
  carries_due e = ap (λ (n : ℕ). carries_in n c.queue) (taken_due e) ∙ (last e).queue.reads

  part_due : is_not_last o p.tiles c.tile ≡ false → part_for (paint_onto o h c) ≡ tile_part (pos (o.from + (p.tiles - 1))) o.row
  part_due e = ap (λ (t : ℤ). tile_part t o.row) (last e).is_tile

  call_due : call_verdict (paint_onto o h c) c.plane ≡ unless (ltb (length c.plane) 256) 1 (unless (is_not_last o p.tiles c.tile) 2 (unless (not (is_queue h.state.taken c.queue.ids)) 5 pass))
  unfolding call_verdict
  call_due =
      rw (same.room ∙ holds.taken_long, is_open.table_long, tile_due, ap (λ (s : State). s.tile_y) holds.state, is_open.in_order.is_row_lem, is_open.in_table)

  verdict_due : paint_verdict (paint_onto o h c) c.plane ≡ paint_due_verdict o p.tiles c
  verdict_due =
      ap (λ (v : Judgement). and_then v (own_verdict (paint_onto o h c))) call_due
      ∙ joined (ltb (length c.plane) 256) (is_not_last o p.tiles c.tile) (is_queue h.state.taken c.queue.ids) (own_verdict (paint_onto o h c)) (layer_verdict (table_on o) (queue_on o (p.tiles - 1)) (tile_part (pos (o.from + (p.tiles - 1))) o.row) c.layer) queue_due
      (λ e. ap₂ (λ (q : List Carry) (l : List ℕ). layer_verdict (table_on o) q l c.layer) (carries_due e) (part_due e))

  -- the tile, once the verdict passes
  accepted : paint_due_verdict o p.tiles c ≡ pass → is_not_last o p.tiles c.tile ≡ false
  accepted e =
      let below = layer_verdict (table_on o) (queue_on o (p.tiles - 1)) (tile_part (pos (o.from + (p.tiles - 1))) o.row) c.layer in
      let one = passed (ltb (length c.plane) 256) 1 (unless (is_not_last o p.tiles c.tile) 2 below) e in
      (passed (is_not_last o p.tiles c.tile) 2 below one.1).0

  -- what the layer says
  says_here : PaintSays
  says_here = paint_says (table_on o) (taken_for (paint_onto o h c)) (part_for (paint_onto o h c)) c.layer h.state.clip

  says_due : is_not_last o p.tiles c.tile ≡ false → says_here ≡ paint_on o (p.tiles - 1) c.layer p.clip
  unfolding says_here
  says_due e =
      ap₂ (λ (q : List Carry) (l : List ℕ). paint_says (table_on o) q l c.layer h.state.clip) (carries_due e) (part_due e)
      ∙ ap (λ (s : State). paint_says (table_on o) (queue_on o (p.tiles - 1)) (tile_part (pos (o.from + (p.tiles - 1))) o.row) c.layer s.clip) holds.state
      ∙ row_says is_open (p.tiles - 1) c.layer (last e).known p.clip

  -- by the verdict, what the contract gives is what is due
  given_due : (v : Judgement) → paint_due_verdict o p.tiles c ≡ v → paint_out v says_here h.state c.plane ≡ paint_out v (paint_on o (p.tiles - 1) c.layer p.clip) (state_on o p) c.plane
  unfolding paint_out
  given_due (refuse n) e = ap (λ (s : State). record { answer = refused n; state = s; plane = c.plane }) holds.state
  given_due pass e = ap₂ (λ (t : PaintSays) (s : State). paint_out pass t s c.plane) (says_due (accepted e)) holds.state

  pub paint_due_lem : paint_of (paint_onto o h c) c.plane ≡ paint_due o p c
  unfolding says_here
  paint_due_lem =
      ap (λ (v : Judgement). paint_out v says_here h.state c.plane) verdict_due
      ∙ given_due (paint_due_verdict o p.tiles c) refl

  -- what the caller holds after it
  after_paint : {s : State} (v : Judgement) → s ≡ (paint_out v (paint_on o (p.tiles - 1) c.layer p.clip) (state_on o p) c.plane).state → Holds o (past_paint v o c.layer p) (record { state = s; queue = h.queue; taken = h.taken })
  unfolding paint_out
  after_paint (refuse n) es = record { state = es; inside = holds.inside; queue = holds.queue; taken_long = holds.taken_long; took = holds.took }
  after_paint pass es = record { state = es; inside = holds.inside; queue = holds.queue; taken_long = holds.taken_long; took = holds.took }

  -- what is right of it
  pub right_paint : {r : Painted} {back : List Float} → PaintsLayer (paint_of (paint_onto o h c) c.plane) r back
      → PaintsLayer (paint_due o p c) r back × Holds o (past_paint (paint_due_verdict o p.tiles c) o c.layer p) (record { state = state_in r.state; queue = h.queue; taken = h.taken })
  right_paint {r} {back} g =
      let d : PaintsLayer (paint_due o p c) r back = subst (λ (out : PaintGiven). PaintsLayer out r back) paint_due_lem g in
      (d, after_paint (paint_due_verdict o p.tiles c) d.state)
