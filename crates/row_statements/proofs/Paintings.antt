-- What a painting's verdict tells, and the whole operation from it. Assumes nothing.
use Rattle.std.specs.Prelude.{◌≡◌, ◌||◌, ◌+◌, ◌≤◌, Err}
use Rattle.laws.proofs.Prelude.{refl, ap, subst, ◌∙◌, true, false, not, false≢true, List, ℕ, suc, arith, ltb-false, eqb-true}
use Rattle.laws.proofs.Prelude.{not-false, ltb, leb, eqb, Float, ℤ, pos, length, lt_z, Answer, refused, given, is_given, plus, minus, whole, equal}
use Rattle.laws.proofs.Prelude.{lt_false}
use Rattle.refusals.specs.Refusal.{Judgement, pass, refuse, number_of}
use Rattle.refusals.specs.declared.Refusal.{Refusal}
use Rattle.refusals.proofs.Judging.{passed, or_left, or_right}
use Rattle.pixel_segment.specs.Field.{cpu, layer_id_of}
use Rattle.segment_rows.specs.Rows.{is_row, Ordered, Words}
use Rattle.segment_rows.specs.Search.{tile_part}
use Rattle.layer_table.specs.Lookup.{lookup}
use Rattle.styling.specs.declared.Layer.{Layer}
use Rattle.layer_table.proofs.Judging as judged
use Rattle.queue_statements.specs.Queue.{Carry, is_queue}
use Rattle.queue_statements.proofs.Judging.{queued, ordered}
use Rattle.row_carries.proofs.Parts.{tile_ordered}
use Rattle.painter.specs.Painting.{is_light_in, Paints}
use Rattle.painter.specs.InnerReady.{Ready}
use Rattle.painter.specs.declared.painting.Painting as painting
use Rattle.row_statements.specs.Lent.{is_queue_short, is_lent_short, is_lent_table}
use Rattle.row_statements.specs.State.{State, state_in, with_clip, is_stray, is_not_worked}
use Rattle.row_statements.specs.Painting.{PaintCall, call_verdict, layer_verdict, layer_from, layer_in, part_for, PaintSays, paint_says, paint_out, PaintsLayer}
use Rattle.row_statements.specs.InnerPaint.{painted_layer}
use Rattle.row_statements.specs.declared.RowState.{RowState}
use Rattle.row_statements.proofs.Works.{InRow, in_row_lem}

-- ---- the tile was just worked

pub record Worked (s : State) (tile : ℤ) : Type 0 where
  pub not_negative_lem : minus tile ≡ 0
  pub last : plus tile + 1 ≡ s.next

pub was_worked : (s : State) (tile : ℤ) → is_not_worked s tile ≡ false → Worked s tile
was_worked s tile e =
    let none = leb s.next s.from in
    let low = none || lt_z tile (pos 0) in
    let other = not (eqb (plus tile + 1) s.next) in
    let sign = lt_false tile (pos 0) (or_right none (lt_z tile (pos 0)) (or_left low other e)) in
    record {
      not_negative_lem = omega (arith, whole tile, sign);
      last = eqb-true (plus tile + 1) s.next (not-false (eqb (plus tile + 1) s.next) (or_right low other e));
    }

-- a tile that is not negative, as a natural number
natural : (z : ℤ) → minus z ≡ 0 → pos (plus z) ≡ z
natural z h = equal (pos (plus z)) z (omega (arith, h, whole z))

module _ (c : PaintCall) (plane : List Float) where
  -- ---- 1 to 5

  pub record Called : Type 0 where
    pub queue_room : is_queue_short c.queue ≡ false
    pub plane_room : 256 ≤ length plane
    pub in_state : InRow c.state
    pub worked : Worked c.state c.tile
    pub ascends : is_row cpu (suc c.state.tile_y) c.row ≡ true
    pub in_table : is_lent_table c.table ≡ true
    pub in_queue : is_queue c.state.taken c.queue.ids ≡ true

  pub call_passed : call_verdict c plane ≡ pass → Called
  unfolding call_verdict
  call_passed e =
      let q = is_queue_short c.queue in
      let t = is_lent_short c.table in
      let f = ltb (length plane) 256 in
      let stray = is_stray c.state in
      let other = is_not_worked c.state c.tile in
      let one = passed _ _ _ e in
      let two = passed _ _ _ one.1 in
      let three = passed _ _ _ two.1 in
      let four = passed _ _ _ three.1 in
      let five = passed _ _ _ four.1 in
      record {
        queue_room = or_left q t (or_left (q || t) f one.0);
        plane_room = ltb-false (length plane) 256 (or_right (q || t) f one.0);
        in_state = in_row_lem c.state (or_left stray other two.0);
        worked = was_worked c.state c.tile (or_right stray other two.0);
        ascends = not-false (is_row cpu (suc c.state.tile_y) c.row) three.0;
        in_table = not-false (is_lent_table c.table) four.0;
        in_queue = not-false (is_queue c.state.taken c.queue.ids) five.0;
      }

  pub ready : Called → Words c.row → Ready c.state.taken c.queue.ids c.queue.covers (part_for c) c.table.words c.table.floats c.table.count plane
  ready p w =
      let q = queued p.queue_room p.in_queue in
      record {
        queued = q;
        walks = record {
          few = (ordered c.state.taken c.queue.ids p.in_queue).few;
          long = q.ids_long;
          ordered = subst (λ (t : ℤ). Ordered (layer_id_of cpu) (tile_part t c.row)) (natural c.tile p.worked.not_negative_lem) (tile_ordered (record { words = w; is_row_lem = p.ascends }) (plus c.tile));
        };
        table = judged.table p.in_table;
        room = p.plane_room;
      }

-- ---- 8 and 9

given_is : (a : Answer Layer) (id : ℕ) → is_given a ≡ true → a ≡ given (layer_from a id)
given_is (refused n) id h = absurd (false≢true h)
given_is (given l) id h = refl

pub record LayerPassed (table : List Layer) (carries : List Carry) (part : List ℕ) (id : ℕ) : Type 0 where
  pub found : lookup table id ≡ given (layer_in table id)
  pub light : is_light_in carries part id ≡ true

pub layer_passed : (table : List Layer) (carries : List Carry) (part : List ℕ) (id : ℕ) → layer_verdict table carries part id ≡ pass → LayerPassed table carries part id
layer_passed table carries part id e =
    let one = passed _ _ _ e in
    let two = passed _ _ _ one.1 in
    record {
      found = given_is (lookup table id) id (not-false (is_given (lookup table id)) one.0);
      light = not-false (is_light_in carries part id) two.0;
    }

-- ---- the operation

module _ (t : PaintSays) {v : Judgement} {state : State} {old : List Float} where
  -- a refusal leaves everything as it was
  pub paints_refused : (s : RowState) {r : Refusal} → v ≡ refuse (number_of r) → state_in s ≡ state → PaintsLayer (paint_out v t state old) (record { state = s; answer = Err r }) old
  unfolding paint_out
  paints_refused s {r} e es = rw e (record { answer = refl; state = es; plane = refl })

-- an accepted painting gives what the painter does
pub paints_done : (table : List Layer) (carries : List Carry) (part : List ℕ) (id : ℕ) (s : RowState) {v : Judgement} {state : State} {old : List Float} {p : painting.Painting} {plane : List Float} → v ≡ pass → state_in s ≡ state
    → Paints table carries part id (layer_in table id) state.clip old p plane
    → PaintsLayer (paint_out v (paint_says table carries part id state.clip) state old) (painted_layer s p.clip p.mark) plane
unfolding paint_out
paints_done table carries part id s {v} {state} {old} {p} {plane} e es o =
    rw e
    (record {
      answer = ap given o.mark_is;
      state = ap (λ (x : State). with_clip x (state_in (painted_layer s p.clip p.mark).state).clip) es ∙ ap (with_clip state) o.clip_is;
      plane = o.plane_is;
    })
