-- The shown layers of a tile that is accepted: none of their paintings is refused, and the walk over them is the succession of the paintings. Assumes
-- nothing.
use Rattle.std.specs.Prelude.{◌≡◌, ◌∷◌, ◌+◌, ◌*◌, ◌≤◌, ◌<◌}
use Rattle.laws.proofs.Prelude.{refl, ap, sym, ◌∙◌, Bool, true, false, cond, List, [], Option, ℕ, arith, le-ltb, lt-leb}
use Rattle.laws.proofs.Prelude.{eq-eqb, Float, length, drop, length-drop, sets, length-sets, length-take-le, over}
use Rattle.refusals.specs.Refusal.{Judgement, pass, and_then}
use Rattle.segment_rows.specs.Search.{tile_part}
use Rattle.queue_statements.specs.Queue.{Carry}
use Rattle.row_statements.specs.Lent.{carries_in, layers_of}
use Rattle.row_statements.specs.State.{State, next_state, with_clip, is_wrong_worked}
use Rattle.row_statements.specs.Painting.{PaintSays, paint_call, call_verdict, own_verdict, paint_verdict, paint_says, paint_out, layer_verdict}
use Rattle.row_statements.proofs.Works.{in_row_lem}
use Rattle.row_lines.proofs.Accepted.{AllPass}
use Rattle.batch_statements.specs.BatchLent.{plane_at}
use Rattle.batch_statements.specs.Batch.{BatchRow, BatchAt, PlanesAt, painted_past, paint_at, paints_from}
use Rattle.batch_painting.specs.InnerShown.{paint_step, walk_next, walk_from}
use Rattle.batch_painting.proofs.Steps.{walk_unpainted}
use Rattle.tile_batch.specs.InnerTurns.{BatchStands}

-- ---- the paintings

module _ (c : BatchRow) (s : BatchAt) (stands : BatchStands c s) (inside : s.state.next < s.state.to) (left : ℕ) where
  abbrev pub base : State
  base = next_state s.state left

  -- the tile was just worked
  pub worked_right : is_wrong_worked base s.tile ≡ false
  worked_right =
      let r = in_row_lem s.state stands.in_state in
      let n = s.state.next in
      rw (stands.is_tile, le-ltb 2046 s.state.tile_y r.tile_y, le-ltb 4095 s.state.to r.last, le-ltb (n + 1) s.state.from (omega (arith, r.first)), le-ltb s.state.to (n + 1) (omega (arith, inside)), lt-leb (n + 1) s.state.from (omega (arith, r.first)), le-ltb n 0 (omega arith), eq-eqb (n + 1) (n + 1) refl)

  abbrev pub planes_on : Option ℕ → ℕ → List Float → List ℕ → PlanesAt
  planes_on clip used planes words = record { state = with_clip base clip; used = used; planes = planes; painted = words }

  abbrev pub carries : List Carry
  carries = carries_in s.state.left s.lent.queue

  abbrev pub part : List ℕ
  part = tile_part s.tile c.row

  module _ (clip : Option ℕ) (used : ℕ) (planes : List Float) (words : List ℕ) (id : ℕ) where
    abbrev pub says : PaintSays
    says = paint_says (layers_of c.table) carries part id clip

    call_passes : used * 256 + 256 ≤ length planes → call_verdict (paint_call (with_clip base clip) s.tile id c.row c.table s.lent.queue) (plane_at used planes) ≡ pass
    unfolding call_verdict
    call_passes h =
        let room : 256 ≤ length (drop (used * 256) planes) = rw (length-drop (used * 256) planes) (omega (arith, h)) in
        let long = length-take-le 256 (drop (used * 256) planes) room in
        rw (stands.queue_room, stands.table_long, long, worked_right, stands.ascends, stands.in_table, stands.in_queue)

    -- a layer that neither 8 nor 9 refuses is painted into the next plane
    pub next_is : used * 256 + 256 ≤ length planes → layer_verdict (layers_of c.table) carries part id ≡ pass
        → let g = paint_at c s.tile s.lent.queue (planes_on clip used planes words) id in painted_past g.answer id g (planes_on clip used planes words) ≡ paint_step says id (planes_on clip used planes words)
    unfolding paint_out
    next_is h v =
        let call = paint_call (with_clip base clip) s.tile id c.row c.table s.lent.queue in
        let passes : paint_verdict call (plane_at used planes) ≡ pass = ap (λ (j : Judgement). and_then j (own_verdict call)) (call_passes h) ∙ v in
        ap (λ (j : Judgement). let g = paint_out j says (with_clip base clip) (plane_at used planes) in painted_past g.answer id g (planes_on clip used planes words)) passes

  -- all of them
  pub record PaintsAre (clip : Option ℕ) (used shown : ℕ) (planes : List Float) (words : List ℕ) (ids : List ℕ) : Type 0 where
    pub walk_is : (walk_from true (layers_of c.table) carries part (record { at = planes_on clip used planes words; shown = shown }) ids).at ≡ paints_from c s.tile s.lent.queue (planes_on clip used planes words) ids
    pub clip_after : Option ℕ
    pub state_is : (paints_from c s.tile s.lent.queue (planes_on clip used planes words) ids).state ≡ with_clip base clip_after
    pub used_is : (paints_from c s.tile s.lent.queue (planes_on clip used planes words) ids).used ≡ used + length ids
    pub planes_long : length (paints_from c s.tile s.lent.queue (planes_on clip used planes words) ids).planes ≡ length planes
    pub words_long : length (paints_from c s.tile s.lent.queue (planes_on clip used planes words) ids).painted ≡ length words

  walk_one : (id : ℕ) (ids : List ℕ) (clip : Option ℕ) (used shown : ℕ) (planes : List Float) (words : List ℕ)
      → (walk_from true (layers_of c.table) carries part (record { at = planes_on clip used planes words; shown = shown }) (id ∷ ids)).at
      ≡ (walk_from true (layers_of c.table) carries part (record { at = paint_step (says clip used planes words id) id (planes_on clip used planes words); shown = shown + 1 }) ids).at
  unfolding walk_from walk_next
  walk_one id ids clip used shown planes words = refl

  pub paints_are : (ids : List ℕ) (clip : Option ℕ) (used shown : ℕ) (planes : List Float) (words : List ℕ) → (used + length ids) * 256 ≤ length planes → AllPass (layers_of c.table) carries part ids → PaintsAre clip used shown planes words ids
  unfolding walk_from paints_from
  paints_are [] clip used shown planes words h all = record { walk_is = refl; clip_after = clip; state_is = refl; used_is = omega arith; planes_long = refl; words_long = refl }
  paints_are (id ∷ ids) clip used shown planes words h all =
      let sy = says clip used planes words id in
      let here = next_is clip used planes words id (omega (arith, h)) all.0 in
      let planes' = sets planes (used * 256) (over sy.plane (plane_at used planes)) in
      let words' = sets words (used * 2) (id ∷ sy.mark ∷ []) in
      let same = length-sets planes (used * 256) (over sy.plane (plane_at used planes)) in
      let same' = length-sets words (used * 2) (id ∷ sy.mark ∷ []) in
      let rest = paints_are ids sy.clip (used + 1) (shown + 1) planes' words' (omega (arith, h, same)) all.1 in
      let all-is = ap (λ (p : PlanesAt). paints_from c s.tile s.lent.queue p ids) here in
      record {
        walk_is = walk_one id ids clip used shown planes words ∙ rest.walk_is ∙ sym all-is;
        clip_after = rest.clip_after;
        state_is = ap (λ (p : PlanesAt). p.state) all-is ∙ rest.state_is;
        used_is = ap (λ (p : PlanesAt). p.used) all-is ∙ (let u = rest.used_is in omega (arith, u));
        planes_long = ap (λ (p : PlanesAt). length p.planes) all-is ∙ rest.planes_long ∙ same;
        words_long = ap (λ (p : PlanesAt). length p.painted) all-is ∙ rest.words_long ∙ same';
      }

  -- of a tile that is painted or not
  pub walk_paints : (paints : Bool) (ids : List ℕ) (clip : Option ℕ) (used : ℕ) (planes : List Float) (words : List ℕ) → PaintsAre clip used 0 planes words (cond paints ids []) → (walk_from paints (layers_of c.table) carries part (record { at = planes_on clip used planes words; shown = 0 }) ids).at ≡ paints_from c s.tile s.lent.queue (planes_on clip used planes words) (cond paints ids [])
  unfolding paints_from
  walk_paints true ids clip used planes words p = p.walk_is
  walk_paints false ids clip used planes words p = walk_unpainted (layers_of c.table) carries part ids (record { at = planes_on clip used planes words; shown = 0 })
