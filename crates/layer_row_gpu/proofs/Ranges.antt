-- A range of tiles after an accepted opening is as the whole row has it. Assumes nothing.
use Rattle.std.specs.Prelude.{◌≡◌, ◌+◌, ◌-◌, ◌*◌, ◌/◌, ◌≤◌, ◌<◌}
use Rattle.laws.proofs.Prelude.{refl, sym, ap, ◌∙◌, Bool, true, false, cond, List, ℕ, zero, suc, min}
use Rattle.laws.proofs.Prelude.{add-zero, add-suc, arith, leb, eqb, Float, pos, length, drop, length-append, length-take, length-drop, sets}
use Rattle.laws.proofs.Prelude.{plus, over, length_over}
use Rattle.refusals.specs.Refusal.{Judgement, pass, refuse}
use Rattle.pixel_segment.specs.Field.{gpu}
use Rattle.cover_statements.specs.WholeRow.{row_plane}
use Rattle.cover_statements.proofs.Planes.{places_length}
use Rattle.layer_row_gpu.specs.OpenLayer.{LayerCall, layer_rule}
use Rattle.layer_row_gpu.specs.WorkLayer.{layer_choice, LayerGiven}
use Rattle.layer_row_gpu.specs.WorkTiles.{plane_at, NextTile, next_tile, TilesGiven, tiles_by, own_call, tiles_from, TilesChoice, tiles_verdict, tiles_given_by, work_tiles_of}
use Rattle.layer_row_gpu.specs.LayerDue.{layer_tile_on, layer_state_on, layer_due_verdict, layer_out, TilesDue, own_due, tiles_due_by, tiles_due, planes_due, tiles_due_verdict, tiles_out, work_tiles_due}
use Rattle.layer_row_gpu.proofs.Verdicts.{OpenPassed, not_at_most}
use Rattle.layer_row_gpu.proofs.Planes.{put_next}
use Rattle.layer_row_gpu.proofs.Dues.{verdict_due, work_given}

-- a next tile that is worked: the row has it, a plane is left, and its own call passes
pub worked_next : (past full : Bool) (own : Judgement) → next_tile past full own ≡ NextTile.works → (past ≡ false) × (full ≡ false) × (own ≡ pass)
worked_next false false pass e = (refl, refl, refl)
worked_next false false (refuse number) e = absurd (let z : ◌≡◌ {A = ℕ} 0 1 = cc in omega arith)
worked_next false true own e = absurd (let z : ◌≡◌ {A = ℕ} 0 1 = cc in omega arith)
worked_next true full own e = absurd (let z : ◌≡◌ {A = ℕ} 0 1 = cc in omega arith)

-- there is room for the k-th plane
pub room_for : (k : ℕ) (planes : List Float) → leb (length planes / 64) k ≡ false → k * 64 + 64 ≤ length planes
room_for k planes e = let h : k < length planes / 64 = not_at_most (length planes / 64) k e in omega arith

module _ (c : LayerCall) where
  -- the answer of a work is its verdict
  answer_out : (j : Judgement) (n : ℕ) (plane : List Float) → (layer_out j c n plane).answer ≡ j
  answer_out pass n plane = refl
  answer_out (refuse number) n plane = refl

  -- of a plane, the verdict reads the length
  by_length : (n : ℕ) (row : List ℕ) (xs ys : List Float) → length xs ≡ length ys
      → layer_due_verdict c n (layer_choice (pos (layer_tile_on c n)) row xs) ≡ layer_due_verdict c n (layer_choice (pos (layer_tile_on c n)) row ys)
  unfolding layer_due_verdict
  by_length n row xs ys e = rw e refl

  planes_long : (n k : ℕ) → length (planes_due c n k) ≡ k * 64
  unfolding planes_due
  planes_long n zero = refl
  planes_long n (suc k) =
      let x = row_plane gpu 4 (layer_rule c) (suc (layer_tile_on c (n + k))) c.layer c.row in
      let l = planes_long n k in
      let m : length x ≡ 64 = places_length 4 _ in
      length-append (planes_due c n k) x ∙ omega (arith, l, m)

  -- ---- tile after tile

  module _ (p : OpenPassed c) (n : ℕ) (choice : TilesChoice) (same : choice.row ≡ c.row) where
    abbrev written : ℕ → List Float
    written k = over (planes_due c n k) choice.planes

    abbrev result : TilesDue → TilesGiven
    result d = record { answer = pass; worked = d.worked; ended = d.ended; state = layer_state_on c (n + d.worked); planes = written d.worked }

    abbrev next_on : ℕ → NextTile
    next_on k = next_tile (leb (plus c.to) (layer_tile_on c (n + k))) (leb (length choice.planes / 64) k) (own_due c (n + k) choice k)

    abbrev own : ℕ → LayerGiven
    own k = own_call choice.row k (layer_state_on c (n + k)) (written k)

    module _ (k : ℕ) (inside : layer_tile_on c (n + k) ≤ plus c.to) (fits : k * 64 ≤ length choice.planes) where
      still_long : length (written k) ≡ length choice.planes
      still_long = length_over choice.planes (planes_due c n k) (let l = planes_long n k in omega (arith, l, fits))

      plane_still : length (plane_at k (written k)) ≡ length (plane_at k choice.planes)
      plane_still =
          length-take 64 (drop (k * 64) (written k)) ∙ ap (λ (m : ℕ). min 64 m) (length-drop (k * 64) (written k) ∙ ap (λ (m : ℕ). m - k * 64) still_long ∙ sym (length-drop (k * 64) choice.planes))
          ∙ sym (length-take 64 (drop (k * 64) choice.planes))

      own_verdict : layer_due_verdict c (n + k) (layer_choice (pos (layer_tile_on c (n + k))) choice.row (plane_at k (written k))) ≡ own_due c (n + k) choice k
      own_verdict = by_length (n + k) choice.row (plane_at k (written k)) (plane_at k choice.planes) plane_still

      own_given : own k ≡ layer_out (own_due c (n + k) choice k) c (n + k) (plane_at k (written k))
      own_given =
          work_given c p (n + k) inside (layer_choice (pos (layer_tile_on c (n + k))) choice.row (plane_at k (written k))) (λ v. same)
          ∙ ap (λ (j : Judgement). layer_out j c (n + k) (plane_at k (written k))) own_verdict

      own_answer : (own k).answer ≡ own_due c (n + k) choice k
      own_answer = ap (λ (g : LayerGiven). g.answer) own_given ∙ answer_out (own_due c (n + k) choice k) (n + k) (plane_at k (written k))

      next_same : next_tile (leb (plus c.to) (layer_tile_on c (n + k))) (leb (length (written k) / 64) k) (own k).answer ≡ next_on k
      next_same = λ i. next_tile (leb (plus c.to) (layer_tile_on c (n + k))) (leb (still_long i / 64) k) (own_answer i)

      -- past a tile that is worked
      module _ (w : next_on k ≡ NextTile.works) where
        facts : (leb (plus c.to) (layer_tile_on c (n + k)) ≡ false) × (leb (length choice.planes / 64) k ≡ false) × (own_due c (n + k) choice k ≡ pass)
        facts = worked_next (leb (plus c.to) (layer_tile_on c (n + k))) (leb (length choice.planes / 64) k) (own_due c (n + k) choice k) w

        on_inside : layer_tile_on c (n + suc k) ≤ plus c.to
        on_inside = let h : layer_tile_on c (n + k) < plus c.to = not_at_most (plus c.to) (layer_tile_on c (n + k)) facts.0 in omega (arith, h)

        on_room : k * 64 + 64 ≤ length choice.planes
        on_room = room_for k choice.planes facts.1

        on_given : own k ≡ layer_out pass c (n + k) (plane_at k (written k))
        on_given = own_given ∙ ap (λ (j : Judgement). layer_out j c (n + k) (plane_at k (written k))) facts.2

        on_state : (own k).state ≡ layer_state_on c (n + suc k)
        on_state = ap (λ (g : LayerGiven). g.state) on_given ∙ ap (layer_state_on c) (sym (add-suc n k))

        on_planes : sets (written k) (k * 64) (own k).plane ≡ written (suc k)
        unfolding planes_due
        on_planes =
            ap (λ (g : LayerGiven). sets (written k) (k * 64) g.plane) on_given
            ∙ put_next k (planes_due c n k) (row_plane gpu 4 (layer_rule c) (suc (layer_tile_on c (n + k))) c.layer c.row) choice.planes (planes_long n k) (places_length 4 _) on_room

    -- by whether the next tile is worked
    step_due : (left k : ℕ) → layer_tile_on c (n + k) ≤ plus c.to → k * 64 ≤ length choice.planes
        → (layer_tile_on c (n + suc k) ≤ plus c.to → suc k * 64 ≤ length choice.planes → tiles_from choice.row left (suc k) (layer_state_on c (n + suc k)) (written (suc k)) ≡ result (tiles_due c n choice left (suc k)))
        → (j : NextTile) → next_on k ≡ j
        → tiles_by j k (layer_state_on c (n + k)) (written k) (tiles_from choice.row left (suc k) (own k).state (sets (written k) (k * 64) (own k).plane))
        ≡ result (tiles_due_by j k (tiles_due c n choice left (suc k)))
    step_due left k inside fits more (NextTile.ends e) w = refl
    step_due left k inside fits more NextTile.works w =
        let r = on_room k inside fits w in
        (λ i. tiles_from choice.row left (suc k) (on_state k inside fits w i) (on_planes k inside fits w i))
        ∙ more (on_inside k inside fits w) (omega (arith, r))

    from_due : (left k : ℕ) → layer_tile_on c (n + k) ≤ plus c.to → k * 64 ≤ length choice.planes → tiles_from choice.row left k (layer_state_on c (n + k)) (written k) ≡ result (tiles_due c n choice left k)
    unfolding tiles_from tiles_due
    from_due zero k inside fits = refl
    from_due (suc left) k inside fits =
        ap (λ (j : NextTile). tiles_by j k (layer_state_on c (n + k)) (written k) (tiles_from choice.row left (suc k) (own k).state (sets (written k) (k * 64) (own k).plane))) (next_same k inside fits)
        ∙ step_due left k inside fits (from_due left (suc k)) (next_on k) refl

    -- from the first on
    from_first : layer_tile_on c n ≤ plus c.to → tiles_from choice.row choice.tiles 0 (layer_state_on c n) choice.planes ≡ result (tiles_due c n choice choice.tiles 0)
    unfolding over planes_due
    from_first inside =
        ap (λ (m : ℕ). tiles_from choice.row choice.tiles 0 (layer_state_on c m) choice.planes) (sym (add-zero n))
        ∙ from_due choice.tiles 0 (omega (arith, inside)) (omega arith)

  -- how far it gets: no tile past the row's end
  module _ (n : ℕ) (choice : TilesChoice) where
    abbrev On : NextTile → ℕ → TilesDue → Type 0
    On j k d = layer_tile_on c (n + (tiles_due_by j k d).worked) ≤ plus c.to

    far_by : (left k : ℕ) → layer_tile_on c (n + k) ≤ plus c.to → (layer_tile_on c (n + suc k) ≤ plus c.to → layer_tile_on c (n + (tiles_due c n choice left (suc k)).worked) ≤ plus c.to)
        → (j : NextTile) → next_tile (leb (plus c.to) (layer_tile_on c (n + k))) (leb (length choice.planes / 64) k) (own_due c (n + k) choice k) ≡ j → On j k (tiles_due c n choice left (suc k))
    far_by left k inside more (NextTile.ends e) w = inside
    far_by left k inside more NextTile.works w =
        let f = worked_next (leb (plus c.to) (layer_tile_on c (n + k))) (leb (length choice.planes / 64) k) (own_due c (n + k) choice k) w in
        let h : layer_tile_on c (n + k) < plus c.to = not_at_most (plus c.to) (layer_tile_on c (n + k)) f.0 in
        more (omega (arith, h))

    far : (left k : ℕ) → layer_tile_on c (n + k) ≤ plus c.to → layer_tile_on c (n + (tiles_due c n choice left k).worked) ≤ plus c.to
    unfolding tiles_due
    far zero k inside = inside
    far (suc left) k inside = far_by left k inside (far left (suc k)) _ refl

    far_out : layer_tile_on c n ≤ plus c.to → (j : Judgement) → layer_tile_on c (n + (tiles_out j c n choice).worked) ≤ plus c.to
    far_out inside (refuse number) = omega (arith, inside)
    far_out inside pass = far choice.tiles 0 (omega (arith, inside))

    state_out : (j : Judgement) → (tiles_out j c n choice).state ≡ layer_state_on c (n + (tiles_out j c n choice).worked)
    state_out pass = refl
    state_out (refuse number) = ap (layer_state_on c) (sym (add-zero n))

    pub tiles_state : (work_tiles_due c n choice).state ≡ layer_state_on c (n + (work_tiles_due c n choice).worked)
    tiles_state = state_out (tiles_due_verdict c n choice)

  module _ (p : OpenPassed c) (n : ℕ) (inside : layer_tile_on c n ≤ plus c.to) (choice : TilesChoice) where
    pub tiles_inside : layer_tile_on c (n + (work_tiles_due c n choice).worked) ≤ plus c.to
    tiles_inside = far_out n choice inside (tiles_due_verdict c n choice)

    pub tiles_verdict_due : tiles_verdict (layer_state_on c n) choice ≡ tiles_due_verdict c n choice
    tiles_verdict_due = ap (λ (j : Judgement). cond (eqb choice.tiles 0) pass j) (verdict_due c p n inside (layer_choice choice.tile choice.row choice.planes))

    given_by : (j : Judgement) → (j ≡ pass → choice.row ≡ c.row) → tiles_given_by j (layer_state_on c n) choice ≡ tiles_out j c n choice
    given_by (refuse number) same = refl
    given_by pass same = from_first p n choice (same refl) inside

    pub tiles_given : (tiles_due_verdict c n choice ≡ pass → choice.row ≡ c.row) → work_tiles_of (layer_state_on c n) choice ≡ work_tiles_due c n choice
    tiles_given same = ap (λ (j : Judgement). tiles_given_by j (layer_state_on c n) choice) tiles_verdict_due ∙ given_by (tiles_due_verdict c n choice) same
