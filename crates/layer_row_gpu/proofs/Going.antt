-- A range as its loop goes: what is left to do on what is left is the whole. Assumes nothing.
use Rattle.refusals.specs.declared.Refusal.{Refusal}
use Rattle.std.specs.Prelude.{◌≡◌, ◌||◌, ◌+◌, ◌-◌, ◌*◌, ◌/◌, ◌≤◌, ◌<◌, Result}
use Rattle.laws.proofs.Prelude.{refl, sym, ap, subst, ◌∙◌, Bool, true, false, not, List, ℕ, suc}
use Rattle.laws.proofs.Prelude.{add-one, arith, le-ltb, lt-leb, leb-false, ltb-false, eq-eqb, ne_eqb, ltb, leb, Float, ℤ, pos, length}
use Rattle.laws.proofs.Prelude.{sets, length-sets, over}
use Rattle.refusals.specs.Refusal.{Judgement, pass, refuse, unless, judgement_in}
use Rattle.refusals.proofs.Judging.{or_left, or_right}
use Rattle.pixel_segment.specs.Field.{gpu}
use Rattle.cover_statements.specs.Carry.{is_light}
use Rattle.cover_statements.specs.Cover.{cover_at}
use Rattle.cover_statements.specs.Plane.{plane_of}
use Rattle.layer_row_gpu.specs.LayerState.{LayerState, layer_state_in, past_tile, is_astray, is_other_tile}
use Rattle.layer_row_gpu.specs.WorkLayer.{work_layer_verdict, LayerChoice, layer_choice, LayerGiven, worked_by}
use Rattle.layer_row_gpu.specs.WorkTiles.{plane_at, TilesEnd, asked, tiles_end_in, NextTile, next_tile, TilesGiven, tiles_by, own_call, tiles_from, tiles_choice, tiles_given_by, work_tiles_of, WorksTiles}
use Rattle.layer_row_gpu.specs.InnerWorks.{due_tile}
use Rattle.layer_row_gpu.specs.InnerTiles.{Ready, next_judged}
use Rattle.layer_row_gpu.specs.declared.LayerRow.{LayerRow}
use Rattle.layer_row_gpu.specs.declared.tiles.Ended.{Ended}
use Rattle.layer_row_gpu.specs.declared.tiles.WorkedTiles.{WorkedTiles}
use Rattle.layer_row_gpu.proofs.Planes.{plane_long}
use Rattle.layer_row_gpu.proofs.Ranges.{worked_next, room_for}
use Rattle.layer_row_gpu.proofs.Verdicts.{work_passed}

-- the coverages of the next tile over its plane
abbrev pub next_plane : LayerState → List ℕ → ℕ → List Float → List Float
next_plane s row k planes = over (plane_of gpu 4 s.rule (cover_at s.covers) (due_tile s row)) (plane_at k planes)

-- number 9 alone is left to judge
module _ {s : LayerState} {row : List ℕ} (r : Ready s row) where
  not_astray : is_astray s ≡ false
  not_astray =
      rw (
        le-ltb 8190 s.tile_y r.row_low,
        le-ltb 4095 s.to r.last_low,
        le-ltb s.next s.from r.begun,
        le-ltb s.to s.next r.within,
      )
      refl

  own_tile : s.next < s.to → is_other_tile s (pos s.next) ≡ false
  own_tile h = rw (lt-leb s.to s.next h, le-ltb s.next 0 (omega arith), eq-eqb s.next s.next refl) refl

  own_verdict : (plane : List Float) → s.next < s.to → 64 ≤ length plane → work_layer_verdict s (pos s.next) row plane ≡ unless (not (is_light gpu 4 s.covers (due_tile s row))) 9 pass
  unfolding work_layer_verdict
  own_verdict plane h l = rw (le-ltb (length plane) 64 l, not_astray, own_tile h, r.in_order) refl

  module _ (k : ℕ) (planes : List Float) where
    abbrev own : LayerGiven
    own = own_call row k s planes

    abbrev verdict : Judgement
    verdict = unless (not (is_light gpu 4 s.covers (due_tile s row))) 9 pass

    answer_by : (j : Judgement) (choice : LayerChoice) → (worked_by j s choice).answer ≡ j
    answer_by pass choice = refl
    answer_by (refuse number) choice = refl

    next_by : (a b : Bool) → leb s.to s.next ≡ a → leb (length planes / 64) k ≡ b → next_tile a b own.answer ≡ next_tile a b verdict
    next_by true b e f = refl
    next_by false true e f = refl
    next_by false false e f =
        let h : s.next < s.to = leb-false s.to s.next e in
        let room = room_for k planes f in
        let long : 64 ≤ length (plane_at k planes) = let l = plane_long k planes room in omega (arith, l) in
        ap (λ (j : Judgement). next_tile false false j)
        (answer_by (work_layer_verdict s (pos s.next) row (plane_at k planes)) (layer_choice (pos s.next) row (plane_at k planes)) ∙ own_verdict (plane_at k planes) h long)

    pub next_judged_lem : next_tile (leb s.to s.next) (leb (length planes / 64) k) own.answer ≡ next_judged s row (leb (length planes / 64) k)
    next_judged_lem = next_by (leb s.to s.next) (leb (length planes / 64) k) refl refl

    -- a tile that is worked
    module _ (w : next_judged s row (leb (length planes / 64) k) ≡ NextTile.works) where
      facts : (leb s.to s.next ≡ false) × (leb (length planes / 64) k ≡ false) × (verdict ≡ pass)
      facts = worked_next (leb s.to s.next) (leb (length planes / 64) k) verdict w

      left : s.next < s.to
      left = leb-false s.to s.next facts.0

      goes_room : k * 64 + 64 ≤ length planes
      goes_room = room_for k planes facts.1

      pub past_ready : Ready (past_tile s (due_tile s row)) row
      past_ready =
          let h = left in
          record { row_low = r.row_low; last_low = r.last_low; begun = omega (arith, r.begun); within = omega (arith, h); in_order = r.in_order }

      pub own_is : own ≡ worked_by pass s (layer_choice (pos s.next) row (plane_at k planes))
      own_is =
          let long : 64 ≤ length (plane_at k planes) = let l = plane_long k planes goes_room in omega (arith, l) in
          ap (λ (j : Judgement). worked_by j s (layer_choice (pos s.next) row (plane_at k planes))) (own_verdict (plane_at k planes) left long ∙ facts.2)

-- ---- the loop

pub record Going (row : List ℕ) (tiles k : ℕ) (s₀ s : LayerState) (planes₀ planes : List Float) : Type 0 where
  pub ready : Ready s row
  pub long : length planes ≡ length planes₀
  pub within : k ≤ tiles
  pub left_is : tiles_from row tiles 0 s₀ planes₀ ≡ tiles_from row (tiles - k) k s planes

module _ {row : List ℕ} {tiles k : ℕ} {s₀ s : LayerState} {planes₀ planes : List Float} (g : Going row tiles k s₀ s planes₀ planes) where
  abbrev ended : TilesEnd → TilesGiven
  ended e = record { answer = pass; worked = k; ended = e; state = s; planes = planes }

  -- all that were asked for are worked
  pub all_worked : tiles ≤ k → tiles_from row tiles 0 s₀ planes₀ ≡ ended asked
  unfolding tiles_from
  all_worked h = let n : tiles - k ≡ 0 = omega arith in g.left_is ∙ ap (λ (m : ℕ). tiles_from row m k s planes) n

  module _ (h : k < tiles) where
    abbrev rest : TilesGiven
    rest = tiles_from row (tiles - suc k) (suc k) (own_call row k s planes).state (sets planes (k * 64) (own_call row k s planes).plane)

    -- one more
    one_more : tiles_from row tiles 0 s₀ planes₀ ≡ tiles_by (next_judged s row (leb (length planes / 64) k)) k s planes rest
    unfolding tiles_from
    one_more =
        let n : tiles - k ≡ suc (tiles - suc k) = omega arith in
        g.left_is
        ∙ ap (λ (m : ℕ). tiles_from row m k s planes) n
        ∙ ap (λ (j : NextTile). tiles_by j k s planes rest) (next_judged_lem g.ready k planes)

    judged_at : next_judged s row (leb (length planes₀ / 64) k) ≡ next_judged s row (leb (length planes / 64) k)
    judged_at = ap (λ (m : ℕ). next_judged s row (leb (m / 64) k)) (sym g.long)

    -- it ends here
    pub stops : (e : TilesEnd) → next_judged s row (leb (length planes₀ / 64) k) ≡ NextTile.ends e → tiles_from row tiles 0 s₀ planes₀ ≡ ended e
    stops e w = one_more ∙ ap (λ (j : NextTile). tiles_by j k s planes rest) (sym judged_at ∙ w)

    -- it goes on
    module _ (w : next_judged s row (leb (length planes₀ / 64) k) ≡ NextTile.works) where
      works : next_judged s row (leb (length planes / 64) k) ≡ NextTile.works
      works = sym judged_at ∙ w

      pub next : {t : LayerState} {planes' : List Float} → t ≡ past_tile s (due_tile s row) → planes' ≡ sets planes (k * 64) (next_plane s row k planes)
          → Going row tiles (k + 1) s₀ t planes₀ planes'
      next {t} {planes'} is are =
          let own-so = own_is g.ready k planes works in
          let here : past_tile s (due_tile s row) ≡ t = sym is in
          let all : sets planes (k * 64) (next_plane s row k planes) ≡ planes' = sym are in
          let one : suc k ≡ k + 1 = sym (add-one k) in
          record {
            ready = rw is (past_ready g.ready k planes works);
            long = ap length are ∙ length-sets planes (k * 64) (next_plane s row k planes) ∙ g.long;
            within = omega (arith, h);
            left_is =
                one_more
                ∙ ap (λ (j : NextTile). tiles_by j k s planes rest) works
                ∙ ap (λ (x : LayerGiven). tiles_from row (tiles - suc k) (suc k) x.state (sets planes (k * 64) x.plane)) own-so
                ∙ (λ i. tiles_from row (tiles - one i) (one i) (here i) (all i));
          }

-- ---- the whole call

-- a state whose next tile is accepted
pub ready : (s : LayerState) (tile : ℤ) (row : List ℕ) (plane : List Float) → work_layer_verdict s tile row plane ≡ pass → Ready s row
ready s tile row plane e =
    let p = work_passed s tile row plane e in
    let a = ltb 8190 s.tile_y in
    let b = ltb 4095 s.to in
    let c = ltb s.next s.from in
    let d = ltb s.to s.next in
    let three = or_left (a || b || c) d p.known in
    let two = or_left (a || b) c three in
    record {
      row_low = ltb-false 8190 s.tile_y (or_left a b two);
      last_low = ltb-false 4095 s.to (or_right a b two);
      begun = ltb-false s.next s.from (or_right (a || b) c three);
      within = ltb-false s.to s.next (or_right (a || b || c) d p.known);
      in_order = p.in_order;
    }

-- what the code's answer tells
pub told_so : {g : TilesGiven} {r : WorkedTiles} {v : Result Unit Refusal} {k : ℕ} {x : Ended} {s : LayerRow} {planes : List Float}
    → g ≡ record { answer = judgement_in v; worked = k; ended = tiles_end_in x; state = layer_state_in s; planes = planes }
    → r ≡ record { answer = v; worked = k; ended = x; state = s } → WorksTiles g r planes
told_so e f =
    record {
      answer = ap (λ (r : WorkedTiles). judgement_in r.answer) f ∙ sym (ap (λ (g : TilesGiven). g.answer) e);
      worked_is = ap (λ (r : WorkedTiles). r.worked) f ∙ sym (ap (λ (g : TilesGiven). g.worked) e);
      ended_is = ap (λ (r : WorkedTiles). tiles_end_in r.ended) f ∙ sym (ap (λ (g : TilesGiven). g.ended) e);
      state_is = ap (λ (r : WorkedTiles). layer_state_in r.state) f ∙ sym (ap (λ (g : TilesGiven). g.state) e);
      planes_are = sym (ap (λ (g : TilesGiven). g.planes) e);
    }

pub works_so : {g h : TilesGiven} {r : WorkedTiles} {back : List Float} → g ≡ h → WorksTiles h r back → WorksTiles g r back
works_so {r = r} {back = back} e w = subst (λ (x : TilesGiven). WorksTiles x r back) (sym e) w

module _ (s : LayerState) (tile : ℤ) (tiles : ℕ) (row : List ℕ) (planes : List Float) where
  -- no tile is asked for
  pub none_asked : tiles ≡ 0 → work_tiles_of s (tiles_choice tile tiles row planes) ≡ record { answer = pass; worked = 0; ended = asked; state = s; planes = planes }
  unfolding tiles_from
  none_asked e = rw e refl

  -- some are: by the verdict of the first
  pub some_asked : (j : Judgement) → (tiles ≡ 0 → ⊥) → work_layer_verdict s tile row planes ≡ j → work_tiles_of s (tiles_choice tile tiles row planes) ≡ tiles_given_by j s (tiles_choice tile tiles row planes)
  some_asked j h e = rw (ne_eqb tiles 0 h, e) refl
