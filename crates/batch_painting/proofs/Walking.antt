-- The shown layers of a tile, painted in one walk: each step is a layer that is painted into the next plane or passed over, and what is left of the
-- walk gives what the whole list gives. Assumes nothing.
use Rattle.std.specs.Prelude.{◌≡◌, ◌∷◌, ◌+◌, ◌*◌, ◌≤◌, ◌<◌}
use Rattle.laws.proofs.Prelude.{ap, sym, ◌∙◌, Bool, true, false, cond, List, [], Option, None, ℕ, arith}
use Rattle.laws.proofs.Prelude.{Float, ℤ, length, take, get_or, sets, over}
use Rattle.styling.specs.declared.Layer.{Layer}
use Rattle.queue_statements.specs.Queue.{Carry, queue_of}
use Rattle.tile_layers.specs.Listing.{layers_in}
use Rattle.painter.specs.Painting.{plane_in}
use Rattle.row_statements.specs.State.{State, state_in, with_clip}
use Rattle.row_statements.specs.Painting.{layer_in}
use Rattle.row_statements.specs.declared.RowState.{RowState}
use Rattle.row_lines.specs.Shown.{shown_in}
use Rattle.listed_painting.specs.InnerWalk.{WalkHolds, PassesOver, CanPaint, PaintsNext, id_in}
use Rattle.listed_painting.specs.declared.PaintWalk.{PaintWalk}
use Rattle.listed_painting.specs.declared.PaintedNext.{PaintedNext}
use Rattle.shown_layers.specs.Counting.{ids_of}
use Rattle.shown_layers.specs.InnerTally.{CountsShown, Walkable}
use Rattle.shown_layers.proofs.Painting.{found_layer}
use Rattle.shown_layers.proofs.Rest.{walk_next_lem, walk_end}
use Rattle.shown_layers.proofs.Tallying.{id_at_lem, ids_long}
use Rattle.batch_statements.specs.BatchLent.{plane_at}
use Rattle.batch_painting.specs.InnerShown.{WalkAt, walk_at, walk_next, walk_from, walk_on, EntryPainted, AllPainted}
use Rattle.batch_painting.specs.declared.PlaneWalk.{PlaneWalk}
use Rattle.batch_painting.proofs.Steps.{painted, walk_one, walk_none, walk_shown, walk_unpainted}

module _ (table : List Layer) (n : ℕ) (ids : List ℕ) (covers : List ℤ) (part : List ℕ) where
  -- ---- one layer

  -- painted: of the plane that came back only what the planes are then is asked
  pub entry_painted : {old plane planes planes' : List Float} {words words' : List ℕ} (t : PlaneWalk) (p : PaintedNext) → CanPaint table (queue_of n ids covers) part t.walk.passed → PaintsNext table n ids covers part t.walk old p plane
      → (plane ≡ over (plane_in (queue_of n ids covers) part (id_in (queue_of n ids covers) part t.walk.passed) (layer_in table (id_in (queue_of n ids covers) part t.walk.passed))) old → planes' ≡ sets planes (t.used * 256) (over (plane_in (queue_of n ids covers) part (id_in (queue_of n ids covers) part t.walk.passed) (layer_in table (id_in (queue_of n ids covers) part t.walk.passed))) (plane_at t.used planes)))
      → words' ≡ sets words (t.used * 2) (p.id ∷ p.mark ∷ [])
      → EntryPainted true table n ids covers part t planes words (record { walk = p.walk; used = t.used + 1; shown = t.shown + 1 }) planes' words'
  entry_painted {old} {plane} {planes} {planes'} {words} {words'} t p can pn into ew =
      let queue = queue_of n ids covers in
      let id = id_in queue part t.walk.passed in
      let q = pn.paints (layer_in table id) (found_layer table id can.known) in
      record {
        holds = pn.holds;
        one_more = pn.one_more;
        walk_is = λ base. painted table queue part (walk_on base t planes words) id q.clip_is q.mark_is (into q.plane_is) (ew ∙ ap (λ (k : ℕ). sets words (t.used * 2) (k ∷ p.mark ∷ [])) pn.id_is);
        used_few = omega arith;
        shown_few = omega arith;
      }

  pub entry_passed : {b : Bool} {planes : List Float} {words : List ℕ} (t : PlaneWalk) (r : PaintWalk) → b ≡ false → PassesOver table n ids covers part t.walk r → EntryPainted b table n ids covers part t planes words (record { walk = r; used = t.used; shown = t.shown }) planes words
  entry_passed {b} {planes} {words} t r e p =
      let queue = queue_of n ids covers in
      record {
        holds = p.holds;
        one_more = p.one_more;
        walk_is =
            λ base.
            ap (λ (c : Option ℕ). record { at = record { state = with_clip base c; used = t.used; planes = planes; painted = words }; shown = t.shown }) p.clip_kept
            ∙ sym (ap (λ (x : Bool). cond x (walk_next true table queue part (walk_on base t planes words) (id_in queue part t.walk.passed)) (walk_on base t planes words)) e);
        used_few = omega arith;
        shown_few = omega arith;
      }

  -- ---- the loop

  module _ (shown : List Bool) (skipped m used : ℕ) (planes₀ : List Float) (words₀ : List ℕ) where
    abbrev begun : State → WalkAt
    begun base = record { at = record { state = with_clip base None; used = used; planes = planes₀; painted = words₀ }; shown = 0 }

    pub record Walked (t : PlaneWalk) (planes : List Float) (words : List ℕ) (i : ℕ) : Type 0 where
      pub holds : WalkHolds table n ids covers part t.walk
      pub past : t.walk.passed ≡ i
      pub few : t.shown ≤ i
      pub room : t.used ≤ used + i
      pub same : (base : State) → walk_from true table (queue_of n ids covers) part (walk_on base t planes words) (shown_in i (take m shown) (ids_of (queue_of n ids covers) part)) ≡ walk_from true table (queue_of n ids covers) part (begun base) (shown_in skipped (take m shown) (ids_of (queue_of n ids covers) part))

    module _ (w : Walkable table (queue_of n ids covers) part shown skipped m) where
      all_ids : length (ids_of (queue_of n ids covers) part) ≡ m
      all_ids = ids_long (queue_of n ids covers) part ∙ sym w.all

      pub walked_next : {t : PlaneWalk} {planes planes' : List Float} {words words' : List ℕ} {i : ℕ} (r : PlaneWalk) → Walked t planes words i → i < m → EntryPainted (get_or shown i false) table n ids covers part t planes words r planes' words' → Walked r planes' words' (i + 1)
      walked_next {t} {planes} {planes'} {words} {words'} {i} r v p e =
          let queue = queue_of n ids covers in
          let here : id_in queue part t.walk.passed ≡ get_or (ids_of queue part) i 0 =
          ap (id_in queue part) v.past ∙ sym (id_at_lem (layers_in queue part) i (omega (arith, p, w.all))) in
          record {
            holds = e.holds;
            past = omega (arith, e.one_more, v.past);
            few = omega (arith, e.shown_few, v.few);
            room = omega (arith, e.used_few, v.room);
            same =
                λ base.
                walk_next_lem (ids_of queue part) shown m i all_ids w.unmasked_long (walk_next true table queue part) (walk_from true table queue part) (walk_one true table queue part) p
                (e.walk_is base ∙ ap (λ (id : ℕ). cond (get_or shown i false) (walk_next true table queue part (walk_on base t planes words) id) (walk_on base t planes words)) here)
                ∙ v.same base;
          }

      pub walked_end : {t : PlaneWalk} {planes : List Float} {words : List ℕ} {i : ℕ} → Walked t planes words i → m ≤ i → AllPainted table (queue_of n ids covers) part (shown_in skipped (take m shown) (ids_of (queue_of n ids covers) part)) used planes₀ words₀ t planes words
      walked_end {t} {planes} {words} {i} v p =
          let queue = queue_of n ids covers in
          record {
            walk_is =
                λ base.
                sym (walk_end (ids_of queue part) shown m i all_ids w.unmasked_long (walk_next true table queue part) (walk_from true table queue part) (walk_none true table queue part) (walk_on base t planes words) p)
                ∙ v.same base;
          }

      -- ---- in a tile that is not painted

      pub not_painted : {paints : Bool} {r : ℕ} (state : RowState) → paints ≡ false → CountsShown (take m shown) skipped m r
          → walk_at (record { state = state; used = used; shown = r }) planes₀ words₀ ≡ walk_from paints table (queue_of n ids covers) part (walk_at (record { state = state; used = used; shown = 0 }) planes₀ words₀) (shown_in skipped (take m shown) (ids_of (queue_of n ids covers) part))
      not_painted {paints} {r} state e c =
          let queue = queue_of n ids covers in
          let due = shown_in skipped (take m shown) (ids_of queue part) in
          let x = walk_at (record { state = state; used = used; shown = 0 }) planes₀ words₀ in
          let many : r ≡ (walk_from false table queue part x due).shown =
          let k = c.count (ids_of queue part) all_ids in let h = walk_shown false table queue part due x in omega (arith, k, h) in
          let stays = walk_unpainted table queue part due x in
          (λ i. record { at = sym stays i; shown = many i })
          ∙ sym (ap (λ (b : Bool). walk_from b table queue part x due) e)

-- ---- a painted tile, from a state without a clip to the one with the clip that the walk left

pub all_painted : {paints : Bool} (table : List Layer) (queue : List Carry) (part ids : List ℕ) (used : ℕ) (planes : List Float) (words : List ℕ) {planes' : List Float} {words' : List ℕ} {t : PlaneWalk} {after : RowState} (state : RowState) → paints ≡ true → state.clip ≡ None
    → after ≡ record { tile_y = state.tile_y; from = state.from; to = state.to; next = state.next; left = state.left; taken = state.taken; clip = t.walk.clip }
    → AllPainted table queue part ids used planes words t planes' words'
    → walk_at (record { state = after; used = t.used; shown = t.shown }) planes' words' ≡ walk_from paints table queue part (walk_at (record { state = state; used = used; shown = 0 }) planes words) ids
all_painted table queue part ids used planes words {planes'} {words'} {t} state e ec ea a =
    ap (λ (x : RowState). walk_at (record { state = x; used = t.used; shown = t.shown }) planes' words') ea
    ∙ a.walk_is (state_in state)
    ∙ sym (ap (λ (c : Option ℕ). walk_from true table queue part (record { at = record { state = with_clip (state_in state) c; used = used; planes = planes; painted = words }; shown = 0 }) ids) ec)
    ∙ sym (ap (λ (b : Bool). walk_from b table queue part (walk_at (record { state = state; used = used; shown = 0 }) planes words) ids) e)
