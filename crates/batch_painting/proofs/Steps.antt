-- The shown layers of a tile, one after the other: how many are shown, and that nothing else moves where the tile is not painted. Assumes nothing.
use Rattle.std.specs.Prelude.{◌≡◌, ◌∷◌, ◌+◌, ◌*◌}
use Rattle.laws.proofs.Prelude.{refl, Bool, true, false, List, [], Option, ℕ, arith, Float, length, sets, over}
use Rattle.styling.specs.declared.Layer.{Layer}
use Rattle.queue_statements.specs.Queue.{Carry}
use Rattle.row_statements.specs.State.{with_clip}
use Rattle.row_statements.specs.Painting.{paint_says}
use Rattle.batch_statements.specs.BatchLent.{plane_at}
use Rattle.batch_painting.specs.InnerShown.{WalkAt, walk_next, walk_from}

-- a layer that is painted
pub painted : (table : List Layer) (queue : List Carry) (part : List ℕ) (x : WalkAt) (id : ℕ) {clip : Option ℕ} {mark : ℕ} {planes : List Float} {words : List ℕ}
    → clip ≡ (paint_says table queue part id x.at.state.clip).clip
    → mark ≡ (paint_says table queue part id x.at.state.clip).mark
    → planes ≡ sets x.at.planes (x.at.used * 256) (over (paint_says table queue part id x.at.state.clip).plane (plane_at x.at.used x.at.planes))
    → words ≡ sets x.at.painted (x.at.used * 2) (id ∷ mark ∷ [])
    → record { at = record { state = with_clip x.at.state clip; used = x.at.used + 1; planes = planes; painted = words }; shown = x.shown + 1 } ≡ walk_next true table queue part x id
unfolding walk_next
painted table queue part x id ec em ep ew = rw (ew, em, ec, ep)

pub shown_more : (paints : Bool) (table : List Layer) (queue : List Carry) (part : List ℕ) (x : WalkAt) (id : ℕ) → (walk_next paints table queue part x id).shown ≡ x.shown + 1
unfolding walk_next
shown_more true table queue part x id = refl
shown_more false table queue part x id = refl

pub walk_one : (paints : Bool) (table : List Layer) (queue : List Carry) (part : List ℕ) (x : WalkAt) (id : ℕ) (ids : List ℕ) → walk_from paints table queue part x (id ∷ ids) ≡ walk_from paints table queue part (walk_next paints table queue part x id) ids
unfolding walk_from
walk_one paints table queue part x id ids = refl

pub walk_none : (paints : Bool) (table : List Layer) (queue : List Carry) (part : List ℕ) (x : WalkAt) → walk_from paints table queue part x [] ≡ x
unfolding walk_from
walk_none paints table queue part x = refl

pub walk_shown : (paints : Bool) (table : List Layer) (queue : List Carry) (part ids : List ℕ) (x : WalkAt) → (walk_from paints table queue part x ids).shown ≡ x.shown + length ids
unfolding walk_from
walk_shown paints table queue part [] x = omega arith
walk_shown paints table queue part (id ∷ ids) x =
    let rest = walk_shown paints table queue part ids (walk_next paints table queue part x id) in
    omega (arith, rest, shown_more paints table queue part x id)

-- where the tile is not painted, the planes stay
pub walk_unpainted : (table : List Layer) (queue : List Carry) (part ids : List ℕ) (x : WalkAt) → (walk_from false table queue part x ids).at ≡ x.at
unfolding walk_from walk_next
walk_unpainted table queue part [] x = refl
walk_unpainted table queue part (id ∷ ids) x = walk_unpainted table queue part ids (record { at = x.at; shown = x.shown + 1 })
