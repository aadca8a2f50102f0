-- A tile that is not painted has the room for the layers that it mixes. Assumes nothing.
use Rattle.std.specs.Prelude.{◌≡◌, ◌≤◌}
use Rattle.laws.proofs.Prelude.{refl, ap, ◌∙◌, Bool, true, false, List, ℕ, arith, Float, length}
use Rattle.styling.specs.declared.Layer.{Layer}
use Rattle.queue_statements.specs.Queue.{Carry}
use Rattle.pass_statements.specs.Decision.{TileDecision, none, solid, paint}
use Rattle.row_lines.specs.Lines.{is_paint}
use Rattle.batch_statements.specs.Batch.{PlanesAt}
use Rattle.batch_mixing.specs.InnerMixing.{is_solid, MixRoom}
use Rattle.batch_painting.specs.InnerShown.{WalkAt, walk_at, walk_from, PlaneRoom}
use Rattle.batch_painting.specs.declared.Planes.{Planes}
use Rattle.batch_painting.proofs.Steps.{walk_unpainted}

not_painted : (d : TileDecision) → is_solid d ≡ true → is_paint d ≡ false
not_painted none e = refl
not_painted (solid bottom before) e = refl
not_painted paint e = absurd (let z : ◌≡◌ {A = ℕ} 0 1 = cc in omega arith)

pub mix_room : (d : TileDecision) (table : List Layer) (queue : List Carry) (part shown : List ℕ) (r s : Planes) {planes planes' : List Float} {painted painted' ids : List ℕ} {unmasked : List Bool} {skipped listed : ℕ}
    → walk_at r planes' painted' ≡ walk_from (is_paint d) table queue part (walk_at s planes painted) shown → skipped ≤ listed → listed ≤ length ids → listed ≤ length unmasked → PlaneRoom s.used listed planes painted → is_solid d ≡ true
    → MixRoom ids unmasked skipped listed r.used painted'
mix_room d table queue part shown r s {planes} {planes'} {painted} {painted'} e within ids_long unmasked_long room is =
    let at : (walk_at r planes' painted').at ≡ (walk_at s planes painted).at =
    ap (λ (x : WalkAt). x.at) (e ∙ ap (λ (b : Bool). walk_from b table queue part (walk_at s planes painted) shown) (not_painted d is)) ∙ walk_unpainted table queue part shown (walk_at s planes painted) in
    let used : r.used ≡ s.used = ap (λ (p : PlanesAt). p.used) at in
    let long : length painted' ≡ length painted = ap (λ (p : PlanesAt). length p.painted) at in
    record { within = within; ids_long = ids_long; unmasked_long = unmasked_long; words_long = omega (arith, used, long, room.painted_long) }
