-- `weight::tile::weigh_non_zero` meets its contract. Assumes nothing.
use Rattle.std.specs.Prelude.{◌≡◌, ◌<◌, ◌^◌}
use Rattle.laws.proofs.Prelude.{◌∙◌, arith, pos, mag, get_or, w16, to_z, of_z, kept}
use Rattle.cover_statements.proofs.Mapped.{map_rest, map_next}
use Rattle.weight.proofs.tile.weigh_non_zero.Goals as goal
use Rattle.weight.proofs.tile.weigh_non_zero.Goals.{In-loop-area}

-- the element is still as it was
own : (c : In-loop-area) → let k = c.loop-area.area-index in
    let area = get_or c.loop-area.areas k (pos 0) in
    mag area < 2 ^ 15 → to_z w16 (of_z w16 area) ≡ get_or c.args.areas.now k (pos 0)
own c h =
    kept w16 (get_or c.loop-area.areas c.loop-area.area-index (pos 0)) h
    ∙ map_rest c.loop-area.invariant (pos 0) (omega (arith, c.loop-area.invariant.long))

pub loop-area-preserved : goal.loop-area-preserved
loop-area-preserved c =
    map_next c.loop-area.invariant (pos 0) (omega (arith, c.loop-area.invariant.long))
    (kept w16 c.non_zero.result c.non_zero.type_inv ∙ (rw (own (goal.at.loop-area-preserved c).In-loop-area (omega arith)) at c.non_zero.ensures))
