-- `planes::write_areas` meets its contract. Assumes nothing.
use Rattle.laws.proofs.Prelude.{ap, ◌∙◌, arith, w16, kept}
use Rattle.cover_statements.specs.Cover.{cover_at}
use Rattle.cover_statements.specs.Plane.{in_places}
use Rattle.cover_bounds_statements.proofs.Loops.{place_next, place_end}
use Rattle.cover_bounds.proofs.planes.write_areas.Goals as goal

pub loop-place-preserved : goal.loop-place-preserved
loop-place-preserved c =
    let areas = c.args.areas.now in
    place_next c.loop-place.invariant (omega arith)
    (kept w16 (cover_at areas c.cell.result) (omega arith) ∙ ap (cover_at areas) c.cell.ensures)

pub returns : goal.returns
unfolding in_places
returns c = place_end c.loop-place.invariant (omega arith)
