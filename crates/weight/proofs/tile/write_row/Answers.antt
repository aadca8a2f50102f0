-- `weight::tile::write_row` meets its contract. Assumes nothing.
use Rattle.laws.proofs.Prelude.{refl, sym, ap, ◌∙◌, List, arith, Float, nan, pos, get_or, length-map, w16, kept, is_tabulate}
use Rattle.cover_statements.specs.InnerWeighed.{coverage_in, coverages_in, put_row}
use Rattle.cover_statements.proofs.PlaneRows.{row_next, row_end_step}
use Rattle.cover_statements.proofs.Weighings.{map_lt}
use Rattle.weight.proofs.tile.write_row.Goals as goal

pub loop-x-preserved : goal.loop-x-preserved
loop-x-preserved c =
    row_next c.loop-x.invariant (omega arith) refl
    ((rw (kept w16 (get_or c.args.row.now c.loop-x.x (pos 0)) (omega arith)) at c.coverage.ensures)
    ∙ sym (map_lt coverage_in c.args.row.now c.loop-x.x nan (pos 0) (omega (arith, c.requires.1))))

-- the coverages of the row are what the row of the plane is drawn from
pub returns : goal.returns
returns c =
    row_end_step c.loop-x.invariant (omega arith)
    ∙ ap (λ (r : List Float). put_row c.args.y r c.args.plane.now)
    (sym (is_tabulate 16 (λ x. get_or (coverages_in c.args.row.now) x nan) nan (coverages_in c.args.row.now) (length-map c.args.row.now coverage_in ∙ c.requires.1) (λ x p. refl)))
