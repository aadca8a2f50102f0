-- `weight::tile::write_even_odd_row` meets its contract. Assumes nothing.
use Rattle.std.specs.Prelude.{◌≡◌, ◌+◌, ◌*◌}
use Rattle.laws.proofs.Prelude.{refl, sym, ap, ◌∙◌, arith, nan, ℤ, pos, get_or, length-map, w16, kept}
use Rattle.styling.specs.declared.FillRule.TheVariants.{EvenOdd}
use Rattle.cover_statements.specs.Coverage.{coverage_of}
use Rattle.cover_statements.specs.Weight.{even_odd_of}
use Rattle.cover_statements.specs.InnerWeighed.{weight_in, weights_of, coverage_in}
use Rattle.cover_statements.proofs.PlaneRows.{row_next}
use Rattle.cover_statements.proofs.Weighings.{map_lt}
use Rattle.weight.proofs.tile.write_even_odd_row.Goals as goal
use Rattle.weight.proofs.tile.write_even_odd_row.Goals.{After-even_odd_in}

-- the doubled area, and its weight
abbrev own : (c : After-even_odd_in) → ℤ
own c =
    get_or c.args.areas.now (c.loop-x.x * 16 + c.args.y) (pos 0)

is : (c : After-even_odd_in) → c.even_odd_in.result ≡ even_odd_of (own c)
is c = rw (kept w16 (own c) (omega arith)) at c.even_odd_in.ensures

pub loop-x-preserved : goal.loop-x-preserved
loop-x-preserved c =
    let k = c.loop-x.x * 16 + c.args.y in
    row_next c.loop-x.invariant (omega arith) refl
    (c.coverage.ensures
    ∙ ap coverage_of (is (goal.at.loop-x-preserved c).After-even_odd_in)
    ∙ sym (map_lt coverage_in (weights_of EvenOdd c.args.areas.now) k nan (pos 0) (omega (arith, length-map c.args.areas.now (weight_in EvenOdd)))
    ∙ ap coverage_in (map_lt (weight_in EvenOdd) c.args.areas.now k (pos 0) (pos 0) (omega arith))))
