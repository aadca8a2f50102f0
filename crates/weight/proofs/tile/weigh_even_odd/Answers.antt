-- `weight::tile::weigh_even_odd` meets its contract. Assumes nothing.
use Rattle.std.specs.Prelude.{◌≡◌}
use Rattle.laws.proofs.Prelude.{ap, ◌∙◌, arith, ℤ, pos, get_or, to_z_pos, w16, kept}
use Rattle.styling.specs.declared.FillRule.TheVariants.{EvenOdd}
use Rattle.cover_statements.specs.Weight.{even_odd_of}
use Rattle.cover_statements.proofs.Mapped.{map_rest, map_next}
use Rattle.cover_statements.proofs.Weights.{weight_le}
use Rattle.weight.proofs.tile.weigh_even_odd.Goals as goal
use Rattle.weight.proofs.tile.weigh_even_odd.Goals.{After-even_odd_in}

-- the element, which is still as it was, and its weight
abbrev own : (c : After-even_odd_in) → ℤ
own c = get_or c.args.areas.now c.loop-area.area-index (pos 0)

is : (c : After-even_odd_in) → c.even_odd_in.result ≡ even_odd_of (own c)
is c =
    rw (
      kept w16 (get_or c.loop-area.areas c.loop-area.area-index (pos 0)) (omega arith),
      map_rest c.loop-area.invariant (pos 0) (omega (arith, c.loop-area.invariant.long)),
    ) at c.even_odd_in.ensures

pub loop-area-preserved : goal.loop-area-preserved
loop-area-preserved c =
    map_next c.loop-area.invariant (pos 0) (omega (arith, c.loop-area.invariant.long))
    (to_z_pos w16 (omega (arith, is c, weight_le EvenOdd (own c))) ∙ ap pos (is c))
