-- `hand_on` meets its contract. Assumes nothing.
use Rattle.std.specs.Prelude.{◌+◌}
use Rattle.laws.proofs.Prelude.{arith}
use Rattle.layer_row_gpu.proofs.hand_on.Goals as goal

pub overflow_add-result : goal.overflow_add-result
overflow_add-result c = omega (arith, c.requires)

pub returns : goal.returns
returns c =
    let a = c.args.state in
    λ i.
    record {
      tile_y = a.tile_y;
      from = a.from;
      to = a.to;
      next = a.next + 1;
      layer = a.layer_id;
      rule = a.rule;
      covers = c.drop_empty-cover.ensures i;
    }
