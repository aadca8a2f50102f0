-- `search::field_at` meets its contract. Assumes nothing.
use Rattle.std.specs.Prelude.{◌/◌, ◌^◌}
use Rattle.laws.proofs.Prelude.{mod-lt, arith, get_or}
use Rattle.segment_rows.proofs.search.field_at.Goals as goal

pub overflow_cast-result-2 : goal.overflow_cast-result-2
overflow_cast-result-2 c =
    omega (arith, mod-lt (get_or c.args.segments.now c.args.i 0 / 2 ^ c.args.offset) c.requires.1)
