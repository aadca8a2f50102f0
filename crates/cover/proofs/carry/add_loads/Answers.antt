-- `cover::carry::add_loads` meets its contract. Assumes nothing.
use Rattle.laws.proofs.Prelude.{arith, w8, kept}
use Rattle.pixel_segment.specs.Field.{cpu}
use Rattle.cover_statements.proofs.Loads.{load_next, load_end}
use Rattle.cover.proofs.carry.add_loads.Goals as goal

pub loop-word-preserved : goal.loop-word-preserved
loop-word-preserved c =
    load_next c.loop-word.invariant (omega arith) c.local_y-y.ensures (omega arith)
    (rw (kept w8 c.cover.result c.cover.type_inv, c.cover.ensures) at c.raised-load.ensures)

pub returns : goal.returns
returns c = load_end cpu c.loop-word.invariant (omega arith)
