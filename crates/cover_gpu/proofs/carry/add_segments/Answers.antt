-- `carry::add_segments` meets its contract. Assumes nothing.
use Rattle.laws.proofs.Prelude.{arith, rules, pos, get_or, to_z-of_z, w8, small, kept}
use Rattle.cover_statements.specs.Carry.{carry_of}
use Rattle.cover_statements.proofs.Carries.{light}
use Rattle.cover_statements.proofs.Tables.{fill_start, fill_next, fill_fits, fill_end}
use Rattle.cover_gpu.proofs.carry.add_segments.Goals as goal

pub loop-word-init : goal.loop-word-init
loop-word-init c = fill_start (search rules) (light c.requires).at

pub overflow_add-covers : goal.overflow_add-covers
overflow_add-covers c =
    rw (kept w8 (get_or c.loop-word.covers c.local_y-y.result (pos 0)) (omega arith), kept w8 c.cover.result c.cover.type_inv, c.cover.ensures)
    (small w8 _ (omega (arith, fill_fits c.loop-word.invariant (omega arith) (omega arith) c.local_y-y.ensures)))

pub loop-word-preserved : goal.loop-word-preserved
loop-word-preserved c =
    fill_next c.loop-word.invariant (omega arith) (omega arith) c.local_y-y.ensures
    (rw (to_z-of_z (overflow_add-covers c), kept w8 (get_or c.loop-word.covers c.local_y-y.result (pos 0)) (omega arith), kept w8 c.cover.result c.cover.type_inv, c.cover.ensures))

pub returns : goal.returns
unfolding carry_of
returns c = fill_end c.loop-word.invariant (omega arith)
