-- `covers::sum` meets its contract. Assumes nothing.
use Rattle.laws.proofs.Prelude.{◌∙◌, arith, pos, get_or, length-replicate, to_z-of_z, w8, small, kept}
use Rattle.cover_statements.proofs.Tables.{fill_start, fill_next, fill_fits, fill_end}
use Rattle.layer_row_gpu.proofs.Within.{covers_within, within_light}
use Rattle.layer_row_gpu.proofs.covers.sum.Goals as goal

pub loop-word-init : goal.loop-word-init
loop-word-init c = fill_start (length-replicate 4 (pos 0)) (within_light c.args.layer_id c.args.part.now c.requires)

pub overflow_add-covers : goal.overflow_add-covers
overflow_add-covers c =
    rw (kept w8 (get_or c.loop-word.covers c.local_y-y.result (pos 0)) (omega arith), kept w8 c.cover_within.result c.cover_within.type_inv, c.cover_within.ensures)
    (small w8 _ (omega (arith, fill_fits c.loop-word.invariant (omega arith) (omega arith) c.local_y-y.ensures)))

pub loop-word-preserved : goal.loop-word-preserved
loop-word-preserved c =
    fill_next c.loop-word.invariant (omega arith) (omega arith) c.local_y-y.ensures
    (rw (to_z-of_z (overflow_add-covers c), kept w8 (get_or c.loop-word.covers c.local_y-y.result (pos 0)) (omega arith), kept w8 c.cover_within.result c.cover_within.type_inv, c.cover_within.ensures))

pub returns : goal.returns
returns c = fill_end c.loop-word.invariant (omega arith) ∙ covers_within c.args.layer_id c.args.part.now
