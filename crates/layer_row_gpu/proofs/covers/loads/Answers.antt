-- `covers::loads` meets its contract. Assumes nothing.
use Rattle.laws.proofs.Prelude.{◌∙◌, arith, w8, kept}
use Rattle.cover_statements.proofs.Loads.{load_next, load_end_by}
use Rattle.layer_row_gpu.proofs.Within.{loads_within}
use Rattle.layer_row_gpu.proofs.covers.loads.Goals as goal

pub loop-word-preserved : goal.loop-word-preserved
loop-word-preserved c =
    load_next c.loop-word.invariant (omega arith) c.local_y-y.ensures (omega arith)
    (rw (kept w8 c.cover_within.result c.cover_within.type_inv, c.cover_within.ensures) at c.raised.ensures)

pub returns : goal.returns
returns c = load_end_by c.loop-word.invariant (omega arith) ∙ loads_within c.args.layer_id c.args.part.now
