-- `editing::start_areas` meets its contract. Assumes nothing.
use Rattle.std.specs.Prelude.{◌%◌}
use Rattle.laws.proofs.Prelude.{◌∙◌, arith, w16, w8, kept}
use Rattle.cover_statements.specs.Cover.{cover_at}
use Rattle.segment_set_statements.proofs.Begins.{next_area, end_areas}
use Rattle.segment_set.proofs.editing.start_areas.Goals as goal

pub loop-k-preserved : goal.loop-k-preserved
loop-k-preserved c =
    next_area c.loop-k.invariant (omega arith)
    (kept w16 c.area_of.result c.area_of.type_inv
    ∙ rw (kept w8 (cover_at c.args.covers (c.loop-k.k % 16)) (omega arith)) at c.area_of.ensures)

pub returns : goal.returns
returns c = end_areas c.loop-k.invariant (omega arith)
