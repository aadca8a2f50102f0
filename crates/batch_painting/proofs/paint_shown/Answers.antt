-- `paint_shown` meets its contract. Assumes nothing.
use Rattle.layer_table.specs.Table.{table_of}
use Rattle.batch_painting.proofs.Walking.{all_painted, not_painted}
use Rattle.batch_painting.proofs.paint_shown.Goals as goal

pub returns-then-paints : goal.returns-then-paints
returns-then-paints c =
    let a = c.args in
    all_painted _ _ _ _ _ _ _ a.state c.if-paints.true c.requires.3 c.with_clip.ensures c.paint_listed-made.ensures

pub returns-else-paints : goal.returns-else-paints
returns-else-paints c =
    let a = c.args in
    not_painted (table_of a.layers.now a.colors.now a.count) a.n a.ids.now a.covers.now a.part.now a.list_unmasked.now a.skipped a.listed a.used a.planes.now a.painted.now c.requires.1 a.state c.if-paints.false c.count_shown-shown.ensures
