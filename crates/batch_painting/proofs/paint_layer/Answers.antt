-- `paint_layer` meets its contract. Assumes nothing.
use Rattle.laws.proofs.Prelude.{arith}
use Rattle.layer_table.specs.Table.{table_of}
use Rattle.batch_painting.proofs.Stores.{put_plane}
use Rattle.batch_painting.proofs.Walking.{entry_painted}
use Rattle.batch_painting.proofs.paint_layer.Goals as goal

pub returns : goal.returns
returns c =
    let a = c.args in
    let p = c.paint_next-made in
    entry_painted (table_of a.layers.now a.colors.now a.count) a.n a.ids.now a.covers.now a.part.now a.at p.result c.requires.2 p.ensures
    (λ e. put_plane a.at.used a.planes.now _ _ (omega (arith, c.requires.3.planes_long)) e p.auto.plane)
    c.put_words.ensures
