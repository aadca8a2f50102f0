-- `clips::paint` meets its contract. Assumes nothing.
use Rattle.laws.proofs.Prelude.{refl, rules, leb-true}
use Rattle.layer_table.specs.Table.{layer_at, table_of}
use Rattle.cover_statements.specs.Entry.{cover_entry}
use Rattle.queue_statements.specs.Queue.{queue_of}
use Rattle.cases.proofs.Tile.{ready, painted}
use Rattle.cases.proofs.clips.paint.Goals as goal

pub paint-requires : goal.paint-requires
unfolding table_of layer_at queue_of cover_entry
paint-requires c = (ready _ _ (leb-true 12 12 refl) c.requires.0, c.requires.1.0, c.requires.1.1)

pub returns : goal.returns
returns c = painted _ c.paint.ensures
