-- `layer_table::find_from` meets its contract: a record that is tried and has the id stands in its place, and else the table is searched.
-- Assumes nothing.
use Rattle.layer_table.proofs.Halving.{tried}
use Rattle.layer_table.proofs.find_from.Goals as goal

pub returns-then-is_at : goal.returns-then-is_at
returns-then-is_at c =
    tried c.args.layers.now c.args.count c.args.id c.guess_from-guess.result c.requires.1 c.is_at.ensures c.if-is_at.true

pub returns-then-is_at-2 : goal.returns-then-is_at-2
returns-then-is_at-2 c =
    tried c.args.layers.now c.args.count c.args.id c.loop-at.at c.requires.1 c.is_at-in-loop-at.ensures c.if-is_at-2.true
