-- `passes::decide::run_passes`  meets its contract. Assumes nothing.
use Rattle.layer_table.specs.Table.{table_of}
use Rattle.pass_statements.specs.Entry.{entries_of}
use Rattle.pass_statements.specs.Item.{items_of}
use Rattle.pass_statements.proofs.Deciding.{decided_passed}
use Rattle.passes.proofs.decide.run_passes.Goals as goal

pub returns : goal.returns
returns c =
    let a = c.args in
    decided_passed {items = items_of (table_of a.layers.now a.colors.now a.count) (entries_of a.n a.ids.now a.covers.now a.flags.now)} _ a.clear a.removed
    c.skip_trivial_clips_pass.ensures
    c.decide_unmasked.ensures
