use Rattle.layer_table.specs.Table.{table_of}
use Rattle.pass_statements.specs.Entry.{entries_of}
use Rattle.pass_statements.specs.Item.{items_of}
use Rattle.pass_statements.proofs.Clipping.{Passing}
use Rattle.passes.proofs.clips.skip_trivial_clips_pass.Given as goal

abbrev pub invariant-loop-i : goal.invariant-loop-i
invariant-loop-i l =
    Passing (items_of (table_of l.layers l.colors l.count) (entries_of l.n l.ids l.covers l.flags)) l.n l.initial.unmasked l.initial.unclipped l.unmasked l.unclipped l.cur l.i
