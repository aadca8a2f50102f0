use Rattle.layer_table.specs.Table.{table_of}
use Rattle.cover_statements.proofs.Testing.{Testing}
use Rattle.pass_statements.specs.Covered.{is_clip_unchanged}
use Rattle.pass_statements.specs.Entry.{entries_of}
use Rattle.pass_statements.specs.Item.{items_of}
use Rattle.passes.proofs.covered.are_clips_unchanged.Given as goal

abbrev pub invariant-loop-i : goal.invariant-loop-i
invariant-loop-i l = Testing is_clip_unchanged (items_of (table_of l.layers l.colors l.count) (entries_of l.n l.ids l.covers l.flags)) l.n l.ok l.i
