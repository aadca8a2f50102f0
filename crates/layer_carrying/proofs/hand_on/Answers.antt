-- `hand_on` meets its contract. Assumes nothing.
use Rattle.std.specs.Prelude.{◌≡◌}
use Rattle.laws.proofs.Prelude.{List, ap, ap₂, sym, ◌∙◌, true, not, length}
use Rattle.styling.specs.declared.Layer.{Layer}
use Rattle.cover_statements.specs.Cover.{is_empty}
use Rattle.layer_table.specs.Table.{table_of}
use Rattle.queue_statements.specs.Queue.{Carry, queue_of}
use Rattle.queue_statements.proofs.Columns.{are_wide}
use Rattle.queue_statements.proofs.Queues.{length_queue}
use Rattle.tile_layers.proofs.Steps.{queue_at}
use Rattle.tile_layers.proofs.Wide as wide
use Rattle.layer_carrying.specs.Carrying.{EntryRoom}
use Rattle.layer_carrying.proofs.Handing.{hand_next, hand_end}
use Rattle.layer_carrying.proofs.hand_on.Goals as goal
use Rattle.layer_carrying.proofs.hand_on.Goals.{Start}

abbrev table : Start → List Layer
table s = let a = s.args in table_of a.layers.now a.colors.now a.count

abbrev carries : Start → List Carry
carries s = let a = s.args in queue_of a.n a.ids.now a.sums.now

many : (s : Start) → length (carries s) ≡ s.args.n
many s = let a = s.args in length_queue a.n a.ids.now a.sums.now

are-wide : (s : Start) → are_wide (carries s) ≡ true
are-wide s = let a = s.args in wide.queue_wide a.n a.ids.now a.sums.now s.requires.0.covers_long

room : (s : Start) → EntryRoom (length (carries s)) s.args.next_ids.now s.args.next_covers.now
room s = rw (many s) s.requires.2

pub loop-i-preserved : goal.loop-i-preserved
loop-i-preserved c =
    let l = c.loop-i in
    let e = queue_at c.args.n c.args.ids.now c.args.sums.now l.i c.loop-i-test.true in
    let empty = c.is_empty-keep.ensures ∙ ap₂ is_empty c.rule_of.ensures c.read_cover-sum.ensures in
    hand_next (table (goal.at.loop-i-preserved c).Start) (carries (goal.at.loop-i-preserved c).Start) c.args.next_ids.now c.args.next_covers.now (are-wide (goal.at.loop-i-preserved c).Start) (room (goal.at.loop-i-preserved c).Start) l.invariant e _ _ _ _ (sym (ap not empty))
    (rw c.read_cover-sum.ensures at c.put_carry-m.ensures)

pub returns : goal.returns
returns c = hand_end (table (goal.at.returns c).Start) (carries (goal.at.returns c).Start) c.args.next_ids.now c.args.next_covers.now (are-wide (goal.at.returns c).Start) (room (goal.at.returns c).Start) c.loop-i.invariant (rw (many (goal.at.returns c).Start) c.loop-i-test.false)
