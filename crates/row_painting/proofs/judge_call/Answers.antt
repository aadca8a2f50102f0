-- `judge_call` meets its contract. Assumes nothing.
use Rattle.std.specs.Prelude.{◌≡◌}
use Rattle.laws.proofs.Prelude.{ap, ◌∙◌, ℕ, suc, add-one, to_z-of_z}
use Rattle.pixel_segment.specs.Field.{cpu}
use Rattle.segment_rows.specs.Rows.{is_row}
use Rattle.row_statements.specs.State.{state_in, is_wrong_worked}
use Rattle.row_statements.specs.Painting.{call_verdict}
use Rattle.row_painting.proofs.judge_call.Goals as goal
use Rattle.row_painting.proofs.judge_call.Goals.{After-is_row, After-is_wrong_worked}

-- whether the tile is not the one just worked
worked-told : (c : After-is_wrong_worked) → c.is_wrong_worked.result ≡ is_wrong_worked (state_in c.args.state) c.args.tile
worked-told c = rw (to_z-of_z c.ranges.tile) at c.is_wrong_worked.ensures

-- whether the row is in order, as the definition asks it
row_told : (c : After-is_row) → c.is_row.result ≡ is_row cpu (suc c.args.state.tile_y) c.args.row.now
row_told c = c.is_row.ensures ∙ ap (λ (n : ℕ). is_row cpu n c.args.row.now) (add-one c.args.state.tile_y)

pub returns-then-is_paint_short : goal.returns-then-is_paint_short
unfolding call_verdict
returns-then-is_paint_short c = rw (← c.is_paint_short.ensures, c.if-is_paint_short.true)

pub returns-then-is_wrong_worked : goal.returns-then-is_wrong_worked
unfolding call_verdict
returns-then-is_wrong_worked c = rw (← c.is_paint_short.ensures, c.if-is_paint_short.false, ← worked-told (goal.at.returns-then-is_wrong_worked c).After-is_wrong_worked, c.if-is_wrong_worked.true)

pub returns-then-not-is_row : goal.returns-then-not-is_row
unfolding call_verdict
returns-then-not-is_row c = rw (← c.is_paint_short.ensures, c.if-is_paint_short.false, ← worked-told (goal.at.returns-then-not-is_row c).After-is_wrong_worked, c.if-is_wrong_worked.false, ← row_told (goal.at.returns-then-not-is_row c).After-is_row, c.if-not-is_row.true)

pub returns-then-not-is_table : goal.returns-then-not-is_table
unfolding call_verdict
returns-then-not-is_table c = rw (← c.is_paint_short.ensures, c.if-is_paint_short.false, ← worked-told (goal.at.returns-then-not-is_table c).After-is_wrong_worked, c.if-is_wrong_worked.false, ← row_told (goal.at.returns-then-not-is_table c).After-is_row, c.if-not-is_row.false, ← c.is_table.ensures, c.if-not-is_table.true)

pub returns-then-not-is_queue : goal.returns-then-not-is_queue
unfolding call_verdict
returns-then-not-is_queue c = rw (← c.is_paint_short.ensures, c.if-is_paint_short.false, ← worked-told (goal.at.returns-then-not-is_queue c).After-is_wrong_worked, c.if-is_wrong_worked.false, ← row_told (goal.at.returns-then-not-is_queue c).After-is_row, c.if-not-is_row.false, ← c.is_table.ensures, c.if-not-is_table.false, ← c.is_queue.ensures, c.if-not-is_queue.true)

pub returns : goal.returns
unfolding call_verdict
returns c = rw (← c.is_paint_short.ensures, c.if-is_paint_short.false, ← worked-told (goal.at.returns c).After-is_wrong_worked, c.if-is_wrong_worked.false, ← row_told (goal.at.returns c).After-is_row, c.if-not-is_row.false, ← c.is_table.ensures, c.if-not-is_table.false, ← c.is_queue.ensures, c.if-not-is_queue.false)
