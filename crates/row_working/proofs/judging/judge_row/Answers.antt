-- `judging::judge_row` meets its contract: a line for each condition, the lowest first. Assumes nothing.
-- whether the row is in order, as the definition asks it
use Rattle.std.specs.Prelude.{◌≡◌}
use Rattle.laws.proofs.Prelude.{ap, ◌∙◌, ℕ, suc, add-one, to_z-of_z}
use Rattle.pixel_segment.specs.Field.{cpu}
use Rattle.segment_rows.specs.Rows.{is_row}
use Rattle.row_statements.specs.State.{state_in, is_wrong_next}
use Rattle.row_statements.specs.InnerWork.{judged_by}
use Rattle.row_working.proofs.judging.judge_row.Goals as goal
use Rattle.row_working.proofs.judging.judge_row.Goals.{After-is_row, After-is_wrong_next}

row_told : (c : After-is_row) → c.is_row.result ≡ is_row cpu (suc c.args.state.tile_y) c.args.row.now
row_told c = c.is_row.ensures ∙ ap (λ (n : ℕ). is_row cpu n c.args.row.now) (add-one c.args.state.tile_y)

-- whether the tile is not the next
next-told : (c : After-is_wrong_next) → c.is_wrong_next.result ≡ is_wrong_next (state_in c.args.state) c.args.tile
next-told c = rw (to_z-of_z c.ranges.tile) at c.is_wrong_next.ensures

pub returns-then-short : goal.returns-then-short
unfolding judged_by
returns-then-short c = rw c.if-short.true

pub returns-then-is_wrong_next : goal.returns-then-is_wrong_next
unfolding judged_by
returns-then-is_wrong_next c = rw (c.if-short.false, ← next-told (goal.at.returns-then-is_wrong_next c).After-is_wrong_next, c.if-is_wrong_next.true)

pub returns-then-not-is_row : goal.returns-then-not-is_row
unfolding judged_by
returns-then-not-is_row c = rw (c.if-short.false, ← next-told (goal.at.returns-then-not-is_row c).After-is_wrong_next, c.if-is_wrong_next.false, ← row_told (goal.at.returns-then-not-is_row c).After-is_row, c.if-not-is_row.true)

pub returns-then-not-is_table : goal.returns-then-not-is_table
unfolding judged_by
returns-then-not-is_table c = rw (c.if-short.false, ← next-told (goal.at.returns-then-not-is_table c).After-is_wrong_next, c.if-is_wrong_next.false, ← row_told (goal.at.returns-then-not-is_table c).After-is_row, c.if-not-is_row.false, ← c.is_table.ensures, c.if-not-is_table.true)

pub returns-then-not-is_queue : goal.returns-then-not-is_queue
unfolding judged_by
returns-then-not-is_queue c = rw (c.if-short.false, ← next-told (goal.at.returns-then-not-is_queue c).After-is_wrong_next, c.if-is_wrong_next.false, ← row_told (goal.at.returns-then-not-is_queue c).After-is_row, c.if-not-is_row.false, ← c.is_table.ensures, c.if-not-is_table.false, ← c.is_queue.ensures, c.if-not-is_queue.true)

pub returns : goal.returns
unfolding judged_by
returns c = rw (c.if-short.false, ← next-told (goal.at.returns c).After-is_wrong_next, c.if-is_wrong_next.false, ← row_told (goal.at.returns c).After-is_row, c.if-not-is_row.false, ← c.is_table.ensures, c.if-not-is_table.false, ← c.is_queue.ensures, c.if-not-is_queue.false)
