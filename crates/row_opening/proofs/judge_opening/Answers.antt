-- `opening::judge_opening` meets its contract: a line for each condition, the lowest first. Assumes nothing.
-- whether the row is in order, as the definition asks it
use Rattle.std.specs.Prelude.{◌≡◌}
use Rattle.laws.proofs.Prelude.{ap, ◌∙◌, ℕ, suc, add-one, to_z-of_z, plus}
use Rattle.pixel_segment.specs.Field.{cpu}
use Rattle.segment_rows.specs.Rows.{is_row}
use Rattle.row_statements.specs.Opening.{open_verdict, has_bad_ends}
use Rattle.row_opening.proofs.judge_opening.Goals as goal
use Rattle.row_opening.proofs.judge_opening.Goals.{After-has_bad_ends, After-is_row}

row_told : (c : After-is_row) → c.is_row.result ≡ is_row cpu (suc (plus c.args.tile_y)) c.args.row.now
row_told c =
    c.is_row.ensures
    ∙ ap (λ (n : ℕ). is_row cpu n c.args.row.now) (add-one c.natural.result ∙ ap suc (c.natural.ensures ∙ ap plus (to_z-of_z c.ranges.tile_y)))

-- whether the ends are out of range
ends-told : (c : After-has_bad_ends) → c.has_bad_ends.result ≡ has_bad_ends c.args.tile_y c.args.from c.args.to
ends-told c =
    c.has_bad_ends.ensures ∙ rw (to_z-of_z c.ranges.tile_y, to_z-of_z c.ranges.from, to_z-of_z c.ranges.to)

pub returns-then-is_short : goal.returns-then-is_short
unfolding open_verdict
returns-then-is_short c = rw (← c.is_short.ensures, ← c.is_short-2.ensures, c.if-is_short.true)

pub returns-then-has_bad_ends : goal.returns-then-has_bad_ends
unfolding open_verdict
returns-then-has_bad_ends c = rw (← c.is_short.ensures, ← c.is_short-2.ensures, c.if-is_short.false, ← ends-told (goal.at.returns-then-has_bad_ends c).After-has_bad_ends, c.if-has_bad_ends.true)

pub returns-then-not-is_row : goal.returns-then-not-is_row
unfolding open_verdict
returns-then-not-is_row c = rw (← c.is_short.ensures, ← c.is_short-2.ensures, c.if-is_short.false, ← ends-told (goal.at.returns-then-not-is_row c).After-has_bad_ends, c.if-has_bad_ends.false, ← row_told (goal.at.returns-then-not-is_row c).After-is_row, c.if-not-is_row.true)

pub returns-then-not-is_table : goal.returns-then-not-is_table
unfolding open_verdict
returns-then-not-is_table c = rw (← c.is_short.ensures, ← c.is_short-2.ensures, c.if-is_short.false, ← ends-told (goal.at.returns-then-not-is_table c).After-has_bad_ends, c.if-has_bad_ends.false, ← row_told (goal.at.returns-then-not-is_table c).After-is_row, c.if-not-is_row.false, ← c.is_table.ensures, c.if-not-is_table.true)

pub returns : goal.returns
unfolding open_verdict
returns c = rw (← c.is_short.ensures, ← c.is_short-2.ensures, c.if-is_short.false, ← ends-told (goal.at.returns c).After-has_bad_ends, c.if-has_bad_ends.false, ← row_told (goal.at.returns c).After-is_row, c.if-not-is_row.false, ← c.is_table.ensures, c.if-not-is_table.false)
