-- `open_tile_row` meets its contract. Assumes nothing.
use Rattle.std.specs.Prelude.{◌≡◌}
use Rattle.laws.proofs.Prelude.{sym, ap, ◌∙◌, arith, w16, SFits, to_z-of_z, sfits, whole}
use Rattle.refusals.specs.Refusal.{judgement_in, pass}
use Rattle.refusals.proofs.Judging.{handed_on}
use Rattle.queue_statements.proofs.Judging.{room}
use Rattle.row_statements.specs.Lent.{Columns, columns, lent_table}
use Rattle.row_statements.specs.Opening.{OpenCall, open_call, open_verdict}
use Rattle.row_statements.proofs.Openings.{Passed, opening_passed, refused_row, opened_row}
use Rattle.row_opening.proofs.open_tile_row.Goals as goal
use Rattle.row_opening.proofs.open_tile_row.Goals.{Start}

-- what the function is called with, and what it is lent
abbrev called : Start → OpenCall
called s = let a = s.args in open_call a.tile_y a.from a.to a.row.now (lent_table a.layers.now a.colors.now a.count)

abbrev lentTo : Start → Columns
lentTo s = columns s.args.ids.now s.args.covers.now

-- where the judge passes, the first tile is a number of 16 signed bits
first_fits : (c : OpenCall) (lent : Columns) → Passed c lent → SFits w16 c.from
first_fits c lent p = sfits w16 c.from (omega (arith, p.ends.first, p.ends.last, whole c.from))

pub overflow_cast-from : goal.overflow_cast-from
overflow_cast-from c =
    let s = (goal.at.overflow_cast-from c).Start in
    let told : judgement_in c.judge_opening.result ≡ open_verdict (called s) (lentTo s) = c.judge_opening.ensures ∙ rw (to_z-of_z c.ranges.tile_y, to_z-of_z c.ranges.from, to_z-of_z c.ranges.to) in
    rw (to_z-of_z c.ranges.from) (first_fits (called s) (lentTo s) (opening_passed (called s) (lentTo s) (sym told ∙ ap judgement_in c.in_ok-judge_opening.was)))

pub open_queue-requires : goal.open_queue-requires
open_queue-requires c =
    let s = (goal.at.open_queue-requires c).Start in
    let told : judgement_in c.judge_opening.result ≡ open_verdict (called s) (lentTo s) = c.judge_opening.ensures ∙ rw (to_z-of_z c.ranges.tile_y, to_z-of_z c.ranges.from, to_z-of_z c.ranges.to) in
    room (opening_passed (called s) (lentTo s) (sym told ∙ ap judgement_in c.in_ok-judge_opening.was)).room

pub returns-in_err-judge_opening : goal.returns-in_err-judge_opening
returns-in_err-judge_opening c =
    let s = (goal.at.returns-in_err-judge_opening c).Start in
    let told : judgement_in c.judge_opening.result ≡ open_verdict (called s) (lentTo s) = c.judge_opening.ensures ∙ rw (to_z-of_z c.ranges.tile_y, to_z-of_z c.ranges.from, to_z-of_z c.ranges.to) in
    rw (handed_on c.from_residual.result c.from_residual.ensures.1) (refused_row (called s) (lentTo s) (sym told ∙ ap judgement_in c.in_err-judge_opening.was))

pub returns : goal.returns
returns c =
    let s = (goal.at.returns c).Start in
    let told : judgement_in c.judge_opening.result ≡ open_verdict (called s) (lentTo s) = c.judge_opening.ensures ∙ rw (to_z-of_z c.ranges.tile_y, to_z-of_z c.ranges.from, to_z-of_z c.ranges.to) in
    let passes : open_verdict (called s) (lentTo s) ≡ pass = sym told ∙ ap judgement_in c.in_ok-judge_opening.was in
    let fits = first_fits (called s) (lentTo s) (opening_passed (called s) (lentTo s) passes) in
    let left = rw (to_z-of_z c.ranges.from, to_z-of_z fits) at c.left_of_tile-left.ensures in
    opened_row (called s) (lentTo s) passes
    (rw left at c.open_queue.ensures)
    (c.opened.ensures ∙ rw (to_z-of_z c.ranges.tile_y, to_z-of_z c.ranges.from, to_z-of_z c.ranges.to))
