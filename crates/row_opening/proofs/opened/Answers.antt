-- `opening::opened` meets its contract. Assumes nothing.
use Rattle.laws.proofs.Prelude.{to_z-of_z}
use Rattle.refusals.proofs.Judging.{handed_on}
use Rattle.row_opening.proofs.opened.Goals as goal

pub returns-in_err-left : goal.returns-in_err-left
returns-in_err-left c = rw (c.in_err-left.was, handed_on c.from_residual.result c.from_residual.ensures.1)

pub returns : goal.returns
returns c =
    rw (c.in_ok-left.was, c.natural-4.ensures, c.natural-3.ensures, c.natural-2.ensures, c.natural.ensures, to_z-of_z c.ranges.tile_y, to_z-of_z c.ranges.from, to_z-of_z c.ranges.to)
