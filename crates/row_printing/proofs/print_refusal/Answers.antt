-- `print_refusal` meets its contract: there is room. Assumes nothing.
use Rattle.row_printing.proofs.Placing.{refusal_long, placed_in}
use Rattle.row_printing.proofs.print_refusal.Goals as goal

pub returns : goal.returns
returns c =
    placed_in c.print_refusal.ensures 19 c.unwrap_or.ensures (refusal_long c.args.number c.ranges.number) c.requires
