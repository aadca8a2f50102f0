-- `print_head` meets its contract: the names, and then the line. Assumes nothing.
use Rattle.load_text.proofs.Printing.{head_printed}
use Rattle.load_text.proofs.blocks.print_head.Goals as goal

pub returns : goal.returns
returns c =
    head_printed c.args.tiles c.requires.0 c.print_bytes-end.ensures c.head_line-line.ensures c.print_line.ensures.0
