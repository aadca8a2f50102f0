-- `print_tile` meets its contract: there is room for the longest line. Assumes nothing.
use Rattle.row_printing.proofs.Placing.{tile_placed}
use Rattle.row_printing.proofs.print_tile.Goals as goal

pub returns : goal.returns
returns c =
    tile_placed c.args.told.now c.args.i c.args.tile c.print_tile.ensures c.tile_in.ensures c.unwrap_or.ensures c.ranges.tile c.type_inv.told c.requires.1
