-- `write_tile` meets its contract: its parts, joined. Assumes nothing.
use Rattle.laws.proofs.Prelude.{arith}
use Rattle.report.proofs.Lines.{line_of}
use Rattle.report.proofs.fields.write_tile.Goals as goal

pub returns : goal.returns
returns c =
    line_of c.args.line c.print_number-tile_end.ensures.0 c.print_op-op_end.ensures.0 c.print_number-listed_end.ensures.0 c.print_number-shown_end.ensures.0
    c.print_number-octets_end.ensures.0 c.print_number.ensures.0
    (omega (
      arith,
      c.print_number-tile_end.ensures.1,
      c.print_op-op_end.ensures.1,
      c.print_number-listed_end.ensures.1,
      c.print_number-shown_end.ensures.1,
      c.print_number-octets_end.ensures.1,
      c.print_number.ensures.1,
      c.requires,
    ))
