-- `write_refusal` meets its contract: its parts, joined. Assumes nothing.
use Rattle.laws.proofs.Prelude.{arith}
use Rattle.report.proofs.Lines.{refusal_of}
use Rattle.report.proofs.fields.write_refusal.Goals as goal

pub returns : goal.returns
returns c =
    refusal_of c.args.number c.print_bytes-start.ensures c.print_number.ensures.0 (omega (arith, c.print_number.ensures.1, c.print_bytes-start.ensures.answer, c.requires))
