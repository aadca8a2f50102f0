-- `write_curve` meets its contract: what is written is the front of the buffer that the text fills. Assumes nothing.
use Rattle.report.proofs.Putting.{front}
use Rattle.curve.proofs.write_curve.Goals as goal

pub returns : goal.returns
returns g c = rw (front c.print_curve-end.ensures) at c.write_all.ensures.bytes
