-- `print_bytes` meets its contract.
-- Assumes nothing.
use Rattle.report.proofs.Copying.{copied}
use Rattle.report.proofs.fields.print_bytes.Goals as goal

pub returns : goal.returns
returns c = copied c.requires c.copy_from_slice.ensures.after
