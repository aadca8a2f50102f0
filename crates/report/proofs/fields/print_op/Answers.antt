-- `print_op` meets its contract.
-- Assumes nothing.
use Rattle.laws.proofs.Prelude.{arith}
use Rattle.report.specs.declared.Op.TheVariants.{None, Solid, Paint}
use Rattle.report.proofs.Lines.{op_is}
use Rattle.report.proofs.fields.print_op.Goals as goal

pub returns-in-None : goal.returns-in-None
returns-in-None c = op_is None c.in-None.is (omega arith) c.print_bytes.ensures

pub returns-in-Solid : goal.returns-in-Solid
returns-in-Solid c = op_is Solid c.in-Solid.is (omega arith) c.print_bytes-in-Solid.ensures

pub returns-in-Paint : goal.returns-in-Paint
returns-in-Paint c = op_is Paint c.in-Paint.is (omega arith) c.print_bytes-in-Paint.ensures
