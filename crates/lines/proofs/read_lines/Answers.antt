-- `read_lines` meets its contract. The invariant and its steps are those of `LinesReading`.
-- Assumes nothing.
use Rattle.laws.proofs.Prelude.{sym, ◌∙◌, arith}
use Rattle.lines.proofs.LinesReading.{no_number, cut, next_line, end}
use Rattle.lines.proofs.read_lines.Goals as goal

pub returns-then-not-starts_number : goal.returns-then-not-starts_number
returns-then-not-starts_number c = no_number c.loop-j.invariant (sym c.starts_number.ensures ∙ c.if-not-starts_number.true)

pub returns-in_err-i : goal.returns-in_err-i
returns-in_err-i c = rw c.from_residual.ensures (cut c.loop-j.invariant (omega arith) (sym c.starts_number.ensures ∙ c.if-not-starts_number.false) c.in_err-i.ensures)

pub loop-j-preserved : goal.loop-j-preserved
loop-j-preserved c = next_line c.loop-j.invariant (omega arith) (sym c.starts_number.ensures ∙ c.if-not-starts_number.false) c.in_ok-i.ensures

pub returns : goal.returns
returns c = end c.loop-j.invariant (omega arith)
