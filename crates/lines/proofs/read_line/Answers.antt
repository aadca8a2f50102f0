-- `read_line` meets its contract. The invariant and its steps are those of `LineReading`.
-- Assumes nothing.
use Rattle.laws.proofs.Prelude.{sym, ◌∙◌, arith}
use Rattle.decimal.proofs.Signs.{kept}
use Rattle.lines.proofs.LineReading.{no_number, no_end, other_end, next_field, end}
use Rattle.lines.proofs.read_line.Goals as goal

pub returns-in_err-v : goal.returns-in_err-v
returns-in_err-v c = rw c.from_residual.ensures (no_number c.loop-j.invariant (omega arith) c.in_err-v.ensures)

pub returns-then-s-next : goal.returns-then-s-next
returns-then-s-next c = no_end c.loop-j.invariant (omega arith) c.in_ok-v.ensures (omega arith)

pub returns-then-s-next-2 : goal.returns-then-s-next-2
returns-then-s-next-2 c = other_end c.loop-j.invariant (omega arith) c.in_ok-v.ensures (omega arith) (λ e. c.if-s-next-2.true (e ∙ sym c.end_at.ensures))

pub loop-j-preserved : goal.loop-j-preserved
loop-j-preserved c = let r = c.in_ok-v.ensures in rw (kept _ r.stands.2) (next_field c.loop-j.invariant (omega arith) r (omega arith) (c.if-s-next-2.false ∙ c.end_at.ensures))

pub returns : goal.returns
returns c = end c.loop-j.invariant (omega arith)
