-- `plane::paint_part` meets its contract. Assumes nothing.
use Rattle.laws.proofs.Prelude.{false≢true, rules}
use Rattle.cover_statements.proofs.Paintings.{paint_short}
use Rattle.plane.proofs.paint_part.Goals as goal

pub paint_judged-requires : goal.paint_judged-requires
paint_judged-requires c = (search rules, λ e. absurd (false≢true e))

pub returns-then-plane-lt256 : goal.returns-then-plane-lt256
returns-then-plane-lt256 c = paint_short c.if-plane-lt256.true
