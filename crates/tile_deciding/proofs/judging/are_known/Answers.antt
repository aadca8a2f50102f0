-- `judging::are_known` meets its contract. Assumes nothing.
use Rattle.laws.proofs.Prelude.{arith}
use Rattle.tile_deciding.proofs.Meeting.{meet_next, meet_end}
use Rattle.tile_deciding.proofs.judging.are_known.Goals as goal

pub loop-p-preserved : goal.loop-p-preserved
loop-p-preserved c =
    meet_next c.requires.0.ascending c.requires.1 c.requires.2 c.loop-p.invariant (omega arith) (rw c.id_at.ensures at c.past_met-i.ensures)

pub returns : goal.returns
returns c =
    meet_end c.requires.0.ascending c.requires.1 c.requires.2 c.loop-p.invariant (omega arith)
