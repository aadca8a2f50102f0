-- `read_front` meets its contract: the first 65,537 bytes of an input decide the job that it is. Assumes nothing.
use Rattle.laws.proofs.Prelude.{arith}
use Rattle.input_front.proofs.Held.{held}
use Rattle.job_front.specs.Front.{input_room}
use Rattle.job_front.proofs.Fronts.{reads_whole}
use Rattle.job_front.proofs.read_front.Goals as goal

pub returns : goal.returns
returns c =
    λ whole h. reads_whole c.read_job.ensures (held input_room h c.front.ensures (omega arith))
