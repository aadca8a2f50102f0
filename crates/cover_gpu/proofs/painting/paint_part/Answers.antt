-- `painting::paint_part` meets its contract. Assumes nothing.
use Rattle.cover_gpu.proofs.Paintings.{gpu_short}
use Rattle.cover_gpu.proofs.painting.paint_part.Goals as goal

pub returns-then-plane-lt64 : goal.returns-then-plane-lt64
returns-then-plane-lt64 c = gpu_short c.if-plane-lt64.true
