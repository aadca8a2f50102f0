-- `painting::paint` meets its contract: what is judged again is not refused. Assumes nothing.
use Rattle.cover_gpu.proofs.Paintings.{gpu_ok, gpu_plane}
use Rattle.cover_gpu.proofs.painting.paint.Goals as goal

pub unwrap-requires : goal.unwrap-requires
unwrap-requires c = gpu_ok c.paint_judged.ensures c.requires.1 c.requires.0

pub returns : goal.returns
returns c = gpu_plane c.paint_judged.ensures c.requires.1 c.requires.0
