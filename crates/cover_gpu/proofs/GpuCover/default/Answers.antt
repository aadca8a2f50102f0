-- `GpuCover::default` meets its contract. Assumes nothing.
use Rattle.laws.proofs.Prelude.{refl}
use Rattle.cover_statements.specs.Cover.{no_cover}
use Rattle.cover_gpu.proofs.GpuCover.default.Goals as goal

pub returns : goal.returns
unfolding no_cover
returns c = refl
