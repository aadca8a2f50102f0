-- `cover_gpu::GpuCover::is_empty` meets its contract. Assumes nothing.
use Rattle.std.specs.Prelude.{◌≡◌}
use Rattle.laws.proofs.Prelude.{arith, rules, length}
use Rattle.cover_gpu.proofs.GpuCover.is_empty.Goals as goal

pub are_empty-requires : goal.are_empty-requires
are_empty-requires c =
    let long : length c.args.self.covers ≡ 4 = search rules in
    omega (arith, long)
