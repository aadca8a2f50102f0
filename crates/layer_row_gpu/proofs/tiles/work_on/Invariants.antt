use Rattle.std.specs.Prelude.{◌≡◌, ◌/◌}
use Rattle.laws.proofs.Prelude.{length}
use Rattle.layer_row_gpu.specs.LayerState.{layer_state_in}
use Rattle.layer_row_gpu.proofs.Going.{Going}
use Rattle.layer_row_gpu.proofs.tiles.work_on.Given as goal

abbrev pub invariant-loop-k : goal.invariant-loop-k
invariant-loop-k l =
    Going l.row l.tiles l.k (layer_state_in l.initial.state) (layer_state_in l.state) l.initial.planes l.planes × (l.room ≡ length l.initial.planes / 64)
