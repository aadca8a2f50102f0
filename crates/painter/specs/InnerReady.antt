-- What the painting of a layer asks of the functions above it, which judge: the row's operations turn everything else down.
use Rattle.std.specs.Prelude.{◌≤◌}
use Rattle.laws.specs.Prelude.{ℕ, List, Float, ℤ, length}
use Rattle.layer_table.specs.Table.{Table}
use Rattle.queue_statements.specs.Queue.{Queued}
use Rattle.tile_layers.specs.InnerWalk.{Walks}

-- what painting asks: a judged queue of n carries, a part that ascends by layer, a judged table, and a plane of 256 numbers
pub record Ready (n : ℕ) (ids : List ℕ) (covers : List ℤ) (part : List ℕ) (words : List ℕ) (floats : List Float) (count : ℕ) (plane : List Float) : Type 0 where
  pub queued : Queued n ids covers
  pub walks : Walks n ids part
  pub table : Table words floats count
  pub room : 256 ≤ length plane
