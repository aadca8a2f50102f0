-- How the code walks over a queue and a tile's part in step: what the next layer is. `i` counts the carries that are passed, `j` the segments.
use Rattle.std.specs.Prelude.{◌≡◌, ◌∷◌, ◌+◌, ◌≤◌, ◌<◌}
use Rattle.laws.specs.Prelude.{true, cond, List, ℕ, ℤ, length, drop, get_or}
use Rattle.pixel_segment.specs.Field.{cpu, layer_id_of}
use Rattle.segment_rows.specs.Rows.{Ordered}
use Rattle.segment_rows.specs.Search.{between}
use Rattle.cover_statements.specs.Entry.{cover_entry}
use Rattle.queue_statements.specs.Queue.{queue_of, zeros}
use Rattle.tile_layers.specs.Groups.{groups_of}
use Rattle.tile_layers.specs.Listing.{Listed, list_of}
use Rattle.tile_layers.specs.declared.walk.Next.{Next}

-- what a walk asks: n carries in the queue's columns, and a part that ascends by layer
pub record Walks (n : ℕ) (ids : List ℕ) (part : List ℕ) : Type 0 where
  pub few : n ≤ 256
  pub long : n ≤ length ids
  pub ordered : Ordered (layer_id_of cpu) part

-- the group that begins at place j ends before r
pub record GroupEnds (part : List ℕ) (j r : ℕ) : Type 0 where
  pub further : j < r
  pub within : r ≤ length part
  pub group : groups_of (drop j part) ≡ record { id = layer_id_of cpu (get_or part j 0); own = between j r part } ∷ groups_of (drop r part)

-- the layers that are left
abbrev pub layers_left : ℕ → List ℕ → List ℤ → List ℕ → ℕ → ℕ → List Listed
layers_left n ids covers part i j = list_of (drop i (queue_of n ids covers)) (groups_of (drop j part))

-- the layer that a step finds
abbrev pub listed_at : List ℤ → List ℕ → ℕ → ℕ → Next → Listed
listed_at covers part i j r = record { id = r.id; cover = cond r.carried (cover_entry 16 i covers) zeros; own = between j r.end part }

-- a step: the next layer, and the places after it in the queue and in the part
pub record Stepped (n : ℕ) (ids : List ℕ) (covers : List ℤ) (part : List ℕ) (i j : ℕ) (r : Next) : Type 0 where
  pub next : layers_left n ids covers part i j ≡ listed_at covers part i j r ∷ layers_left n ids covers part r.i r.end

pub record Moved (n : ℕ) (part : List ℕ) (i j : ℕ) (r : Next) : Type 0 where
  pub low_i : i ≤ r.i
  pub high_i : r.i ≤ n
  pub low_j : j ≤ r.end
  pub high_j : r.end ≤ length part
  pub further : i + j < r.i + r.end
  pub has : r.carried ≡ true → i < n
