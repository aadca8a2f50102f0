-- What the list of tile from + n says of a layer, by the queue that comes in and the whole row. The stored number of a tile is its own plus 1.
use Rattle.std.specs.Prelude.{◌≡◌, ◌+◌}
use Rattle.laws.specs.Prelude.{List, [], ℕ, suc}
use Rattle.pixel_segment.specs.Field.{cpu}
use Rattle.styling.specs.declared.Layer.{Layer}
use Rattle.cover_statements.specs.WholeRow.{part_of}
use Rattle.queue_statements.specs.Queue.{zeros, held_in}
use Rattle.tile_layers.specs.Listing.{Listed}
use Rattle.row_carries.specs.Carries.{queue_after}

-- a listed layer has the cover that the queue holds of it, and its own segments of the tile
pub record ListedIs (table : List Layer) (row : List ℕ) (from n : ℕ) (l : Listed) : Type 0 where
  pub cover_is : l.cover ≡ held_in (queue_after table row from n) l.id
  pub own_is : l.own ≡ part_of cpu (suc (from + n)) l.id row

-- one that is not listed has neither
pub record UnlistedIs (table : List Layer) (row : List ℕ) (from n id : ℕ) : Type 0 where
  pub cover_is : held_in (queue_after table row from n) id ≡ zeros
  pub own_is : part_of cpu (suc (from + n)) id row ≡ []
