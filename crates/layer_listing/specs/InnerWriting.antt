-- What the functions below the list of a tile's layers give: its three columns without marks, and the marks of the layers that a column of ids names.
use Rattle.std.specs.Prelude.{◌≡◌}
use Rattle.laws.specs.Prelude.{Bool, List, ℕ, ℤ, get_or, tabulate, over}
use Rattle.styling.specs.declared.Layer.{Layer}
use Rattle.queue_statements.specs.Queue.{ids_in, covers_in}
use Rattle.tile_layers.specs.Listing.{Listed, incoming_of, segments_of, is_changed}

pub record Writes (ls : List Listed) (oldIds : List ℕ) (oldCovers : List ℤ) (oldFlags : List Bool) (ids : List ℕ) (covers : List ℤ) (flags : List Bool) : Type 0 where
  pub ids_are : ids ≡ over (ids_in (incoming_of ls)) oldIds
  pub covers_are : covers ≡ over (covers_in (incoming_of ls)) oldCovers
  pub flags_are : flags ≡ over (segments_of ls) oldFlags

-- whether each of the first n layers is changed
unfoldable pub marks_for : List Layer → ℕ → List ℕ → List Bool
marks_for table n ids = tabulate n (λ i. is_changed table (get_or ids i 0))
