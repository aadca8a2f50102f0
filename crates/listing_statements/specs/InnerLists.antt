-- What a lent list says once a tile's layers are written to it, or where other memory holds the same entries.
use Rattle.std.specs.Prelude.{◌≡◌, ◌≤◌}
use Rattle.laws.specs.Prelude.{true, false, List, map, ℕ, length, take}
use Rattle.styling.specs.Ascending.{strictly_ascends}
use Rattle.styling.specs.declared.Layer.{Layer}
use Rattle.queue_statements.specs.Queue.{ids_in}
use Rattle.tile_layers.specs.Listing.{Listed, incoming_of, are_known}
use Rattle.layer_workbench.specs.Work.{entry_of}
use Rattle.listing_statements.specs.Listing.{TileList, entries_from, is_tile_list_short}

-- layers that no refusal of a list turns down: at most 256, ascending, each in the table
pub record Decidable (table : List Layer) (ls : List Listed) : Type 0 where
  pub few : length ls ≤ 256
  pub ascends : strictly_ascends (ids_in (incoming_of ls)) ≡ true
  pub known : are_known table ls ≡ true

-- the first n entries of the list are these layers, marked by the table
pub record ListSays (table : List Layer) (ls : List Listed) (n : ℕ) (l : TileList) : Type 0 where
  pub count : n ≡ length ls
  pub room : is_tile_list_short l ≡ false
  pub ids : take n l.ids ≡ ids_in (incoming_of ls)
  pub entries : entries_from n l ≡ map (entry_of table) ls
