-- What a survey of a tile's layers promises.
use Rattle.std.specs.Prelude.{◌≡◌, ◌≤◌}
use Rattle.laws.specs.Prelude.{true, List, ℤ, length}
use Rattle.styling.specs.declared.Layer.{Layer}
use Rattle.tile_layers.specs.Listing.{Listed, are_known, are_light}
use Rattle.layer_carrying.specs.Carrying.{HoldsCarries}
use Rattle.layer_listing.specs.declared.Survey as code

-- what a survey of the list tells: how many layers, and whether 8 and 9 do not apply. Where neither 7 nor 9 does, a column holds the carries
pub record Surveyed (table : List Layer) (ls : List Listed) (r : code.Survey) (sums : List ℤ) : Type 0 where
  pub count : r.count ≡ length ls
  pub known : r.known ≡ are_known table ls
  pub light : r.light ≡ are_light ls
  pub carries : length ls ≤ 256 → r.light ≡ true → HoldsCarries ls sums
