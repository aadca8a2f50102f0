-- `listing::is_known` meets its contract. Assumes nothing.
use Rattle.std.specs.Prelude.{◌≡◌, Option, Some, None}
use Rattle.std.specs.Option.{is_some}
use Rattle.laws.proofs.Prelude.{refl, true, List, ℕ, Float, is_given, ◌∙◌}
use Rattle.styling.specs.Ascending.{strictly_ascends}
use Rattle.layer_table.specs.Table.{table_of, table_ids}
use Rattle.layer_table.specs.Lookup.{lookup, found_of, record_place}
use Rattle.layer_table.proofs.Looking.{at_place, at_none}
use Rattle.layer_listing.proofs.is_known.Goals as goal

-- a place is found where the look-up gives a layer
known : (words : List ℕ) (floats : List Float) (count id : ℕ) (r : Option ℕ) → found_of r ≡ record_place (table_ids words count) id
    → strictly_ascends (table_ids words count) ≡ true → is_some r ≡ is_given (lookup (table_of words floats count) id)
known words floats count id (Some i) f h = rw (at_place {words = words} {floats = floats} {count = count} {id = id} refl f h).looked
known words floats count id None f h = rw (at_none {words = words} {floats = floats} {count = count} {id = id} refl f).looked

pub returns : goal.returns
returns c =
    let a = c.args in
    c.is_some.ensures ∙ known a.layers.now a.colors.now a.count a.id c.find_from.result c.find_from.ensures c.requires.ascending
