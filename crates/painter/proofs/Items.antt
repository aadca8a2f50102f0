-- After an accepted tile work the table has every listed layer, and the layers that rule over a painted one are all that are listed, as the passes
-- see them. Assumes nothing.
use Rattle.std.specs.Prelude.{◌≡◌}
use Rattle.laws.proofs.Prelude.{ap, true, List, map, is_given, filter_all}
use Rattle.layer_table.specs.Lookup.{lookup}
use Rattle.styling.specs.declared.Layer.{Layer}
use Rattle.tile_layers.specs.Listing.{Listed, are_known}
use Rattle.pass_statements.specs.Item.{items_of}
use Rattle.layer_workbench.specs.Work.{entry_of}
use Rattle.painter.specs.Painting.{items_in}

pub items_known : (table : List Layer) (ls : List Listed) → are_known table ls ≡ true → items_in table ls ≡ items_of table (map (entry_of table) ls)
items_known table ls h = ap (λ (ks : List Listed). items_of table (map (entry_of table) ks)) (filter_all (λ l. is_given (lookup table l.id)) ls h)
