-- The passes read the same of a list and of its opposite: a cover is full where the negated one is. Assumes nothing.
use Rattle.std.specs.Prelude.{◌≡◌, ◌&&◌, ◌∷◌}
use Rattle.laws.proofs.Prelude.{refl, ap₂, not, List, [], map, Answer, refused, given}
use Rattle.cover_statements.proofs.Opposite.{full_opposite}
use Rattle.layer_table.specs.Lookup.{lookup}
use Rattle.styling.specs.declared.Layer.{Layer}
use Rattle.pass_statements.specs.Entry.{Entry}
use Rattle.pass_statements.specs.Item.{item_from, items_of}
use Rattle.pass_statements.specs.Opposite.{opposite_entry}
use Rattle.pass_statements.specs.declared.item.Item.{Item}

item_from_lem : (a : Answer Layer) (e : Entry) → item_from a (opposite_entry e) ≡ item_from a e
item_from_lem (refused n) e = refl
item_from_lem (given l) e =
    λ i. record { id = e.id; full = not e.segments && full_opposite l.props.fill_rule e.cover i; func = l.props.func; unchanged = not e.changed }

pub items_opposite : (table : List Layer) (es : List Entry) → items_of table (map opposite_entry es) ≡ items_of table es
items_opposite table [] = refl
items_opposite table (e ∷ es) = ap₂ (λ (x : Item) (r : List Item). x ∷ r) (item_from_lem (lookup table e.id) e) (items_opposite table es)
