-- What the passes read of a listed layer. A layer is full in a tile where it has no segment there and its incoming cover is full by its rule
-- (`layer_is_full` of the Rust). It is unchanged where its entry says so: the table's own word plays no part here (W-208).
use Rattle.std.specs.Prelude.{◌&&◌, ◌+◌, ◌*◌, ◌≤◌}
use Rattle.laws.specs.Prelude.{Bool, false, not, List, map, ℕ, ℤ, length, Answer, refused, given}
use Rattle.cover_statements.specs.Cover.{is_full}
use Rattle.layer_table.specs.Lookup.{lookup}
use Rattle.styling.specs.declared.Layer.{Layer}
use Rattle.styling.specs.declared.Func.TheVariants.{Clip}
use Rattle.pass_statements.specs.Entry.{Entry}
use Rattle.pass_statements.specs.declared.item.Item.{Item}

-- the layer l as it is listed in the entry e
abbrev pub item_for : Layer → Entry → Item
item_for l e =
    record {
      id = e.id;
      full = not e.segments && is_full l.props.fill_rule e.cover;
      func = l.props.func;
      unchanged = not e.changed;
    }

-- the layer of an entry by the table. Refusal 8 keeps out a list with a layer that the table lacks
abbrev pub item_from : Answer Layer → Entry → Item
item_from (refused n) e = record { id = e.id; full = false; func = Clip 0; unchanged = not e.changed }
item_from (given l) e = item_for l e

abbrev pub item_of : List Layer → Entry → Item
item_of table e = item_from (lookup table e.id) e

abbrev pub items_of : List Layer → List Entry → List Item
items_of table entries = map (item_of table) entries

-- ---- what functions over the lent columns ask: n entries, and a judged table

pub record EntryColumns (n : ℕ) (ids : List ℕ) (covers : List ℤ) (flags : List Bool) : Type 0 where
  pub few : n ≤ 256
  pub ids_long : n ≤ length ids
  pub covers_long : 16 * n ≤ length covers
  pub flags_long : 256 + n ≤ length flags
