-- The list that three lent columns and a table are: its length and its items. Assumes nothing.
use Rattle.std.specs.Prelude.{◌≡◌, ◌∷◌, ◌+◌, ◌*◌, ◌≤◌, ◌<◌}
use Rattle.laws.proofs.Prelude.{sym, ap, ◌∙◌, Bool, false, not, List, ℕ, suc, arith, ℤ, pos, length, get_or, drop}
use Rattle.laws.proofs.Prelude.{tabulate, is_tabulate, length_tabulate, get_d_tabulate, given, refused}
use Rattle.cover_statements.specs.Entry.{cover_entry}
use Rattle.cover_statements.proofs.Entries.{entry_length, entry_at_lem}
use Rattle.styling.specs.declared.Layer.{Layer}
use Rattle.styling.specs.declared.Func.TheVariants.{Clip}
use Rattle.layer_table.specs.Lookup.{lookup}
use Rattle.layer_table.proofs.Listed.{map_tabulate, drop_tabulate}
use Rattle.pass_statements.specs.Entry.{Entry, cover_from, entry_at, entries_of}
use Rattle.pass_statements.specs.Covered.{item_at}
use Rattle.pass_statements.specs.Item.{item_for, item_of, items_of}
use Rattle.pass_statements.specs.declared.item.Item.{Item}

-- the cover of an entry, as `read_cover` gives it
pub cover_entry_lem : (covers : List ℤ) (i : ℕ) → i * 16 + 16 ≤ length covers → cover_from covers i ≡ cover_entry 16 i covers
unfolding cover_from
cover_entry_lem covers i h =
    sym
    (is_tabulate 16 (λ y. get_or covers (16 * i + y) (pos 0)) (pos 0) (cover_entry 16 i covers) (entry_length 16 i covers h)
    (λ y p. entry_at_lem 16 i covers y p ∙ ap (λ (k : ℕ). get_or covers k (pos 0)) (omega arith)))

-- ---- the item of an entry: its layer is found in the table, or missing

module _ (table : List Layer) (e : Entry) where
  pub item_found : {x : Item} {l l' : Layer} {cover : List ℤ} → x ≡ item_for l (record { id = e.id; cover = cover; segments = e.segments; changed = e.changed }) → l ≡ l' → cover ≡ e.cover → lookup table e.id ≡ given l' → x ≡ item_of table e
  item_found px pl pc h = rw (h, px, pl, pc)

  pub item_missing : lookup table e.id ≡ refused 8 → record { id = e.id; full = false; func = Clip 0; unchanged = not e.changed } ≡ item_of table e
  item_missing h = rw h

-- ---- the items of n entries

module _ (table : List Layer) (n : ℕ) (ids : List ℕ) (covers : List ℤ) (flags : List Bool) where
  -- the item in place i
  abbrev pub item_in : ℕ → Item
  item_in i = item_of table (entry_at ids covers flags i)

  items_tabulated : items_of table (entries_of n ids covers flags) ≡ tabulate n item_in
  unfolding entries_of
  items_tabulated = map_tabulate (item_of table) n (entry_at ids covers flags)

  pub length_items : length (items_of table (entries_of n ids covers flags)) ≡ n
  length_items = ap length items_tabulated ∙ length_tabulate n item_in

  pub item_in_lem : (d : Item) (i : ℕ) → i < n → get_or (items_of table (entries_of n ids covers flags)) i d ≡ item_in i
  item_in_lem d i h = ap (λ (xs : List Item). get_or xs i d) items_tabulated ∙ get_d_tabulate n item_in d i h

  -- an item that was read is the one in its place
  pub item_read : {x : Item} (i : ℕ) → i < n → x ≡ item_in i → x ≡ item_at (items_of table (entries_of n ids covers flags)) i
  item_read i h e = e ∙ sym (item_in_lem _ i h)

  -- what is left of the list, an item at a time
  pub drop_items : (i : ℕ) → i < n → drop i (items_of table (entries_of n ids covers flags)) ≡ item_in i ∷ drop (suc i) (items_of table (entries_of n ids covers flags))
  drop_items i h = rw items_tabulated (drop_tabulate n item_in i h)
