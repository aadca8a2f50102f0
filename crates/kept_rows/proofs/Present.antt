-- What a list says of a layer, and what the passes read of it but for its flag. Assumes nothing.
use Rattle.std.specs.Prelude.{◌≡◌, ◌&&◌, ◌∷◌, ◌≤◌}
use Rattle.laws.proofs.Prelude.{refl, sym, ap, ap₂, ◌∙◌, Bool, true, false, cond, not, false≢true, List, [], map, inl, inr, Option}
use Rattle.laws.proofs.Prelude.{Some, None, ℕ, suc, arith, eq-eqb, ne_eqb, eqb-true, eqb, Answer, refused, given}
use Rattle.styling.specs.Ascending.{strictly_ascends_from}
use Rattle.styling.specs.declared.Func.TheVariants.{Clip}
use Rattle.styling.specs.declared.Layer.{Layer}
use Rattle.styling.specs.declared.Props.{Props}
use Rattle.styling.proofs.Ascents.{ascends_head, ascends_tail}
use Rattle.layer_table.specs.Lookup.{lookup}
use Rattle.cover_statements.specs.Cover.{is_full}
use Rattle.tile_layers.specs.Listing.{Listed, is_changed}
use Rattle.tile_layers.proofs.Ordering.{listed_ids}
use Rattle.pass_statements.specs.Entry.{Entry}
use Rattle.pass_statements.specs.Item.{item_from, item_of, items_of}
use Rattle.pass_statements.specs.declared.item.Item.{Item}
use Rattle.pass_statements.proofs.Repainting.{mark_read}
use Rattle.layer_workbench.specs.Work.{entry_of}
use Rattle.two_rows.specs.Apart.{Presence, presence_of, entry_in}
use Rattle.kept_frames.specs.Picture.{unflagged}
use Rattle.kept_frames.specs.Told.{WasListed, Told}
use Rattle.kept_frames.specs.Right.{ListedUnchanged}
use Rattle.kept_rows.specs.Along.{props_by}

-- by the table's properties and the list's word
abbrev pub present_item : Answer Props → Presence → Item
present_item (refused n) p = record { id = p.id; full = false; func = Clip 0; unchanged = true }
present_item (given props) p = record { id = p.id; full = not p.segments && is_full props.fill_rule p.cover; func = props.func; unchanged = true }

item_present : (table : List Layer) (e : Entry) → unflagged (item_of table e) ≡ present_item (props_by (lookup table e.id)) (presence_of e)
item_present table e = by (lookup table e.id)
  where
    by : (a : Answer Layer) → unflagged (item_from a e) ≡ present_item (props_by a) (presence_of e)
    by (refused n) = refl
    by (given l) = refl

-- ---- whom a list has

or_else : Presence → Option Presence → Presence
or_else p None = p
or_else p (Some q) = q

some_is : {p q : Presence} → Some p ≡ Some q → p ≡ q
unfolding or_else
some_is {p} {q} e = ap (or_else p) e

is_some : Option Presence → Bool
is_some None = false
is_some (Some p) = true

not_none : {p : Presence} → None ≡ Some p → ⊥
unfolding is_some
not_none e = false≢true (ap is_some e)

pub was_from : (table : List Layer) (es : List Entry) (id : ℕ) (p : Presence) → entry_in es id ≡ Some p → (x : Item)
    → present_item (props_by (lookup table id)) p ≡ unflagged x → WasListed x (items_of table es)
unfolding entry_in
was_from table [] id p e x h = not_none e
was_from table (d ∷ es) id p e x h = by (eqb d.id id) refl e (λ r. was_from table es id p r x h)
  where
    by : (t : Bool) → eqb d.id id ≡ t → cond t (Some (presence_of d)) (entry_in es id) ≡ Some p → (entry_in es id ≡ Some p → WasListed x (items_of table es))
        → WasListed x (items_of table (d ∷ es))
    by true s q r = inl (item_present table d ∙ ap₂ (λ (i : ℕ) (z : Presence). present_item (props_by (lookup table i)) z) (eqb-true d.id id s) (some_is q) ∙ h)
    by false s q r = inr (r q)

entry_above : (table : List Layer) (ls : List Listed) (low id : ℕ) (p : Presence) → strictly_ascends_from low (listed_ids ls) ≡ true
    → entry_in (map (entry_of table) ls) id ≡ Some p → low ≤ id
unfolding entry_in
entry_above table [] low id p a e = absurd (not_none e)
entry_above table (l ∷ ls) low id p a e = by (eqb l.id id) refl e (entry_above table ls (suc l.id) id p (ascends_tail low l.id (listed_ids ls) a))
  where
    by : (t : Bool) → eqb l.id id ≡ t → cond t (Some (presence_of (entry_of table l))) (entry_in (map (entry_of table) ls) id) ≡ Some p
        → (entry_in (map (entry_of table) ls) id ≡ Some p → suc l.id ≤ id) → low ≤ id
    by true s q r = omega (arith, eqb-true l.id id s, ascends_head low l.id (listed_ids ls) a)
    by false s q r = omega (arith, r q, ascends_head low l.id (listed_ids ls) a)

-- ---- truthful flags, by whom the list has

module _ (before : List Item) (table : List Layer) where
  -- an unchanged layer of the list was listed before
  abbrev pub Founds : List Listed → Type 0
  Founds ls = (id : ℕ) (p : Presence) → entry_in (map (entry_of table) ls) id ≡ Some p → is_changed table id ≡ false → (x : Item) → unflagged x ≡ present_item (props_by (lookup table id)) p → WasListed x before

  unmarked : (l : Listed) → (item_of table (entry_of table l)).unchanged ≡ true → is_changed table l.id ≡ false
  unmarked l u = opposite (is_changed table l.id) (sym (mark_read table (entry_of table l)) ∙ u)
    where
      opposite : (a : Bool) → not a ≡ true → a ≡ false
      opposite true h = sym h
      opposite false h = refl

  pub told_from : (ls : List Listed) (low : ℕ) → strictly_ascends_from low (listed_ids ls) ≡ true → Founds ls
      → Told before (items_of table (map (entry_of table) ls))
  unfolding entry_in
  told_from [] low a h = tt
  told_from (l ∷ ls) low a h = (
    (λ u. h l.id (presence_of (entry_of table l)) here (unmarked l u) (item_of table (entry_of table l)) (item_present table (entry_of table l))),
    told_from ls (suc l.id) tail (λ id p e c x q. h id p (past id p e) c x q),
  )
    where
      tail : strictly_ascends_from (suc l.id) (listed_ids ls) ≡ true
      tail = ascends_tail low l.id (listed_ids ls) a

      here : entry_in (map (entry_of table) (l ∷ ls)) l.id ≡ Some (presence_of (entry_of table l))
      here = rw (eq-eqb l.id l.id refl)

      past : (id : ℕ) (p : Presence) → entry_in (map (entry_of table) ls) id ≡ Some p → entry_in (map (entry_of table) (l ∷ ls)) id ≡ Some p
      past id p e =
          let above = entry_above table ls (suc l.id) id p tail e in
          rw (ne_eqb l.id id (λ q. omega (arith, q, above))) e

  -- a layer that is listed as unchanged is so by the table
  pub listed_unchanged : (ls : List Listed) (id : ℕ) → ListedUnchanged (items_of table (map (entry_of table) ls)) id → is_changed table id ≡ false
  listed_unchanged [] id h = absurd h
  listed_unchanged (l ∷ ls) id (inl (e, u)) = ap (is_changed table) (sym (same_id e)) ∙ unmarked l u
    where
      same_id : (item_of table (entry_of table l)).id ≡ id → l.id ≡ id
      same_id q = sym (ap (λ (x : Item). x.id) (item_present table (entry_of table l)) ∙ id_by (props_by (lookup table l.id))) ∙ q
        where
          id_by : (a : Answer Props) → (present_item a (presence_of (entry_of table l))).id ≡ l.id
          id_by (refused n) = refl
          id_by (given props) = refl
  listed_unchanged (l ∷ ls) id (inr h) = listed_unchanged ls id h
