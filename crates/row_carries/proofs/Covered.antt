-- A layer that is passed over as covered lies under one that hides it, by the whole row. Assumes nothing.
use Rattle.std.specs.Prelude.{◌≡◌, ◌∷◌, ◌<◌, Option}
use Rattle.laws.proofs.Prelude.{refl, sym, ap, ap₂, ◌∙◌, true, false, false≢true, List, [], map, ℕ, arith, length, get_or, length-map}
use Rattle.laws.proofs.Prelude.{Answer, refused, given}
use Rattle.layer_table.specs.Lookup.{lookup}
use Rattle.styling.specs.Style.{is_opaque}
use Rattle.styling.specs.declared.Color.{Color}
use Rattle.styling.specs.declared.Func.{Func}
use Rattle.styling.specs.declared.Func.TheVariants.{Draw, Clip}
use Rattle.styling.specs.declared.Layer.{Layer}
use Rattle.tile_layers.specs.Listing.{no_listed, Listed}
use Rattle.tile_layers.proofs.Ordering.{listed_ids}
use Rattle.pass_statements.specs.Clips.{is_clip}
use Rattle.pass_statements.specs.Covered.{item_at}
use Rattle.pass_statements.specs.Decide.{Outcome}
use Rattle.pass_statements.specs.Entry.{Entry}
use Rattle.pass_statements.specs.Item.{item_from, item_of, items_of}
use Rattle.pass_statements.specs.Rules.{needs_clip, is_ascending, Over}
use Rattle.pass_statements.specs.declared.item.Item.{Item}
use Rattle.pass_statements.proofs.Words.{covered}
use Rattle.cached_tile.specs.Kept.{previous_count}
use Rattle.cached_tile.specs.declared.kept.Kept as kept
use Rattle.layer_workbench.specs.Work.{entry_of, clear_unchanged, outcome_by_entries, outcome_in}
use Rattle.row_carries.specs.Carries.{InOrder, layers_at}
use Rattle.row_carries.specs.Covering.{items_at, listed_id_at, CoveredUnder}
use Rattle.row_carries.proofs.Carried.{layers_ascend}
use Rattle.row_carries.proofs.Planes.{item_listed, full_ones}

-- ---- the ids of items

item_id : (a : Answer Layer) (e : Entry) → (item_from a e).id ≡ e.id
item_id (refused n) e = refl
item_id (given l) e = refl

item_ids : (table : List Layer) (ls : List Listed) → map (λ x. x.id) (items_of table (map (entry_of table) ls)) ≡ listed_ids ls
item_ids table [] = refl
item_ids table (l ∷ ls) = ap₂ ◌∷◌ (item_id (lookup table l.id) (entry_of table l)) (item_ids table ls)

opaque_draws : (f : Func) → is_opaque f ≡ true → is_clip f ≡ false
opaque_draws (Draw style) h = refl
opaque_draws (Clip span) h = absurd (false≢true h)

-- ---- in tile from + n

module _ {ty : ℕ} {row : List ℕ} (r : InOrder ty row) (table : List Layer) (from : ℕ) where
  -- the passes see an ascending list
  pub items_ascend : (n : ℕ) → is_ascending (items_at table row from n) ≡ true
  items_ascend n = rw (item_ids table (layers_at table row from n)) (layers_ascend r table from n)

  pub item_at_id : (n p : ℕ) → p < length (layers_at table row from n) → (item_at (items_at table row from n) p).id ≡ listed_id_at table row from n p
  item_at_id n p h =
      ap (λ (x : Item). x.id) (item_listed table (layers_at table row from n) p h)
      ∙ item_id (lookup table (listed_id_at table row from n p)) (entry_of table (get_or (layers_at table row from n) p no_listed))

  hidden : (n i p : ℕ) (o : Outcome) → i < p → p ≡ o.skipped → Over (items_at table row from n) o.unmasked i p → CoveredUnder table row from n o i
  hidden n i p o h s c =
      let ls = layers_at table row from n in
      let items = items_at table row from n in
      let many : length items ≡ length ls = length-map (map (entry_of table) ls) (item_of table) ∙ length-map ls (entry_of table) in
      let over = c.covers in
      let at : p < length ls = rw (← many) over.listed in
      record {
        place = p;
        listed = at;
        not_skipped = omega (arith, s);
        is_unmasked = over.is_unmasked;
        above = rw (← item_at_id n i (omega arith), ← item_at_id n p at) c.above;
        draws = opaque_draws (item_at items p).func over.opaque;
        opaque = over.opaque;
        unclipped = ap (needs_clip items (item_at items p).func) (sym (item_at_id n p at)) ∙ over.unclipped;
        ones = full_ones r table from n p at over.full;
      }

  pub covered_under : (n : ℕ) (k : kept.Kept) (clear : Color) (previous : Option Color) (i : ℕ) → i < (outcome_in table k clear previous (layers_at table row from n)).skipped → CoveredUnder table row from n (outcome_in table k clear previous (layers_at table row from n)) i
  unfolding outcome_by_entries
  covered_under n k clear previous i h =
      let items = items_at table row from n in
      let o = outcome_in table k clear previous (layers_at table row from n) in
      hidden n i o.skipped o h refl (covered items (items_ascend n) clear (clear_unchanged previous clear) (previous_count k) i h)
