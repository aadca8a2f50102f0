-- The lists that a caller holds: a list that an accepted listing or work left is its tile's, and each of them is found again. Assumes nothing.
use Rattle.std.specs.Prelude.{◌≡◌, ◌⊎◌, ◌∷◌, ◌+◌, ◌<◌, Option}
use Rattle.laws.proofs.Prelude.{refl, ap, sym, subst, ◌∙◌, inl, inr, false, List, [], map, ℕ, zero, suc, arith, ℤ, pos}
use Rattle.laws.proofs.Prelude.{length, length-map, eq_or_ne}
use Rattle.refusals.specs.Refusal.{pass}
use Rattle.segment_rows.specs.Search.{tile_part}
use Rattle.styling.specs.Ascending.{strictly_ascends}
use Rattle.styling.specs.declared.Color.{Color}
use Rattle.styling.specs.declared.Layer.{Layer}
use Rattle.cached_tile.specs.Kept.{previous_count}
use Rattle.cached_tile.specs.declared.kept.Kept as kept
use Rattle.tile_layers.specs.Groups.{groups_of}
use Rattle.tile_layers.specs.Listing.{Listed}
use Rattle.tile_layers.proofs.Wide.{list_wide}
use Rattle.pass_statements.specs.Item.{item_of}
use Rattle.pass_statements.proofs.Words.{outcome_long}
use Rattle.layer_workbench.specs.Work.{entry_of, outcome_by_entries, outcome_in, clear_unchanged}
use Rattle.row_carries.proofs.Carried.{layers_ascend, queue_wide}
use Rattle.row_statements.specs.TileWork.{list_verdict}
use Rattle.row_statements.specs.Due.{OpenRow, at_first, table_on, queue_on, layers_on, state_on, is_not_due}
use Rattle.row_statements.specs.InnerHolding.{IsOpen}
use Rattle.row_statements.proofs.Works.{is_next, list_passed}
use Rattle.listing_statements.specs.Listing.{TileList, is_tile_list_short, listed_over}
use Rattle.listing_statements.specs.InnerLists.{ListSays}
use Rattle.listing_statements.proofs.Lists.{listed_ids_lem, written}
use Rattle.listing_runs.specs.Run.{HeldList, AmongLists}
use Rattle.listing_runs.specs.InnerHolding.{HoldsList, HoldsLists}

-- a flag for each layer
pub masks_long : (table : List Layer) (k : kept.Kept) (clear : Color) (previous : Option Color) (ls : List Listed) → length (outcome_in table k clear previous ls).unmasked ≡ length ls
unfolding outcome_by_entries
masks_long table k clear previous ls =
    outcome_long clear (clear_unchanged previous clear) (previous_count k) (map (item_of table) (map (entry_of table) ls))
    ∙ length-map (map (entry_of table) ls) (item_of table)
    ∙ length-map ls (entry_of table)

-- ---- the list of the tile from + n, once it is due and its layers pass

module _ {o : OpenRow} (is_open : IsOpen o) (n : ℕ) where
  pub held_list : {tile : ℤ} {count : ℕ} {list : TileList} (old : TileList) → is_not_due o n tile ≡ false → list_verdict (table_on o) (layers_on o n) ≡ pass → is_tile_list_short old ≡ false → count ≡ length (layers_on o n) → list ≡ listed_over (table_on o) (layers_on o n) old → HoldsList o n (record { tile = tile; count = count; list = list })
  held_list {tile} {count} {list} old due passes room many is =
      let l = list_passed (table_on o) (layers_on o n) passes in
      let wide = list_wide (queue_on o n) (groups_of (tile_part (pos (o.from + n)) o.row)) (queue_wide is_open.in_order (table_on o) o.from n) in
      let says = written (table_on o) (layers_on o n) old room l.few wide in
      record {
        tile = (is_next (state_on o (record { tiles = n; clip = at_first.clip })) tile due).is_tile;
        decidable = record { few = l.few; ascends = ap strictly_ascends (listed_ids_lem (layers_on o n)) ∙ layers_ascend is_open.in_order (table_on o) o.from n; known = l.known };
        says = subst (λ (m : ℕ). ListSays (table_on o) (layers_on o n) m list) (sym many) (subst (ListSays (table_on o) (layers_on o n) (length (layers_on o n))) (sym is) says);
      }

-- ---- one of the lists

pub record Found (o : OpenRow) (n : ℕ) (l : HeldList) : Type 0 where
  pub at : ℕ
  pub before : at < n
  pub holds : HoldsList o at l

pub found : {o : OpenRow} (n : ℕ) (ls : List HeldList) {l : HeldList} → HoldsLists o n ls → AmongLists l ls → Found o n l
found zero [] h a = absurd a
found zero (m ∷ ls) h a = absurd h
found (suc n) [] h a = absurd a
found {o} (suc n) (m ∷ ls) h (inl e) = record { at = n; before = omega arith; holds = subst (HoldsList o n) (sym e) h.0 }
found {o} (suc n) (m ∷ ls) h (inr a) =
    let f = found n ls h.1 a in
    record { at = f.at; before = omega (arith, f.before); holds = f.holds }

-- the list of a tile that is past
pub record PastList (o : OpenRow) (m : ℕ) (ls : List HeldList) : Type 0 where
  pub held : HeldList
  pub among : AmongLists held ls
  pub holds : HoldsList o m held

pub past_list : {o : OpenRow} (n : ℕ) (ls : List HeldList) (m : ℕ) → HoldsLists o n ls → m < n → PastList o m ls
past_list zero ls m h b = absurd (omega arith)
past_list (suc n) [] m h b = absurd h
past_list {o} (suc n) (l ∷ ls) m h b = by (eq_or_ne m n) (λ less. past_list n ls m h.1 less)
  where
    by : (m ≡ n) ⊎ (m ≡ n → ⊥) → (m < n → PastList o m ls) → PastList o m (l ∷ ls)
    by (inl e) below = record { held = l; among = inl refl; holds = subst (λ (k : ℕ). HoldsList o k l) (sym e) h.0 }
    by (inr d) below =
        let f = below (omega (arith, d)) in
        record { held = f.held; among = inr f.among; holds = f.holds }
