-- The carries of the opposite row, worked from its opening on: those of the row, negated exactly, by either rule; and what follows of its tiles'
-- layers and of what the passes make of them. Assumes nothing.
use Rattle.std.specs.Prelude.{◌≡◌, ◌∷◌, ◌+◌, Option}
use Rattle.laws.proofs.Prelude.{refl, ap, ap₂, ◌∙◌, true, not, List, [], map, ℕ, zero, suc, pos, filter, left, right, filter_map}
use Rattle.pixel_segment.specs.Field.{cpu}
use Rattle.pixel_segment.specs.Opposite.{opposite_of}
use Rattle.pixel_segment.proofs.Opposite.{are_mild, cpu_wide}
use Rattle.segment_rows.specs.Search.{left_part, tile_part}
use Rattle.segment_rows.proofs.Opposite.{left_opposite, tile_opposite, left_mild, tile_mild}
use Rattle.styling.specs.declared.Color.{Color}
use Rattle.styling.specs.declared.Layer.{Layer}
use Rattle.cached_tile.specs.declared.kept.Kept as kept
use Rattle.cover_statements.proofs.Opposite.{carry_opposite, empty_opposite}
use Rattle.queue_statements.specs.Queue.{Carry}
use Rattle.queue_statements.specs.Opening.{open_queue}
use Rattle.queue_statements.specs.Opposite.{opposite_carry}
use Rattle.queue_statements.proofs.Opposite.{open_opposite}
use Rattle.tile_layers.specs.Listing.{Listed, layers_in, is_changed}
use Rattle.tile_layers.proofs.Opposite.{opposite_listed, are_own_mild, layers_opposite, layers_mild, any_opposite}
use Rattle.layer_carrying.specs.Carrying.{rule_in, carry_for, is_carried, handed_on}
use Rattle.pass_statements.specs.Item.{items_of}
use Rattle.pass_statements.specs.Decide.{outcome_of}
use Rattle.pass_statements.specs.Opposite.{opposite_entry}
use Rattle.pass_statements.specs.declared.item.Item.{Item}
use Rattle.pass_statements.proofs.Opposite.{items_opposite}
use Rattle.layer_workbench.specs.Work.{entry_of, clear_unchanged, outcome_by_entries, outcome_in}
use Rattle.cached_tile.specs.Kept.{previous_count}
use Rattle.row_carries.specs.Carries.{queue_after, layers_at}
use Rattle.row_carries.specs.Covering.{items_at}

-- ---- the carries past a tile

carries_opposite : (ls : List Listed) → are_own_mild ls ≡ true → map carry_for (map opposite_listed ls) ≡ map opposite_carry (map carry_for ls)
carries_opposite [] m = refl
carries_opposite (l ∷ ls) m =
    λ i. record { id = l.id; cover = carry_opposite cpu_wide l.own (left (are_mild cpu l.own) (are_own_mild ls) m) 16 l.cover i }
    ∷ carries_opposite ls (right (are_mild cpu l.own) (are_own_mild ls) m) i

handed_opposite : (table : List Layer) (ls : List Listed) → are_own_mild ls ≡ true → handed_on table (map opposite_listed ls) ≡ map opposite_carry (handed_on table ls)
unfolding handed_on
handed_opposite table ls m =
    ap (filter (is_carried table)) (carries_opposite ls m)
    ∙ filter_map opposite_carry (is_carried table) (is_carried table) (λ c. ap not (empty_opposite (rule_in table c.id) c.cover)) (map carry_for ls)

-- ---- what the passes make of a list

entries_opposite : (table : List Layer) (ls : List Listed) → map (entry_of table) (map opposite_listed ls) ≡ map opposite_entry (map (entry_of table) ls)
entries_opposite table [] = refl
entries_opposite table (l ∷ ls) =
    λ i. opposite_entry (record { id = l.id; cover = l.cover; segments = any_opposite l.own i; changed = is_changed table l.id }) ∷ entries_opposite table ls i

pub outcome_opposite : (table : List Layer) (k : kept.Kept) (clear : Color) (previous : Option Color) (ls : List Listed) → outcome_in table k clear previous (map opposite_listed ls) ≡ outcome_in table k clear previous ls
unfolding outcome_by_entries
outcome_opposite table k clear previous ls =
    ap (λ (x : List Item). outcome_of clear (clear_unchanged previous clear) (previous_count k) x)
    (ap (items_of table) (entries_opposite table ls) ∙ items_opposite table (map (entry_of table) ls))

-- ---- along the row

module _ (table : List Layer) (row : List ℕ) (mild : are_mild cpu row ≡ true) (from : ℕ) where
  pub layers_own_mild : (n : ℕ) → are_own_mild (layers_at table row from n) ≡ true
  layers_own_mild n = layers_mild (queue_after table row from n) (tile_part (pos (from + n)) row) (tile_mild row mild (pos (from + n)))

  pub queue_opposite : (n : ℕ) → queue_after table (map (opposite_of cpu) row) from n ≡ map opposite_carry (queue_after table row from n)
  unfolding queue_after
  queue_opposite zero = ap open_queue (left_opposite (pos from) row) ∙ open_opposite (left_part (pos from) row) (left_mild row mild (pos from))
  queue_opposite (suc n) =
      let part = tile_part (pos (from + n)) row in
      ap₂ (λ (q : List Carry) (p : List ℕ). handed_on table (layers_in q p)) (queue_opposite n) (tile_opposite (pos (from + n)) row)
      ∙ ap (handed_on table) (layers_opposite (queue_after table row from n) part)
      ∙ handed_opposite table (layers_in (queue_after table row from n) part) (layers_mild (queue_after table row from n) part (tile_mild row mild (pos (from + n))))

  pub layers_at_opposite : (n : ℕ) → layers_at table (map (opposite_of cpu) row) from n ≡ map opposite_listed (layers_at table row from n)
  layers_at_opposite n =
      ap₂ (λ (q : List Carry) (p : List ℕ). layers_in q p) (queue_opposite n) (tile_opposite (pos (from + n)) row)
      ∙ layers_opposite (queue_after table row from n) (tile_part (pos (from + n)) row)

  pub entries_at_opposite : (n : ℕ) → map (entry_of table) (layers_at table (map (opposite_of cpu) row) from n) ≡ map opposite_entry (map (entry_of table) (layers_at table row from n))
  entries_at_opposite n = ap (map (entry_of table)) (layers_at_opposite n) ∙ entries_opposite table (layers_at table row from n)

  pub items_at_opposite : (n : ℕ) → items_at table (map (opposite_of cpu) row) from n ≡ items_at table row from n
  items_at_opposite n = ap (items_of table) (entries_at_opposite n) ∙ items_opposite table (map (entry_of table) (layers_at table row from n))

  pub outcome_at_opposite : (k : kept.Kept) (clear : Color) (previous : Option Color) (n : ℕ)
      → outcome_in table k clear previous (layers_at table (map (opposite_of cpu) row) from n) ≡ outcome_in table k clear previous (layers_at table row from n)
  outcome_at_opposite k clear previous n = ap (outcome_in table k clear previous) (layers_at_opposite n) ∙ outcome_opposite table k clear previous (layers_at table row from n)
