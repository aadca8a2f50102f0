-- The claims of specs/Marked; the frames are computed. Assumes nothing.
use Rattle.std.specs.Prelude.{◌≡◌, ◌∷◌, Option}
use Rattle.laws.proofs.Prelude.{refl, ap, ap₂, Bool, true, false, cond, List, [], map, ℕ, eqb, eq, of_bits, Answer, refused, given}
use Rattle.cover_statements.specs.Cover.{is_full}
use Rattle.styling.specs.declared.Color.{Color}
use Rattle.styling.specs.declared.Layer.{Layer}
use Rattle.layer_table.specs.Lookup.{lookup}
use Rattle.cached_tile.specs.Kept.{previous_count}
use Rattle.cached_tile.specs.declared.kept.Kept as kept
use Rattle.pass_statements.specs.Clips.{step_of, clips_from}
use Rattle.pass_statements.specs.Covered.{covered_from}
use Rattle.pass_statements.specs.Decide.{shown_from, outcome_of}
use Rattle.pass_statements.specs.Entry.{Entry}
use Rattle.pass_statements.specs.Item.{item_from, item_of, items_of}
use Rattle.pass_statements.specs.declared.item.Item.{Item}
use Rattle.layer_workbench.specs.Work.{clear_unchanged, outcome_by_entries}
use Rattle.listing_runs.specs.Marked.{restated, MarksAlone, MarkedFrames}

-- ---- the table's own word

abbrev restated_in : (Layer → Bool) → Answer Layer → Answer Layer
restated_in says (refused n) = refused n
restated_in says (given l) = given (restated says l)

module _ (says : Layer → Bool) where
  found : (table : List Layer) (id : ℕ) → lookup (map (restated says) table) id ≡ restated_in says (lookup table id)
  unfolding lookup
  found [] id = refl
  found (l ∷ ls) id = by (eqb l.id id) (found ls id)
    where
      by : (t : Bool) → lookup (map (restated says) ls) id ≡ restated_in says (lookup ls id)
          → cond t (given (restated says l)) (lookup (map (restated says) ls) id) ≡ restated_in says (cond t (given l) (lookup ls id))
      by true e = refl
      by false e = e

  same_item : (table : List Layer) (e : Entry) → item_of (map (restated says) table) e ≡ item_of table e
  same_item table e = rw (found table e.id) (by (lookup table e.id))
    where
      by : (a : Answer Layer) → item_from (restated_in says a) e ≡ item_from a e
      by (refused n) = refl
      by (given l) = refl

  same_items : (table : List Layer) (entries : List Entry) → items_of (map (restated says) table) entries ≡ items_of table entries
  same_items table [] = refl
  same_items table (e ∷ es) = ap₂ (λ (x : Item) (xs : List Item). x ∷ xs) (same_item table e) (same_items table es)

  alone : (table : List Layer) (k : kept.Kept) (clear : Color) (previous : Option Color) (entries : List Entry)
      → outcome_by_entries (map (restated says) table) k clear previous entries ≡ outcome_by_entries table k clear previous entries
  unfolding outcome_by_entries
  alone table k clear previous entries =
      ap (outcome_of clear (clear_unchanged previous clear) (previous_count k)) (same_items table entries)

-- deciding goes by the list
pub marks_alone : MarksAlone
marks_alone says = alone says

pub marked_frames : MarkedFrames
unfolding outcome_of clips_from step_of covered_from shown_from lookup eq of_bits is_full
marked_frames = record { widened = refl; hidden = refl; unused = refl; kept_still = refl }
