-- The passes in document 01's own words, of the definitions that the contracts cite.
use Rattle.std.specs.Prelude.{◌≡◌, ◌||◌, ◌<◌, Option, Some, None}
use Rattle.laws.specs.Prelude.{List, [], map, true, not, Bool, false, ℕ}
use Rattle.pass_statements.specs.declared.item.Item.{Item}
use Rattle.pass_statements.specs.Rules.{ClipAt, is_followed, is_unmasked, is_ascending, DrawAt, is_under, latest_below, Alike, is_free, needs_clip, Over}
use Rattle.pass_statements.specs.Covered.{item_at, covered_of}
use Rattle.styling.specs.Style.{is_clipped_of}
use Rattle.styling.specs.declared.Color.{Color}
use Rattle.pass_statements.specs.Clips.{marks_of}
use Rattle.pass_statements.specs.Decide.{passed_of, outcome_of, shown_of}
use Rattle.pass_statements.specs.Unchanged.{is_kept}
use Rattle.pass_statements.specs.Decision.{solid}
use Rattle.styling.specs.declared.Layer.{Layer}
use Rattle.queue_statements.specs.Queue.{ids_in}
use Rattle.tile_layers.specs.Listing.{Listed, incoming_of}
use Rattle.pass_statements.specs.Item.{items_of}
use Rattle.layer_workbench.specs.Work.{entry_of}
use Rattle.row_lines.specs.Shown.{shown_in}

pub record PassesInWords : Type 0 where
  -- 'A clip followed by another clip before a listed draw past its end is never judged for use; it stays shown unless full': in any list
  pub never_judged : (items : List Item) → {i : ℕ} → ClipAt items i → is_followed items i ≡ true → is_unmasked items i ≡ not (item_at items i).full
  -- 'A clipped draw before any clip, or past the span of the latest one, is masked off': and one within that span is not
  pub unmasked_clipped : (items : List Item) (ascending : is_ascending items ≡ true) → {i : ℕ} → DrawAt items i →
      is_clipped_of (item_at items i).func ≡ true → is_unmasked items i ≡ is_under (latest_below items i) (item_at items i).id
  -- a draw is masked off exactly where it is clipped and does not lie within the span of the latest clip
  pub unmasked_draw : (items : List Item) (ascending : is_ascending items ≡ true) → {i : ℕ} → DrawAt items i →
      is_unmasked items i ≡ (not (is_clipped_of (item_at items i).func) || is_under (latest_below items i) (item_at items i).id)
  pub masked_unseen : (items items' : List Item) → (unmasked unclipped : List Bool) (removed : Bool) → Alike unmasked items items' →
      covered_of items unmasked unclipped removed ≡ covered_of items' unmasked unclipped removed
  -- and so, where the second pass marks them alike, one outcome of both passes
  pub masked_passed : (items items' : List Item) → (clear : Color) (removed : Bool) → marks_of items ≡ marks_of items' →
      Alike (marks_of items).unmasked items items' → passed_of clear removed items ≡ passed_of clear removed items'
  pub empty_solid : (clear : Color) → (unchanged : Bool) (previous : Option ℕ) → is_kept unchanged previous [] ≡ false →
      (outcome_of clear unchanged previous []).decision ≡ solid clear 0
  pub empty_new : (clear : Color) → (unchanged : Bool) → (outcome_of clear unchanged None []).decision ≡ solid clear 0
  pub empty_counted : (clear : Color) → (unchanged : Bool) (n : ℕ) → (n ≡ 0 → ⊥) → (outcome_of clear unchanged (Some n) []).decision ≡ solid clear 0
  pub empty_recolored : (clear : Color) → (previous : Option ℕ) → (outcome_of clear false previous []).decision ≡ solid clear 0
  -- a clipped draw is drawn unclipped exactly where it needs no clip
  pub free_draw : (items : List Item) (ascending : is_ascending items ≡ true) → {i : ℕ} → DrawAt items i → is_clipped_of (item_at items i).func ≡ true →
      is_free items i ≡ not (needs_clip items (item_at items i).func (item_at items i).id)
  pub covered : (items : List Item) (ascending : is_ascending items ≡ true) → (clear : Color) (unchanged : Bool) (previous : Option ℕ) (i : ℕ) →
      i < (outcome_of clear unchanged previous items).skipped →
      Over items (outcome_of clear unchanged previous items).unmasked i (outcome_of clear unchanged previous items).skipped
  -- the layers of a driven row's line are the shown ones: neither masked off nor skipped
  pub shown_ids : (table : List Layer) (skipped : ℕ) (shown : List Bool) (ls : List Listed) →
      shown_in skipped shown (ids_in (incoming_of ls)) ≡ map (λ x. x.id) (shown_of skipped (items_of table (map (entry_of table) ls)) shown)
