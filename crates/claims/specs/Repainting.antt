-- A changed clip repaints. Stands for W-208.
use Rattle.std.specs.Prelude.{◌≡◌, Option}
use Rattle.laws.specs.Prelude.{List, Bool, true, false, not, ℕ, length}
use Rattle.styling.specs.declared.Layer.{Layer}
use Rattle.pass_statements.specs.Entry.{Entry}
use Rattle.pass_statements.specs.Rules.{ChangedClipAt, ClipAt, with_mark, DrawAt, is_unmasked}
use Rattle.styling.specs.declared.Color.{Color}
use Rattle.pass_statements.specs.Decide.{outcome_of, passed_of}
use Rattle.pass_statements.specs.Item.{items_of, item_of}
use Rattle.pass_statements.specs.Decision.{none}
use Rattle.pass_statements.specs.declared.item.Item.{Item}
use Rattle.pass_statements.specs.Covered.{are_clips_unchanged, covered_of, covered_from}
use Rattle.pass_statements.specs.declared.covered.InterestingCover.TheVariants.{Absent}
use Rattle.listing_runs.specs.Marked.{MarksAlone, MarkedFrames}

pub record ChangedClips : Type 0 where
  -- 'The full-cover pass counts a tile as changed when any listed clip layer is changed, masked off or not': a list with a clip whose mark is set is
  -- never left as it is, whatever the table, the kept count and the clear colours say
  pub changed_clip_repaints : (table : List Layer) (entries : List Entry) {i : ℕ} → ChangedClipAt table entries i →
      (clear : Color) (unchanged : Bool) (previous : Option ℕ) → (outcome_of clear unchanged previous (items_of table entries)).decision ≡ none → ⊥
  -- that of a clip does, masked off or not
  pub clip_mark : (items : List Item) {i : ℕ} → ClipAt items i → (clear : Color) (unchanged : Bool) (previous : Option ℕ) →
      (outcome_of clear unchanged previous (with_mark items i true)).decision ≡ none → ⊥
  -- that of a draw that is masked off plays no part in both passes
  pub draw_mark : (items : List Item) (i : ℕ) (changed : Bool) → (clear : Color) (removed : Bool) → DrawAt items i → is_unmasked items i ≡ false →
      passed_of clear removed (with_mark items i changed) ≡ passed_of clear removed items
  -- whatever the table says of the layer, and also where it lacks it
  pub mark_read : (table : List Layer) (e : Entry) → (item_of table e).unchanged ≡ not e.changed
  -- where no listed clip is changed, the third pass is the Rust's
  pub unmarked_clips : (items : List Item) (s u : List Bool) (removed : Bool) → are_clips_unchanged items ≡ true →
      covered_of items s u removed ≡ covered_from items s u (length items)
      (record { first = Absent; unchanged = not removed; skipped = record { 0 = 0 } })
  pub outcome_repaints : (clear : Color) (items : List Item) (changed : are_clips_unchanged items ≡ false) →
      (unchanged : Bool) (previous : Option ℕ) → (outcome_of clear unchanged previous items).decision ≡ none → ⊥
  pub passed_repaints : (clear : Color) (items : List Item) (changed : are_clips_unchanged items ≡ false) → (removed : Bool) →
      (passed_of clear removed items).decision ≡ none → ⊥
  -- deciding goes by the list
  pub marks_alone : MarksAlone
  pub marked_frames : MarkedFrames
