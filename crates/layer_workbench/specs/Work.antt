-- The work on one tile (`drive_tile_painting` without painting): its layers are listed, the passes decide, the cached tile is updated, and the
-- carries are handed on. Stands for 'One tile' up to painting.
use Rattle.std.specs.Prelude.{◌≡◌, ◌≤◌}
use Rattle.laws.specs.Prelude.{Bool, false, List, map, Option, Some, None, ℕ, ℤ, length, over}
use Rattle.styling.specs.Color.{same_color}
use Rattle.styling.specs.declared.Color.{Color}
use Rattle.styling.specs.declared.Layer.{Layer}
use Rattle.queue_statements.specs.Queue.{Carry, ids_in, covers_in}
use Rattle.tile_layers.specs.Listing.{Listed, has_any, incoming_of, is_changed, flags_over}
use Rattle.layer_carrying.specs.Carrying.{handed_on}
use Rattle.pass_statements.specs.Entry.{Entry}
use Rattle.pass_statements.specs.Item.{items_of}
use Rattle.pass_statements.specs.Decide.{Outcome, outcome_of}
use Rattle.pass_statements.specs.Decision as decision
use Rattle.pass_statements.specs.Decision.{TileDecision, solid, paint, decision_in}
use Rattle.cached_tile.specs.Kept.{previous_count, counted, cleared}
use Rattle.cached_tile.specs.declared.kept.Kept as kept
use Rattle.layer_workbench.specs.declared.DecidedTile.{DecidedTile}
use Rattle.layer_workbench.specs.declared.Worked.{Worked}

-- ---- what the passes see

abbrev pub entry_of : List Layer → Listed → Entry
entry_of table l = record { id = l.id; cover = l.cover; segments = has_any l.own; changed = is_changed table l.id }

-- the clear colour is unchanged where the one before is given and is the same
abbrev pub clear_unchanged : Option Color → Color → Bool
clear_unchanged None clear = false
clear_unchanged (Some color) clear = same_color color clear

-- ---- what the work gives

-- from the entries of a list, whoever made it
unfoldable pub outcome_by_entries : List Layer → kept.Kept → Color → Option Color → List Entry → Outcome
outcome_by_entries table k clear previous entries = outcome_of clear (clear_unchanged previous clear) (previous_count k) (items_of table entries)

-- from the layers of a tile
abbrev pub outcome_in : List Layer → kept.Kept → Color → Option Color → List Listed → Outcome
outcome_in table k clear previous ls = outcome_by_entries table k clear previous (map (entry_of table) ls)

-- the cached tile afterwards: any work updates the count, paint clears tag 1, and nothing else changes
abbrev pub kept_by : TileDecision → kept.Kept → kept.Kept
kept_by decision.none k = k
kept_by (solid bottom before) k = k
kept_by paint k = cleared k

abbrev pub kept_after : Outcome → kept.Kept → ℕ → kept.Kept
kept_after o k n = kept_by o.decision (counted k n)

-- the carries that are handed on: those of every listed layer, shown, masked off or skipped alike, so that the outcome plays no part
abbrev pub carries_after : List Layer → Outcome → List Listed → List Carry
carries_after table o ls = handed_on table ls

-- deciding from a lent list of n entries: the answer, and the column of layers that are not masked off
pub record Decides (o : Outcome) (k : kept.Kept) (n : ℕ) (oldUnmasked : List Bool) (r : DecidedTile) (unmasked : List Bool) : Type 0 where
  pub decision : decision_in r.decision ≡ o.decision
  pub skipped : r.skipped.0 ≡ o.skipped
  pub kept_is : r.kept ≡ kept_after o k n
  pub unmasked_are : unmasked ≡ over o.unmasked oldUnmasked

-- the answer, and the six lent columns: the list's four and the queue's two
pub record Works (table : List Layer) (k : kept.Kept) (clear : Color) (previous : Option Color) (ls : List Listed) (r : Worked) : Type 0 where
  pub decision : decision_in r.decision ≡ (outcome_in table k clear previous ls).decision
  pub skipped : r.skipped.0 ≡ (outcome_in table k clear previous ls).skipped
  pub listed : r.listed ≡ length ls
  pub kept_is : r.kept ≡ kept_after (outcome_in table k clear previous ls) k (length ls)
  pub handed : r.left ≡ length (carries_after table (outcome_in table k clear previous ls) ls)

pub record ListWritten (table : List Layer) (ls : List Listed) (o : Outcome) (oldIds : List ℕ) (oldCovers : List ℤ) (oldFlags oldUnmasked : List Bool) (ids : List ℕ) (covers : List ℤ) (flags unmasked : List Bool) : Type 0 where
  pub ids_are : ids ≡ over (ids_in (incoming_of ls)) oldIds
  pub covers_are : covers ≡ over (covers_in (incoming_of ls)) oldCovers
  pub flags_are : flags ≡ flags_over table ls oldFlags
  pub unmasked_are : unmasked ≡ over o.unmasked oldUnmasked

pub record QueueWritten (q : List Carry) (oldIds : List ℕ) (oldCovers : List ℤ) (ids : List ℕ) (covers : List ℤ) : Type 0 where
  pub ids_are : ids ≡ over (ids_in q) oldIds
  pub covers_are : covers ≡ over (covers_in q) oldCovers

-- room for 256 entries in a list, with two flags each, and in a queue
pub record Rooms (listIds : List ℕ) (listCovers : List ℤ) (flags unmasked : List Bool) (queueIds : List ℕ) (queueCovers : List ℤ) : Type 0 where
  pub list_ids : 256 ≤ length listIds
  pub list_covers : 4096 ≤ length listCovers
  pub list_flags : 512 ≤ length flags
  pub list_unmasked : 256 ≤ length unmasked
  pub queue_ids : 256 ≤ length queueIds
  pub queue_covers : 4096 ≤ length queueCovers
