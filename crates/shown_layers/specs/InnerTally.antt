-- What the inner functions of the walk over a tile's shown layers ask and give.
use Rattle.std.specs.Prelude.{◌≡◌, ◌+◌, ◌≤◌, ◌<◌}
use Rattle.laws.specs.Prelude.{Bool, true, cond, List, ℕ, ℤ, length}
use Rattle.styling.specs.declared.Layer.{Layer}
use Rattle.queue_statements.specs.Queue.{Carry, queue_of}
use Rattle.tile_layers.specs.Listing.{layers_in}
use Rattle.listed_painting.specs.InnerWalk.{WalkHolds, CanPaint, id_in}
use Rattle.row_lines.specs.Shown.{shown_in}
use Rattle.shown_layers.specs.Counting.{sum_in, tally_next}
use Rattle.shown_layers.specs.declared.Tally.{Tally}

-- the next layer of a painted tile: the walk is past it, and it is tallied where it is not masked off
pub record EntryTallied (unmasked : Bool) (table : List Layer) (n : ℕ) (ids : List ℕ) (covers : List ℤ) (part : List ℕ) (t r : Tally) : Type 0 where
  pub holds : WalkHolds table n ids covers part r.walk
  pub one_more : r.walk.passed ≡ t.walk.passed + 1
  pub sum_is : sum_in r ≡ cond unmasked (tally_next true table (queue_of n ids covers) part (sum_in t) (id_in (queue_of n ids covers) part t.walk.passed)) (sum_in t)
  pub few : r.octets ≤ t.octets + 32

-- how many layers are shown, whichever they are
pub record CountsShown (unmasked : List Bool) (skipped listed r : ℕ) : Type 0 where
  pub count : (ids : List ℕ) → length ids ≡ listed → r ≡ length (shown_in skipped unmasked ids)

-- what the walk asks: the flags of the n layers of the tile, none of which 8 or 9 applies to
pub record Walkable (table : List Layer) (queue : List Carry) (part : List ℕ) (unmasked : List Bool) (skipped n : ℕ) : Type 0 where
  pub few : n ≤ 256
  pub all : n ≡ length (layers_in queue part)
  pub within : skipped ≤ n
  pub unmasked_long : n ≤ length unmasked
  pub each : (i : ℕ) → i < n → CanPaint table queue part i
