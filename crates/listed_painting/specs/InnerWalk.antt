-- What a walk over a tile's layers holds before each of them, and what passing over the next layer and painting it give.
use Rattle.std.specs.Prelude.{◌≡◌, ◌+◌, ◌≤◌, ◌<◌}
use Rattle.laws.specs.Prelude.{true, List, None, ℕ, Float, ℤ, length, drop, take, get_or, given, is_given}
use Rattle.layer_table.specs.Lookup.{lookup}
use Rattle.layer_table.specs.Table.{Table}
use Rattle.styling.specs.declared.Layer.{Layer}
use Rattle.queue_statements.specs.Queue.{Carry, queue_of, Queued}
use Rattle.tile_layers.specs.Listing.{no_listed, layers_in}
use Rattle.tile_layers.specs.InnerWalk.{Walks, layers_left}
use Rattle.painter.specs.Painting.{is_light_in, Paints}
use Rattle.listed_painting.specs.InnerFreeing.{free_from}
use Rattle.listed_painting.specs.declared.PaintWalk.{PaintWalk}
use Rattle.listed_painting.specs.declared.PaintedNext.{PaintedNext}

-- what painting the layers of a tile asks: a judged queue of n carries, a part that ascends by layer, and a judged table
pub record Painter (n : ℕ) (ids : List ℕ) (covers : List ℤ) (part : List ℕ) (words : List ℕ) (floats : List Float) (count : ℕ) : Type 0 where
  pub queued : Queued n ids covers
  pub walks : Walks n ids part
  pub in_table : Table words floats count

-- what the walk holds, by how many layers are passed: the layers that are left are those of the carries and the segments that are left, and the
-- latest clip that is passed frees the clipped draws below the id that is kept
pub record WalkHolds (table : List Layer) (n : ℕ) (ids : List ℕ) (covers : List ℤ) (part : List ℕ) (w : PaintWalk) : Type 0 where
  pub carries_in : w.carries ≤ n
  pub segments_in : w.segments ≤ length part
  pub few : w.passed ≤ w.carries + w.segments
  pub inside : w.passed ≤ length (layers_in (queue_of n ids covers) part)
  pub left : drop w.passed (layers_in (queue_of n ids covers) part) ≡ layers_left n ids covers part w.carries w.segments
  pub free : w.free_below ≡ free_from table (take w.passed (layers_in (queue_of n ids covers) part)) 0

-- past the first layers, none of which is painted
pub record WalkStarts (table : List Layer) (n : ℕ) (ids : List ℕ) (covers : List ℤ) (part : List ℕ) (skipped : ℕ) (w : PaintWalk) : Type 0 where
  pub holds : WalkHolds table n ids covers part w
  pub past : w.passed ≡ skipped
  pub no_clip : w.clip ≡ None

-- before the first layer of any tile
pub record StartsAnywhere (w : PaintWalk) : Type 0 where
  pub starts : (table : List Layer) (n : ℕ) (ids : List ℕ) (covers : List ℤ) (part : List ℕ) → WalkStarts table n ids covers part 0 w

-- the id of the layer in place i of the tile's list
abbrev pub id_in : List Carry → List ℕ → ℕ → ℕ
id_in queue part i = (get_or (layers_in queue part) i no_listed).id

-- one more layer is passed, and the clip stays
pub record PassesOver (table : List Layer) (n : ℕ) (ids : List ℕ) (covers : List ℤ) (part : List ℕ) (w r : PaintWalk) : Type 0 where
  pub holds : WalkHolds table n ids covers part r
  pub one_more : r.passed ≡ w.passed + 1
  pub clip_kept : r.clip ≡ w.clip

-- there is a layer in place i, and neither 8 nor 9 applies to it
pub record CanPaint (table : List Layer) (queue : List Carry) (part : List ℕ) (i : ℕ) : Type 0 where
  pub listed : i < length (layers_in queue part)
  pub known : is_given (lookup table (id_in queue part i)) ≡ true
  pub light : is_light_in queue part (id_in queue part i) ≡ true

-- one more layer is passed, and it is painted as its painting by itself paints it
pub record PaintsNext (table : List Layer) (n : ℕ) (ids : List ℕ) (covers : List ℤ) (part : List ℕ) (w : PaintWalk) (old : List Float) (r : PaintedNext) (plane : List Float) : Type 0 where
  pub holds : WalkHolds table n ids covers part r.walk
  pub one_more : r.walk.passed ≡ w.passed + 1
  pub id_is : r.id ≡ id_in (queue_of n ids covers) part w.passed
  pub paints : (layer : Layer) → lookup table (id_in (queue_of n ids covers) part w.passed) ≡ given layer
      → Paints table (queue_of n ids covers) part (id_in (queue_of n ids covers) part w.passed) layer w.clip old (record { clip = r.walk.clip; mark = r.mark }) plane
