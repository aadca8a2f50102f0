-- The memory that a batch is lent: two queues, and for each tile the bytes of its cached tile, six numbers and a colour; for each plane 256 coverages
-- and two words. How the bytes of a tile, its numbers and a plane lie in it, and whether there is room for a further tile. Stands for 'lent arrays with
-- counts', of many tiles at once; that memory ends is no refusal.
use Rattle.std.specs.Prelude.{◌&&◌, ◌∷◌, ◌+◌, ◌*◌, ◌/◌}
use Rattle.laws.specs.Prelude.{Bool, true, false, cond, List, [], ℕ, min, ltb, leb, Float, length, take, drop, sets}
use Rattle.cached_tile.specs.Kept.{no_tile}
use Rattle.cached_tile.specs.declared.kept.Kept as kept
use Rattle.ffi_numbers.specs.Cached.{kept_of, tile_bytes}
use Rattle.pass_statements.specs.Decision.{TileDecision, none, solid, paint, code_of}
use Rattle.row_statements.specs.Lent.{Columns}
use Rattle.row_statements.specs.TileWork.{TileAnswer}
use Rattle.batch_statements.specs.declared.Room as room

-- `queue` holds the carries, `other` is the one that the next tile writes
pub record BatchLent : Type 0 where
  pub queue : Columns
  pub other : Columns
  pub kept : List ℕ
  pub told : List ℕ
  pub bottoms : List Float
  pub planes : List Float
  pub painted : List ℕ

abbrev pub batch_lent : Columns → Columns → List ℕ → List ℕ → List Float → List Float → List ℕ → BatchLent
batch_lent queue other k told bottoms planes painted =
    record { queue = queue; other = other; kept = k; told = told; bottoms = bottoms; planes = planes; painted = painted }

-- as it lies: the first of the two queues is the one that holds the carries, or the other one is
abbrev pub sided : Bool → BatchLent → BatchLent
sided true m = m
sided false m = record { queue = m.other; other = m.queue; kept = m.kept; told = m.told; bottoms = m.bottoms; planes = m.planes; painted = m.painted }

-- ---- room

-- by the lengths of the lent memory: how many tiles there is room for, cached tiles among it where `keeps` says that they are lent; how many planes, of 256
-- coverages and two words each; and how many of these must be free before a tile: as many as it can list layers, at most 256 and at most the table's count
-- (proofs/ListedFew)
abbrev pub room_for : Bool → ℕ → ℕ → ℕ → ℕ → ℕ → ℕ → room.Room
room_for keeps count kept told bottoms planes painted =
    record {
      tiles = cond keeps (min (kept / 8) (min (told / 6) (bottoms / 4))) (min (told / 6) (bottoms / 4));
      planes = min (planes / 256) (painted / 2);
      needed = min 256 count;
    }

abbrev pub room_in : Bool → ℕ → BatchLent → room.Room
room_in keeps count m = room_for keeps count (length m.kept) (length m.told) (length m.bottoms) (length m.planes) (length m.painted)

-- for a further tile, after so many are worked and so many planes are used
abbrev pub has_room : room.Room → ℕ → ℕ → Bool
has_room r worked used = ltb worked r.tiles && leb (used + r.needed) r.planes

-- ---- the i-th tile of the batch

-- its cached tile, eight bytes; where none are lent it has none
abbrev pub kept_at : Bool → List ℕ → ℕ → kept.Kept
kept_at keeps bytes i = cond keeps (kept_of true (take 8 (drop (i * 8) bytes))) no_tile

abbrev pub kept_over : Bool → List ℕ → ℕ → kept.Kept → List ℕ
kept_over keeps bytes i k = cond keeps (sets bytes (i * 8) (tile_bytes k.tile)) bytes

-- of a solid tile how many shown layers lie before those to mix
abbrev pub before_of : TileDecision → ℕ
before_of none = 0
before_of (solid bottom before) = before
before_of paint = 0

-- its numbers: the decision and what lies before, how many layers are listed, skipped and shown, how many carries are handed on
abbrev pub tile_numbers : TileAnswer → ℕ → ℕ → List ℕ
tile_numbers t shown carried = code_of t.decision ∷ before_of t.decision ∷ t.listed ∷ t.skipped ∷ shown ∷ carried ∷ []

-- the bottom colour of a solid tile; another leaves what was there
abbrev pub bottoms_over : TileDecision → ℕ → List Float → List Float
bottoms_over none i old = old
bottoms_over (solid bottom before) i old = sets old (i * 4) (bottom.r ∷ bottom.g ∷ bottom.b ∷ bottom.a ∷ [])
bottoms_over paint i old = old

-- ---- the plane of number u

abbrev pub plane_at : ℕ → List Float → List Float
plane_at u planes = take 256 (drop (u * 256) planes)

-- ---- the layers that a solid tile mixes over its bottom colour: the shown ones but for those that lie before

abbrev pub mixed_of : TileDecision → List ℕ → List ℕ
mixed_of none shown = []
mixed_of (solid bottom before) shown = drop before shown
mixed_of paint shown = []

-- each takes the next plane's words, its id and mark 0; the plane is left as it was
pub record WordsAt : Type 0 where
  pub used : ℕ
  pub painted : List ℕ

abbrev pub words_at : ℕ → List ℕ → WordsAt
words_at used painted = record { used = used; painted = painted }

unfoldable pub mixes_from : WordsAt → List ℕ → WordsAt
mixes_from w [] = w
mixes_from w (id ∷ ids) = mixes_from (words_at (w.used + 1) (sets w.painted (w.used * 2) (id ∷ 0 ∷ []))) ids
