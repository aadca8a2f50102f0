-- The lines of a driven row: for each tile its decision, layers listed, layers shown, used octets and carries, worked from the whole row by the
-- definitions that the theorem of demand 3 compares with (`row_statements`, specs/Due). No queue and no state that a call gave back is looked at.
-- Stands for 'Fields: tile, decision, layers listed, layers neither masked nor skipped, used octets summed over the draws, carries handed on'.
use Rattle.std.specs.Prelude.{◌∷◌, ◌+◌, None}
use Rattle.laws.specs.Prelude.{Bool, true, false, cond, Option, List, [], map, flatten, ℕ, zero, suc, ones, binary32, of_bits, length}
use Rattle.std.specs.declared.option.Option.TheVariants as option
use Rattle.styling.specs.declared.Color.{Color}
use Rattle.queue_statements.specs.Queue.{ids_in}
use Rattle.cached_tile.specs.Kept.{no_tile}
use Rattle.tile_layers.specs.Listing.{incoming_of}
use Rattle.refusals.specs.Refusal.{Judgement, pass, refuse}
use Rattle.pass_statements.specs.Decision.{TileDecision, none, solid, paint, code_of}
use Rattle.pass_statements.specs.Decide.{Outcome}
use Rattle.painter.specs.Clip.{clip_after}
use Rattle.row_statements.specs.TileWork.{list_verdict}
use Rattle.row_statements.specs.Due.{OpenRow, table_on, queue_on, layers_on, outcome_on, func_on, mark_on}
use Rattle.row_lines.specs.Shown.{shown_in}
use Rattle.row_lines.specs.declared.Line.{Line}

-- ---- what a driver chooses: no cached tile, the clear colour 0, 0, 0, 1, and none before

abbrev pub clear_color : Color
clear_color = record { r = of_bits binary32 0; g = of_bits binary32 0; b = of_bits binary32 0; a = of_bits binary32 0x3F800000 }

-- ---- the line of a tile

abbrev pub is_paint : TileDecision → Bool
is_paint none = false
is_paint (solid bottom before) = false
is_paint paint = true

-- decision, masks and skips of the tile from + n
abbrev pub decided_on : OpenRow → ℕ → Outcome
decided_on o n = outcome_on o n no_tile clear_color None

-- the ids of its shown layers
abbrev pub shown_on : OpenRow → ℕ → List ℕ
shown_on o n = shown_in (decided_on o n).skipped (decided_on o n).unmasked (ids_in (incoming_of (layers_on o n)))

-- the ones of the marks of layers that are painted in turn, each with the clip that the ones before left
unfoldable pub octets_on : OpenRow → ℕ → Option ℕ → List ℕ → ℕ
octets_on o n clip [] = 0
octets_on o n clip (id ∷ ids) = ones (mark_on o n id clip) + octets_on o n (clip_after (func_on o id) id clip) ids

-- octets are used where the tile is painted, from no clip on
unfoldable pub line_on : OpenRow → ℕ → Line
line_on o n =
    record {
      decision = code_of (decided_on o n).decision;
      listed = length (layers_on o n);
      shown = length (shown_on o n);
      octets = cond (is_paint (decided_on o n).decision) (octets_on o n option.None (shown_on o n)) 0;
      carried = length (queue_on o (suc n));
    }

-- ---- the lines of a row

-- the lines, and how they end: a pass, or the refusal of the tile after them
pub record RowLines : Type 0 where
  pub lines : List Line
  pub end : Judgement

abbrev pub lines_by : Judgement → Line → RowLines → RowLines
lines_by (refuse number) line rest = record { lines = []; end = refuse number }
lines_by pass line rest = record { lines = line ∷ rest.lines; end = rest.end }

-- of k tiles from the tile from + n on, up to the first that 7, 8 or 9 turns down
unfoldable pub lines_from : OpenRow → ℕ → ℕ → RowLines
lines_from o zero n = record { lines = []; end = pass }
lines_from o (suc k) n = lines_by (list_verdict (table_on o) (layers_on o n)) (line_on o n) (lines_from o k (suc n))

-- ---- as they lie in a lent array: five words a line

abbrev pub line_words : Line → List ℕ
line_words l = l.decision ∷ l.listed ∷ l.shown ∷ l.octets ∷ l.carried ∷ []

unfoldable pub lines_words : List Line → List ℕ
lines_words ls = flatten (map line_words ls)
