-- The rules on the values of a job's lines. Stands for '`rows` repeats a segment downward, 1 to 16 - y', 'alpha is 0 to 256', 'a clip has 0 in
-- clipped, fill, mode and alpha; a draw has span 0', 'at most 2,048 segments' and 'a segment field outside its width (tile_x -1 to 4,094)', which packing judges (W-203).
-- Layer ids, codes and spans have no rule here, nor have the numbers of block 1: refusals 4 and 2 judge them later.
use Rattle.std.specs.Prelude.{◌&&◌, ◌||◌, ◌∷◌, ◌+◌, ◌-ℤ◌}
use Rattle.laws.specs.Prelude.{Bool, not, List, [], ℕ, ℤ, pos, plus, is_within}
use Rattle.pixel_segment.specs.Field.{cpu}
use Rattle.pixel_segment.specs.Pack.{is_packable}
use Rattle.job_lines.specs.declared.layer.LayerLine.{LayerLine}
use Rattle.job_lines.specs.declared.segment.SegmentLine.{SegmentLine}

-- v is n
abbrev pub is : ℤ → ℤ → Bool
is n v = is_within n n v

-- clipped, fill, mode and alpha are 0
abbrev pub is_plain : LayerLine → Bool
is_plain l = is (pos 0) l.clipped && is (pos 0) l.fill && is (pos 0) l.mode && is (pos 0) l.alpha

-- clip code 1 is a clip, 0 a draw
unfoldable pub layer_rule : LayerLine → Bool
layer_rule l =
    is_within (pos 0) (pos 256) l.alpha
    && (not (is (pos 1) l.clip) || is_plain l)
    && (not (is (pos 0) l.clip) || is (pos 0) l.span)

-- packing takes the line's numbers, at tile y 0, since the row number is no part of the line; and the repeats stay within the tile
unfoldable pub segment_rule : SegmentLine → Bool
segment_rule s =
    is_packable cpu s.layer s.tile_x (pos 0) s.x s.y s.mult s.cover && is_within (pos 1) (pos 16 -ℤ s.y) s.rows

-- how many segments the lines stand for
unfoldable pub segment_count : List SegmentLine → ℕ
segment_count [] = 0
segment_count (s ∷ ss) = plus s.rows + segment_count ss
