-- The job of a load. Stands for document 02, W-204: 'eight NonZero opaque solid layers, 0 to 7, unclipped'; 'segment k from 0 has slot
-- k × 8 × tiles divided by n, rounded down; its tile is slot divided by 8, its layer the remainder. Four draws give, in turn, x (the draw mod
-- 16), y (mod 16), the multiplier (mod 33) and the cover (mod 33, less 16); each segment has one row. The job's row and from are 0, its tiles
-- and to the number of tiles'. Its text is document 01's (`render`).
use Rattle.std.specs.Prelude.{◌*◌, ◌/◌, ◌%◌, ◌-ℤ◌}
use Rattle.laws.specs.Prelude.{ℕ, pos, tabulate}
use Rattle.job_lines.specs.declared.layer.LayerLine.{LayerLine}
use Rattle.job_lines.specs.declared.segment.SegmentLine.{SegmentLine}
use Rattle.job_text_statements.specs.declared.Head.{Head}
use Rattle.job_text_statements.specs.Job.{Job}
use Rattle.load_statements.specs.declared.Asked.{Asked}
use Rattle.load_statements.specs.Draw.{state_after, draw_at}

-- what a load is made from
abbrev pub asked : ℕ → ℕ → ℕ → Asked
asked seed tiles count = record { seed = seed; tiles = tiles; count = count }

abbrev pub load_head : ℕ → Head
load_head tiles = record { row = pos 0; tiles = pos tiles; from = pos 0; to = pos tiles }

-- rule 0 is NonZero, clip 0 a draw, fill 0 solid, mode 0 Over, and alpha 256 is 1
unfoldable pub load_layer : ℕ → LayerLine
load_layer id = record { layer = pos id; rule = pos 0; clip = pos 0; span = pos 0; clipped = pos 0; fill = pos 0; mode = pos 0; alpha = pos 256 }

unfoldable pub slot_of : ℕ → ℕ → ℕ → ℕ
slot_of tiles n k = k * 8 * tiles / n

-- the segment of a slot, by the four draws from the state s
unfoldable pub segment_from : ℕ → ℕ → SegmentLine
segment_from s slot =
    record {
      tile_x = pos (slot / 8);
      layer = pos (slot % 8);
      x = pos (draw_at s 1 % 16);
      y = pos (draw_at s 2 % 16);
      rows = pos 1;
      mult = pos (draw_at s 3 % 33);
      cover = pos (draw_at s 4 % 33) -ℤ pos 16;
    }

-- segment k: four draws for each segment before it were made
abbrev pub load_segment : Asked → ℕ → SegmentLine
load_segment a k = segment_from (state_after a.seed (4 * k)) (slot_of a.tiles a.count k)

unfoldable pub load_of : Asked → Job
load_of a = record { head = load_head a.tiles; layers = tabulate 8 load_layer; segments = tabulate a.count (load_segment a) }
