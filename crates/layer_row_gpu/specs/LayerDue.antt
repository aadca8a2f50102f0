-- What is due of each call after an accepted opening of one layer's row, worked from the opening on: by the opening's call with its whole row, by how
-- many tiles were due to be worked so far, and by the caller's own choices. No answer and no state that a call gave back is looked at. Stands for
-- W-213, 'carry and coverage are held to the same working from the whole row as at 16', and for 'what it compares with is worked by this document
-- from the opening on'.
use Rattle.std.specs.Prelude.{◌||◌, ◌++◌, ◌+◌, ◌/◌}
use Rattle.laws.specs.Prelude.{Bool, not, cond, List, [], ℕ, zero, suc, ltb, leb, eqb, Float, ℤ, pos, length, lt_z, plus, over}
use Rattle.refusals.specs.Refusal.{Judgement, pass, refuse, unless}
use Rattle.pixel_segment.specs.Field.{gpu}
use Rattle.segment_rows.specs.Rows.{is_row}
use Rattle.cover_statements.specs.Carry.{is_light, carry_of}
use Rattle.cover_statements.specs.Cover.{no_cover}
use Rattle.cover_statements.specs.WholeRow.{part_of, row_plane}
use Rattle.layer_row_gpu.specs.LayerState.{LayerState, dropped}
use Rattle.layer_row_gpu.specs.OpenLayer.{LayerCall, layer_rule, layer_left}
use Rattle.layer_row_gpu.specs.WorkLayer.{LayerChoice, layer_choice, LayerGiven}
use Rattle.layer_row_gpu.specs.WorkTiles.{plane_at, TilesEnd, asked, refused, NextTile, next_tile, TilesChoice, TilesGiven}

-- ---- the row after n tiles

-- the tile from + n
abbrev pub layer_tile_on : LayerCall → ℕ → ℕ
layer_tile_on c n = plus c.from + n

-- the layer's segments there. The stored number of a tile is its own plus 1
abbrev pub layer_part_on : LayerCall → ℕ → List ℕ → List ℕ
layer_part_on c n row = part_of gpu (suc (layer_tile_on c n)) c.layer row

-- the carry before that tile: the covers left of the first tile, then those of each tile, dropped where they are empty by the rule
unfoldable pub cover_on : LayerCall → ℕ → List ℤ
cover_on c zero = carry_of gpu 4 (no_cover 4) (layer_left c.from c.layer c.row)
cover_on c (suc n) = dropped (layer_rule c) (carry_of gpu 4 (cover_on c n) (layer_part_on c n c.row))

abbrev pub layer_state_on : LayerCall → ℕ → LayerState
layer_state_on c n =
    record {
      tile_y = plus c.tile_y;
      from = plus c.from;
      to = plus c.to;
      next = layer_tile_on c n;
      layer = c.layer;
      rule = layer_rule c;
      covers = cover_on c n;
    }

-- ---- a work

-- 2: the tile is not the one after the n that are worked, or that one is past the end
abbrev pub is_tile_not_due : LayerCall → ℕ → ℤ → Bool
is_tile_not_due c n tile = leb (plus c.to) (layer_tile_on c n) || lt_z tile (pos 0) || not (eqb (plus tile) (layer_tile_on c n))

-- the lowest refusal that applies; 3 and 9 are judged of the row that is lent
unfoldable pub layer_due_verdict : LayerCall → ℕ → LayerChoice → Judgement
layer_due_verdict c n choice =
    unless (ltb (length choice.plane) 64) 1
    (unless (is_tile_not_due c n choice.tile) 2
    (unless (not (is_row gpu (suc (plus c.tile_y)) choice.row)) 3
    (unless (not (is_light gpu 4 (cover_on c n) (layer_part_on c n choice.row))) 9
    pass)))

-- by the verdict: the tile's 64 coverages by working from the whole row stand over what the plane held; or all is as it was
abbrev pub layer_out : Judgement → LayerCall → ℕ → List Float → LayerGiven
layer_out (refuse number) c n plane = record { answer = refuse number; state = layer_state_on c n; plane = plane }
layer_out pass c n plane =
    record {
      answer = pass;
      state = layer_state_on c (suc n);
      plane = over (row_plane gpu 4 (layer_rule c) (suc (layer_tile_on c n)) c.layer c.row) plane;
    }

abbrev pub work_layer_due : LayerCall → ℕ → LayerChoice → LayerGiven
work_layer_due c n choice = layer_out (layer_due_verdict c n choice) c n choice.plane

-- how many tiles are worked after a call, by the verdict that is due
abbrev pub tiles_after : Judgement → ℕ → ℕ
tiles_after pass n = suc n
tiles_after (refuse number) n = n

-- ---- a range of tiles

-- how many tiles are due to be worked, and why the range is due to end
pub record TilesDue : Type 0 where
  pub worked : ℕ
  pub ended : TilesEnd

-- what the own call of the tile from + n is due to answer, where it lends the k-th of the planes
abbrev pub own_due : LayerCall → ℕ → TilesChoice → ℕ → Judgement
own_due c n choice k = layer_due_verdict c n (layer_choice (pos (layer_tile_on c n)) choice.row (plane_at k choice.planes))

abbrev pub tiles_due_by : NextTile → ℕ → TilesDue → TilesDue
tiles_due_by NextTile.works k rest = rest
tiles_due_by (NextTile.ends e) k rest = record { worked = k; ended = e }

-- from the tile from + n on: k are worked, and `left` still asked for
unfoldable pub tiles_due : LayerCall → ℕ → TilesChoice → ℕ → ℕ → TilesDue
tiles_due c n choice zero k = record { worked = k; ended = asked }
tiles_due c n choice (suc left) k =
    tiles_due_by (next_tile (leb (plus c.to) (layer_tile_on c (n + k))) (leb (length choice.planes / 64) k) (own_due c (n + k) choice k)) k
    (tiles_due c n choice left (suc k))

-- the coverages of k tiles from the tile from + n on, by working from the whole row, one tile after the other
unfoldable pub planes_due : LayerCall → ℕ → ℕ → List Float
planes_due c n zero = []
planes_due c n (suc k) = planes_due c n k ++ row_plane gpu 4 (layer_rule c) (suc (layer_tile_on c (n + k))) c.layer c.row

-- the first tile's own call is due to be refused, and so is the range; one that asks for no tile is not
abbrev pub tiles_due_verdict : LayerCall → ℕ → TilesChoice → Judgement
tiles_due_verdict c n choice = cond (eqb choice.tiles 0) pass (layer_due_verdict c n (layer_choice choice.tile choice.row choice.planes))

abbrev pub tiles_out : Judgement → LayerCall → ℕ → TilesChoice → TilesGiven
tiles_out (refuse number) c n choice =
    record { answer = refuse number; worked = 0; ended = refused number; state = layer_state_on c n; planes = choice.planes }
tiles_out pass c n choice =
    let d = tiles_due c n choice choice.tiles 0 in
    record { answer = pass; worked = d.worked; ended = d.ended; state = layer_state_on c (n + d.worked); planes = over (planes_due c n d.worked) choice.planes }

abbrev pub work_tiles_due : LayerCall → ℕ → TilesChoice → TilesGiven
work_tiles_due c n choice = tiles_out (tiles_due_verdict c n choice) c n choice
