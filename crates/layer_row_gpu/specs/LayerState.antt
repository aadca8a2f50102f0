-- Where a caller stands in one layer's row of tiles four pixels high, and refusal 2 by the sizes of this profile: rows 0 to 8,190, tiles to 4,095.
-- Stands for W-213, 'numbers 1, 2 and 11 go by these sizes', and for condition 2 of 'Turned down'.
use Rattle.std.specs.Prelude.{◌||◌, ◌+◌}
use Rattle.laws.specs.Prelude.{Bool, cond, not, List, ℕ, suc, ltb, leb, eqb, ℤ, pos, lt_z, plus}
use Rattle.pixel_segment.specs.Field.{gpu}
use Rattle.styling.specs.declared.FillRule.{FillRule}
use Rattle.cover_statements.specs.Carry.{carry_of}
use Rattle.cover_statements.specs.Cover.{no_cover, is_empty}
use Rattle.cover_statements.specs.WholeRow.{part_of}
use Rattle.layer_row_gpu.specs.declared.LayerRow.{LayerRow}

-- the row's number and its tiles, the next of them, the layer and its rule, and the cover that the next tile takes in
pub record LayerState : Type 0 where
  pub tile_y : ℕ
  pub from : ℕ
  pub to : ℕ
  pub next : ℕ
  pub layer : ℕ
  pub rule : FillRule
  pub covers : List ℤ

-- the code's state in these terms
abbrev pub layer_state_in : LayerRow → LayerState
layer_state_in s =
    record {
      tile_y = s.tile_y;
      from = s.from;
      to = s.to;
      next = s.next;
      layer = s.layer_id;
      rule = s.rule;
      covers = s.cover.covers;
    }

-- the layer's segments in a tile, by the whole row; a layer that the row lacks has none
abbrev pub layer_tile : LayerState → ℤ → List ℕ → List ℕ
layer_tile s tile row = part_of gpu (suc (plus tile)) s.layer row

-- a cover that is empty by the rule is dropped: it counts as zeros
abbrev pub dropped : FillRule → List ℤ → List ℤ
dropped rule covers = cond (is_empty rule covers) (no_cover 4) covers

-- past a tile: the next one is due, and takes in the carry
abbrev pub handed_layer : LayerState → List ℤ → LayerState
handed_layer s carry =
    record {
      tile_y = s.tile_y;
      from = s.from;
      to = s.to;
      next = s.next + 1;
      layer = s.layer;
      rule = s.rule;
      covers = dropped s.rule carry;
    }

abbrev pub past_tile : LayerState → List ℕ → LayerState
past_tile s part = handed_layer s (carry_of gpu 4 s.covers part)

-- ---- 2

-- row number below 0 or above 8,190; from below 0 or above to; to above 4,095
abbrev pub has_bad_span : ℤ → ℤ → ℤ → Bool
has_bad_span tile_y from to = lt_z tile_y (pos 0) || lt_z (pos 8190) tile_y || lt_z from (pos 0) || lt_z to from || lt_z (pos 4095) to

-- a state that no opening and no works lead to, or a tile that is not the next one, or none is left
abbrev pub is_astray : LayerState → Bool
is_astray s = ltb 8190 s.tile_y || ltb 4095 s.to || ltb s.next s.from || ltb s.to s.next

abbrev pub is_other_tile : LayerState → ℤ → Bool
is_other_tile s tile = leb s.to s.next || lt_z tile (pos 0) || not (eqb (plus tile) s.next)
