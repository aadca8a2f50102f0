-- The opening of one layer's row: judged by 2, 3, 4 and 9, lowest first; the state before the first tile, whose cover is the exact sum of the layer's
-- covers left of `from`, tile -1 included. The layer and the number of its rule are what a layer record has of them, and are judged as one is. Stands
-- for W-213 and for the clauses on opening a row, 'an opening .. judges the layer table by .. 4'.
use Rattle.std.specs.Prelude.{◌≡◌, ◌||◌}
use Rattle.laws.specs.Prelude.{Bool, not, List, ℕ, suc, ltb, ℤ, plus}
use Rattle.refusals.specs.Refusal.{Judgement, pass, refuse, unless, judgement_in}
use Rattle.pixel_segment.specs.Field.{gpu}
use Rattle.segment_rows.specs.Rows.{is_row}
use Rattle.styling.specs.Codes.{rule_of}
use Rattle.styling.specs.declared.FillRule.{FillRule}
use Rattle.cover_statements.specs.Carry.{is_light, carry_of}
use Rattle.cover_statements.specs.Cover.{no_cover}
use Rattle.cover_statements.specs.WholeRow.{segments_left}
use Rattle.layer_row_gpu.specs.LayerState.{LayerState, layer_state_in, has_bad_span}
use Rattle.layer_row_gpu.specs.declared.OpenedLayer.{OpenedLayer}

-- what an opening is called with; the rule is its number, 0 NonZero and 1 EvenOdd
pub record LayerCall : Type 0 where
  pub tile_y : ℤ
  pub from : ℤ
  pub to : ℤ
  pub layer : ℕ
  pub rule : ℕ
  pub row : List ℕ

abbrev pub layer_call : ℤ → ℤ → ℤ → ℕ → ℕ → List ℕ → LayerCall
layer_call tile_y from to layer rule row = record { tile_y = tile_y; from = from; to = to; layer = layer; rule = rule; row = row }

abbrev pub layer_rule : LayerCall → FillRule
layer_rule c = rule_of c.rule

-- the layer's segments left of the first tile
abbrev pub layer_left : ℤ → ℕ → List ℕ → List ℕ
layer_left from layer row = segments_left gpu (suc (plus from)) layer row

-- 4: the layer is outside 0 to 2,097,151, or its rule has no such number
abbrev pub is_bad_record : ℕ → ℕ → Bool
is_bad_record layer rule = ltb 2097151 layer || ltb 1 rule

-- the lowest of 2, 3, 4 and 9 that applies
unfoldable pub open_layer_verdict : ℤ → ℤ → ℤ → ℕ → ℕ → List ℕ → Judgement
open_layer_verdict tile_y from to layer rule row =
    unless (has_bad_span tile_y from to) 2
    (unless (not (is_row gpu (suc (plus tile_y)) row)) 3
    (unless (is_bad_record layer rule) 4
    (unless (not (is_light gpu 4 (no_cover 4) (layer_left from layer row))) 9
    pass)))

abbrev pub call_verdict_of : LayerCall → Judgement
call_verdict_of c = open_layer_verdict c.tile_y c.from c.to c.layer c.rule c.row

-- the state before the first tile
abbrev pub first_state : LayerCall → LayerState
first_state c =
    record {
      tile_y = plus c.tile_y;
      from = plus c.from;
      to = plus c.to;
      next = plus c.from;
      layer = c.layer;
      rule = layer_rule c;
      covers = carry_of gpu 4 (no_cover 4) (layer_left c.from c.layer c.row);
    }

-- a refused opening gives a state without tiles, on which every work is refused
abbrev pub no_tiles : ℕ → FillRule → LayerState
no_tiles layer rule = record { tile_y = 0; from = 0; to = 0; next = 0; layer = layer; rule = rule; covers = no_cover 4 }

abbrev pub opened_state : Judgement → LayerCall → LayerState
opened_state pass c = first_state c
opened_state (refuse number) c = no_tiles c.layer (layer_rule c)

pub record OpensLayer (c : LayerCall) (r : OpenedLayer) : Type 0 where
  pub answer : judgement_in r.answer ≡ call_verdict_of c
  pub state_is : layer_state_in r.state ≡ opened_state (call_verdict_of c) c
