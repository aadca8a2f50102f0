-- What the functions below openings and works ask: that their judges passed.
use Rattle.std.specs.Prelude.{◌≡◌, ◌≤◌, ◌<◌}
use Rattle.laws.specs.Prelude.{true, List, ℕ, suc, Float, length, plus, minus}
use Rattle.pixel_segment.specs.Field.{gpu}
use Rattle.segment_rows.specs.Rows.{is_row}
use Rattle.cover_statements.specs.Carry.{is_light}
use Rattle.cover_statements.specs.Cover.{no_cover}
use Rattle.cover_statements.specs.WholeRow.{part_of}
use Rattle.layer_row_gpu.specs.LayerState.{LayerState}
use Rattle.layer_row_gpu.specs.OpenLayer.{LayerCall, layer_left}

pub record Openable (c : LayerCall) : Type 0 where
  pub first : (minus c.from ≡ 0) × (plus c.from ≤ 4095)
  pub in_order : is_row gpu (suc (plus c.tile_y)) c.row ≡ true
  pub light : is_light gpu 4 (no_cover 4) (layer_left c.from c.layer c.row) ≡ true

-- the layer's segments in the next tile
abbrev pub due_tile : LayerState → List ℕ → List ℕ
due_tile s row = part_of gpu (suc s.next) s.layer row

pub record WorkableLayer (s : LayerState) (row : List ℕ) (plane : List Float) : Type 0 where
  pub room : 64 ≤ length plane
  pub next : s.next < 4096
  pub in_order : is_row gpu (suc s.tile_y) row ≡ true
  pub light : is_light gpu 4 s.covers (due_tile s row) ≡ true
