-- What the functions below a range ask and give. Once the first tile is judged, only the row's end, the planes and number 9 are judged of the others.
use Rattle.std.specs.Prelude.{◌≡◌, ◌≤◌, ◌<◌, Option, None, Some}
use Rattle.laws.specs.Prelude.{Bool, true, not, List, ℕ, suc, leb}
use Rattle.refusals.specs.Refusal.{pass, unless}
use Rattle.pixel_segment.specs.Field.{gpu}
use Rattle.segment_rows.specs.Rows.{is_row}
use Rattle.cover_statements.specs.Carry.{is_light}
use Rattle.layer_row_gpu.specs.LayerState.{LayerState}
use Rattle.layer_row_gpu.specs.WorkTiles.{tiles_end_in, NextTile, next_tile}
use Rattle.layer_row_gpu.specs.InnerWorks.{due_tile}
use Rattle.layer_row_gpu.specs.declared.tiles.Ended.{Ended}

-- a state that openings and works lead to, and a row in order
pub record Ready (s : LayerState) (row : List ℕ) : Type 0 where
  pub row_low : s.tile_y ≤ 8190
  pub last_low : s.to ≤ 4095
  pub begun : s.from ≤ s.next
  pub within : s.next ≤ s.to
  pub in_order : is_row gpu (suc s.tile_y) row ≡ true

-- and a tile that nothing refuses
pub record ReadyTile (s : LayerState) (row : List ℕ) : Type 0 where
  pub ready : Ready s row
  pub left : s.next < s.to
  pub light : is_light gpu 4 s.covers (due_tile s row) ≡ true

-- the code tells why the range ends before the tile, if it does
abbrev pub next_in : Option Ended → NextTile
next_in None = NextTile.works
next_in (Some e) = NextTile.ends (tiles_end_in e)

abbrev pub next_judged : LayerState → List ℕ → Bool → NextTile
next_judged s row is_full = next_tile (leb s.to s.next) is_full (unless (not (is_light gpu 4 s.covers (due_tile s row))) 9 pass)
