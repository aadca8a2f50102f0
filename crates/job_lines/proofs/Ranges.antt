-- What the rules on a line say of its numbers, as bounds on their parts.
-- Assumes nothing.
use Rattle.std.specs.Prelude.{◌≡◌, ◌&&◌, ◌||◌, ◌+◌, ◌≤◌, ◌<◌, ◌-ℤ◌}
use Rattle.laws.proofs.Prelude.{true, not, arith, ℤ, pos, w32, SFits, plus, minus, is_within, left, right, whole}
use Rattle.laws.proofs.Prelude.{added, taken, sfits}
use Rattle.laws.proofs.Ranges.{within}
use Rattle.pixel_segment.specs.Field.{cpu}
use Rattle.pixel_segment.specs.Pack.{is_packable}
use Rattle.pixel_segment.proofs.Ranges.{cpu_layout, in_range_lem}
use Rattle.job_lines.specs.declared.layer.LayerLine.{LayerLine}
use Rattle.job_lines.specs.declared.segment.SegmentLine.{SegmentLine}
use Rattle.job_lines.specs.Rules.{is, is_plain, layer_rule, segment_rule}

-- 16 - y, for a y within a tile
pub fits_below : (y : ℤ) → (minus y ≡ 0) × (plus y < 16) → SFits w32 (pos 16 -ℤ y)
fits_below y h = sfits w32 (pos 16 -ℤ y) (record { above = omega (arith, taken (pos 16) y); below = omega (arith, taken (pos 16) y) })

-- a segment's fields lie within their widths, and its repeats within the tile
pub record InTile (s : SegmentLine) : Type 0 where
  pub y : (minus s.y ≡ 0) × (plus s.y ≤ 15)
  pub rows : (minus s.rows ≡ 0) × (1 ≤ plus s.rows) × (plus s.rows + plus s.y ≤ 16)
  pub tile_x : (minus s.tile_x ≤ 1) × (plus s.tile_x ≤ 4094)
  pub layer : (minus s.layer ≡ 0) × (plus s.layer ≤ 2097151)
  pub x : (minus s.x ≡ 0) × (plus s.x ≤ 15)
  pub mult : (minus s.mult ≡ 0) × (plus s.mult ≤ 63)
  pub cover : (minus s.cover ≤ 32) × (plus s.cover ≤ 31)

-- packing's ranges, and the test of the repeats
pub in_tile : (s : SegmentLine) → segment_rule s ≡ true → InTile s
unfolding segment_rule
in_tile s e =
    let a = is_packable cpu s.layer s.tile_x (pos 0) s.x s.y s.mult s.cover in
    let b = is_within (pos 1) (pos 16 -ℤ s.y) s.rows in
    let f = in_range_lem cpu cpu_layout s.layer s.tile_x (pos 0) s.x s.y s.mult s.cover (left a b e) in
    let wr = within (pos 1) (pos 16 -ℤ s.y) s.rows (right a b e) in
    record {
      y = omega (arith, f.local_y);
      rows = omega (arith, f.local_y, whole s.rows, taken (pos 16) s.y);
      tile_x = omega (arith, f.tile_x, added s.tile_x (pos 1));
      layer = omega (arith, f.layer_id);
      x = omega (arith, f.local_x);
      mult = omega (arith, f.multiplier);
      cover = omega (arith, f.cover);
    }

-- a layer's alpha is 0 to 256
pub alpha_range : (l : LayerLine) → layer_rule l ≡ true → (minus l.alpha ≡ 0) × (plus l.alpha ≤ 256)
unfolding layer_rule
alpha_range l e =
    let a = is_within (pos 0) (pos 256) l.alpha in
    let b = not (is (pos 1) l.clip) || is_plain l in
    let c = not (is (pos 0) l.clip) || is (pos 0) l.span in
    let w = within (pos 0) (pos 256) l.alpha (left a b (left (a && b) c e)) in
    omega (arith, whole l.alpha)
