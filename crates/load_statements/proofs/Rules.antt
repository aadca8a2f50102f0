-- The lines of a load keep the rules of document 01 on a job's values.
-- Assumes nothing.
use Rattle.std.specs.Prelude.{◌≡◌, ◌/◌, ◌%◌, ◌<◌, ◌-ℤ◌}
use Rattle.laws.proofs.Prelude.{refl, true, ℕ, arith, pos, is_within, both, taken, added, is_within_lem}
use Rattle.pixel_segment.specs.Field.{cpu}
use Rattle.pixel_segment.specs.Pack.{is_packable}
use Rattle.pixel_segment.proofs.Ranges.{cpu_layout, packable}
use Rattle.job_lines.specs.Rules.{layer_rule, segment_rule}
use Rattle.load_statements.specs.Draw.{draw_at}
use Rattle.load_statements.specs.Load.{load_layer, segment_from}
use Rattle.load_statements.proofs.Fields.{cover_small}

pub layer_passes : (id : ℕ) → layer_rule (load_layer id) ≡ true
unfolding layer_rule is_within load_layer
layer_passes id = refl

-- a segment line of a load packs, and is repeated within the tile
pub segment_passes : (s slot : ℕ) → slot < 32760 → segment_rule (segment_from s slot) ≡ true
unfolding segment_rule segment_from
segment_passes s slot h =
    let x = pos (draw_at s 1 % 16) in
    let y = pos (draw_at s 2 % 16) in
    let m = pos (draw_at s 3 % 33) in
    let c = pos (draw_at s 4 % 33) -ℤ pos 16 in
    let small = cover_small (draw_at s 4) in
    let tile = added (pos (slot / 8)) (pos 1) in
    let first = added (pos 0) (pos 1) in
    both (is_packable cpu (pos (slot % 8)) (pos (slot / 8)) (pos 0) x y m c) (is_within (pos 1) (pos 16 -ℤ y) (pos 1))
    (packable cpu cpu_layout (pos (slot % 8)) (pos (slot / 8)) (pos 0) x y m c
    (record {
      layer_id = (refl, omega arith);
      tile_x = (omega arith, omega (arith, tile));
      tile_y = (omega arith, omega (arith, first));
      local_x = (refl, omega arith);
      local_y = (refl, omega arith);
      multiplier = (refl, omega arith);
      cover = (omega (arith, small), omega (arith, small));
    }))
    (let rest = taken (pos 16) y in is_within_lem (pos 1) (pos 16 -ℤ y) (pos 1) (omega (arith, rest)) (omega (arith, rest)))
