-- `is_segment` meets its contract: packing answers whether it takes the line's numbers, and where it does, 16 - y is a number. Assumes nothing.
use Rattle.std.specs.Prelude.{◌≡◌, ◌<◌, ◌^◌}
use Rattle.laws.proofs.Prelude.{ap, sym, ◌∙◌, true, ℤ, pos, mag, w32, w64, SFits, to_z, of_z, to_z-of_z, sfits_widen, plus}
use Rattle.laws.proofs.Prelude.{arith}
use Rattle.laws.proofs.Prelude.{minus, kept}
use mir.Val.{hbits}
use Rattle.pixel_segment.specs.Field.{cpu}
use Rattle.pixel_segment.specs.Pack.{is_packable, packed_answer, pack_of}
use Rattle.pixel_segment.proofs.Ranges.{cpu_layout, in_range_lem}
use Rattle.pixel_segment.proofs.ReadBack.{given_word, refused_means}
use Rattle.job_lines.specs.Rules.{segment_rule}
use Rattle.job_lines.proofs.Ranges.{fits_below}
use Rattle.job_lines.proofs.segment.is_segment.Goals as goal
use Rattle.job_lines.proofs.segment.is_segment.Goals.{After-pack-packed, In-Ok}

-- a number of 32 bits is one of 64
wide : (z : ℤ) → mag z < 2 ^ hbits w32 → SFits w64 z
wide z h = let f : SFits w32 z = record { sfits = h } in sfits_widen tt f

widened : (z : ℤ) → mag z < 2 ^ hbits w32 → SFits w64 (to_z w32 (of_z w32 z))
widened z h = rw (kept w32 z h) (wide z h)

-- a number of the line, as packing is handed it
handed : (z : ℤ) → mag z < 2 ^ hbits w32 → to_z w64 (of_z w64 (to_z w32 (of_z w32 z))) ≡ z
handed z h = rw (kept w32 z h) (to_z-of_z (wide z h))

-- what packing says of the line
judged : (c : After-pack-packed) → let s = c.args.s in
    packed_answer c.pack-packed.result ≡ pack_of cpu s.layer s.tile_x (pos 0) s.x s.y s.mult s.cover
judged c =
    let s = c.args.s in
    rw (
      handed s.layer (omega arith),
      handed s.tile_x (omega arith),
      handed s.x (omega arith),
      handed s.y (omega arith),
      handed s.mult (omega arith),
      handed s.cover (omega arith),
    ) at c.pack-packed.ensures.answer

-- where it gives a word, it takes the line's numbers
taken : (c : In-Ok) → let s = c.args.s in
    packed_answer c.pack-packed.result ≡ pack_of cpu s.layer s.tile_x (pos 0) s.x s.y s.mult s.cover
    → is_packable cpu s.layer s.tile_x (pos 0) s.x s.y s.mult s.cover ≡ true
taken c h =
    let s = c.args.s in
    (given_word cpu cpu_layout s.layer s.tile_x (pos 0) s.x s.y s.mult s.cover
    (sym h ∙ ap packed_answer c.in-Ok.is)).0

below : (c : In-Ok) → let s = c.args.s in
    packed_answer c.pack-packed.result ≡ pack_of cpu s.layer s.tile_x (pos 0) s.x s.y s.mult s.cover
    → (minus s.y ≡ 0) × (plus s.y < 16)
below c h =
    let s = c.args.s in
    (in_range_lem cpu cpu_layout s.layer s.tile_x (pos 0) s.x s.y s.mult s.cover (taken c h)).local_y

pub overflow_cast-s : goal.overflow_cast-s
overflow_cast-s c = widened c.args.s.layer c.type_inv.s.1.0.1

pub overflow_cast-s-2 : goal.overflow_cast-s-2
overflow_cast-s-2 c = widened c.args.s.tile_x c.type_inv.s.0.1

pub overflow_cast-s-3 : goal.overflow_cast-s-3
overflow_cast-s-3 c = widened c.args.s.x c.type_inv.s.1.1.0.1

pub overflow_cast-s-4 : goal.overflow_cast-s-4
overflow_cast-s-4 c = widened c.args.s.y c.type_inv.s.1.1.1.0.1

pub overflow_cast-s-5 : goal.overflow_cast-s-5
overflow_cast-s-5 c = widened c.args.s.mult c.type_inv.s.1.1.1.1.1.0.1

pub overflow_cast-s-6 : goal.overflow_cast-s-6
overflow_cast-s-6 c = widened c.args.s.cover c.type_inv.s.1.1.1.1.1.1.0.1

pub overflow_sub-s : goal.overflow_sub-s
overflow_sub-s c =
    let y = c.args.s.y in
    rw (kept w32 y c.type_inv.s.1.1.1.0.1) (fits_below y (below (goal.at.overflow_sub-s c).In-Ok (judged (goal.at.overflow_sub-s c).After-pack-packed)))

pub returns-in-Ok : goal.returns-in-Ok
unfolding segment_rule
returns-in-Ok c =
    let s = c.args.s in
    rw (
      c.is_within.ensures,
      taken (goal.at.returns-in-Ok c).In-Ok (judged (goal.at.returns-in-Ok c).After-pack-packed),
      kept w32 s.rows (omega arith),
      kept w32 s.y (omega arith),
      to_z-of_z (fits_below s.y (below (goal.at.returns-in-Ok c).In-Ok (judged (goal.at.returns-in-Ok c).After-pack-packed))),
    )

pub returns-in-Err : goal.returns-in-Err
unfolding segment_rule
returns-in-Err c =
    let s = c.args.s in
    rw (refused_means cpu cpu_layout s.layer s.tile_x (pos 0) s.x s.y s.mult s.cover
    (sym (judged (goal.at.returns-in-Err c).After-pack-packed) ∙ ap packed_answer c.in-Err.is))
