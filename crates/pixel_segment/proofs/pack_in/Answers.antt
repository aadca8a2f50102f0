-- `pack_in` meets its contract: where every field holds its number, the number fits the type that `join` takes. Assumes nothing.
use Rattle.refusals.specs.declared.Refusal.TheVariants.{Fields}
use Rattle.std.specs.Prelude.{◌≡◌, ◌≤◌, ◌<◌, Ok, Err}
use Rattle.laws.proofs.Prelude.{sym, ◌∙◌, true, arith, ℤ, pos, nat_abs, w8, w16, w32, SFits, to_z-of_z, plus}
use Rattle.laws.proofs.Prelude.{minus, sfits, unsigned, whole, added}
use Rattle.pixel_segment.specs.Field.{widths_of}
use Rattle.pixel_segment.specs.Pack.{stored_of, is_packable, FieldsInRange}
use Rattle.pixel_segment.proofs.Ranges.{table_of, in_range_lem, wide, in_wide}
use Rattle.pixel_segment.proofs.ReadBack.{packs}
use Rattle.pixel_segment.proofs.pack_in.Goals as goal
use Rattle.pixel_segment.proofs.pack_in.Goals.{After-is_packable, Else-not-is_packable}

natural : (z : ℤ) → minus z ≡ 0 → nat_abs z ≡ plus z
natural z h = omega (arith, whole z)

fits-tile : {z : ℤ} → (minus z ≤ 1) × (stored_of z < 8192) → SFits w16 z
fits-tile {z} h = sfits w16 z (record { above = omega (arith, added z (pos 1)); below = omega arith })

fits-cover : {z : ℤ} → (minus z ≤ 32) × (plus z < 32) → SFits w8 z
fits-cover {z} h = sfits w8 z (record { above = omega arith; below = omega arith })

-- what the judge says of the arguments
judged : (c : After-is_packable) → let a = c.args in
    c.is_packable.result
    ≡ is_packable (widths_of a.layout) a.layer_id a.tile_x a.tile_y a.local_x a.local_y a.double_area_multiplier a.cover
judged c =
    let f = c.ranges in
    rw (
      to_z-of_z f.layer_id,
      to_z-of_z f.tile_x,
      to_z-of_z f.tile_y,
      to_z-of_z f.local_x,
      to_z-of_z f.local_y,
      to_z-of_z f.double_area_multiplier,
      to_z-of_z f.cover,
    ) at c.is_packable.ensures

accepted : (c : Else-not-is_packable) → let a = c.args in
    is_packable (widths_of a.layout) a.layer_id a.tile_x a.tile_y a.local_x a.local_y a.double_area_multiplier a.cover ≡ true
accepted c = sym (judged c.before) ∙ c.if-not-is_packable.false

held : (c : Else-not-is_packable) → let a = c.args in
    FieldsInRange wide a.layer_id a.tile_x a.tile_y a.local_x a.local_y a.double_area_multiplier a.cover
held c =
    let a = c.args in
    let l = a.layout in
    in_wide l
    (in_range_lem (widths_of l) (table_of l) a.layer_id a.tile_x a.tile_y a.local_x a.local_y a.double_area_multiplier a.cover (accepted c))

pub returns-then-not-is_packable : goal.returns-then-not-is_packable
returns-then-not-is_packable c =
    let a = c.args in
    packs (widths_of a.layout) (table_of a.layout)
    a.layer_id a.tile_x a.tile_y a.local_x a.local_y a.double_area_multiplier a.cover (Err Fields)
    (rw (sym (judged (goal.at.returns-then-not-is_packable c).After-is_packable) ∙ c.if-not-is_packable.true))

pub overflow_cast-layer_id : goal.overflow_cast-layer_id
overflow_cast-layer_id c =
    let z = c.args.layer_id in
    rw (to_z-of_z c.ranges.layer_id) (unsigned w32 z (held c).layer_id.0 (omega (arith, (held c).layer_id)))

pub overflow_cast-tile_x : goal.overflow_cast-tile_x
overflow_cast-tile_x c = rw (to_z-of_z c.ranges.tile_x) (fits-tile (omega (arith, (held c).tile_x)))

pub overflow_cast-tile_y : goal.overflow_cast-tile_y
overflow_cast-tile_y c = rw (to_z-of_z c.ranges.tile_y) (fits-tile (omega (arith, (held c).tile_y)))

pub overflow_cast-local_x : goal.overflow_cast-local_x
overflow_cast-local_x c =
    let z = c.args.local_x in
    rw (to_z-of_z c.ranges.local_x) (unsigned w8 z (held c).local_x.0 (omega (arith, (held c).local_x)))

pub overflow_cast-local_y : goal.overflow_cast-local_y
overflow_cast-local_y c =
    let z = c.args.local_y in
    rw (to_z-of_z c.ranges.local_y) (unsigned w8 z (held c).local_y.0 (omega (arith, (held c).local_y)))

pub overflow_cast-double_area_multiplier : goal.overflow_cast-double_area_multiplier
overflow_cast-double_area_multiplier c =
    let z = c.args.double_area_multiplier in
    rw (to_z-of_z c.ranges.double_area_multiplier) (unsigned w8 z (held c).multiplier.0 (omega (arith, (held c).multiplier)))

pub overflow_cast-cover : goal.overflow_cast-cover
overflow_cast-cover c = rw (to_z-of_z c.ranges.cover) (fits-cover (held c).cover)

pub returns : goal.returns
returns c =
    let a = c.args in
    let f = c.ranges in
    let h = held (goal.at.returns c).Else-not-is_packable in
    packs (widths_of a.layout) (table_of a.layout)
    a.layer_id a.tile_x a.tile_y a.local_x a.local_y a.double_area_multiplier a.cover (Ok (record { 0 = c.join-word.result }))
    (rw (
      accepted (goal.at.returns c).Else-not-is_packable,
      c.join-word.ensures,
      to_z-of_z f.layer_id,
      to_z-of_z f.tile_x,
      to_z-of_z f.tile_y,
      to_z-of_z f.local_x,
      to_z-of_z f.local_y,
      to_z-of_z f.double_area_multiplier,
      to_z-of_z f.cover,
      to_z-of_z (fits-tile {z = a.tile_x} (omega (arith, h.tile_x))),
      to_z-of_z (fits-tile {z = a.tile_y} (omega (arith, h.tile_y))),
      to_z-of_z (fits-cover h.cover),
      natural a.layer_id h.layer_id.0,
      natural a.local_x h.local_x.0,
      natural a.local_y h.local_y.0,
      natural a.double_area_multiplier h.multiplier.0,
    ))
