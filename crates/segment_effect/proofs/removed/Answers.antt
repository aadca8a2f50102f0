-- `removed` meets its contract. Assumes nothing.
use Rattle.std.specs.Prelude.{◌-◌, ◌-ℤ◌}
use Rattle.laws.proofs.Prelude.{arith, ℕ, pos, ◌+ℤ◌, SFits, neg_ℤ, +ℤ_idl, to_z-of_z, w8, kept}
use Rattle.pixel_segment.specs.Field.{cpu, cover_of}
use Rattle.pixel_segment.proofs.Widths.{in_cover}
use Rattle.segment_set_statements.specs.Effect.{carry_after, loads_after}
use Rattle.segment_set_statements.proofs.Changes.{changes}
use Rattle.segment_set_statements.proofs.Wrapping.{opposite_fits}
use Rattle.segment_effect.proofs.removed.Goals as goal

-- the opposite of a cover is a cover
opposite_cover : (w : ℕ) → SFits w8 (pos 0 +ℤ neg_ℤ (cover_of cpu w))
opposite_cover w = opposite_fits w8 (cover_of cpu w) (omega (arith, in_cover w))

pub overflow_sub-cover : goal.overflow_sub-cover
overflow_sub-cover c =
    let w = c.args.word in
    rw (kept w8 c.cover-cover.result c.cover-cover.type_inv, c.cover-cover.ensures)
    (opposite_cover w)

pub returns : goal.returns
unfolding carry_after loads_after
returns c =
    let cover = rw (kept w8 c.cover-cover.result c.cover-cover.type_inv, c.cover-cover.ensures, to_z-of_z (opposite_cover c.args.word), c.local_y-y.ensures, +ℤ_idl (neg_ℤ (cover_of cpu c.args.word))) at c.carry_with-carry.ensures in
    let load = rw (kept w8 c.cover-cover.result c.cover-cover.type_inv, c.cover-cover.ensures) at c.cover_magnitude.ensures.0 in
    changes ◌-ℤ◌ ◌-◌ c.args.word c.args.count c.args.set cover (rw (load, c.local_y-y.ensures) at c.lower-loads.ensures)
