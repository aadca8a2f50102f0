-- `added` meets its contract. Assumes nothing.
use Rattle.std.specs.Prelude.{◌+◌, ◌+ℤ◌}
use Rattle.laws.proofs.Prelude.{arith, w8, kept}
use Rattle.segment_set_statements.specs.Effect.{carry_after, loads_after}
use Rattle.segment_set_statements.proofs.Changes.{changes}
use Rattle.segment_effect.proofs.added.Goals as goal

pub raise-loads-requires : goal.raise-loads-requires
raise-loads-requires c =
    let m = rw (kept w8 c.cover-cover.result c.cover-cover.type_inv, c.cover-cover.ensures) at c.cover_magnitude.ensures.0 in
    rw (c.local_y-y.ensures, m) (omega arith, c.requires)

pub returns : goal.returns
unfolding carry_after loads_after
returns c =
    let cover = rw (kept w8 c.cover-cover.result c.cover-cover.type_inv, c.cover-cover.ensures, c.local_y-y.ensures) at c.carry_with-carry.ensures in
    let load = rw (kept w8 c.cover-cover.result c.cover-cover.type_inv, c.cover-cover.ensures) at c.cover_magnitude.ensures.0 in
    changes ◌+ℤ◌ ◌+◌ c.args.word c.args.count c.args.set cover (rw (load, c.local_y-y.ensures) at c.raise-loads.ensures)
