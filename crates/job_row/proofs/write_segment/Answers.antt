-- `write_segment` meets its contract: the invariant and its steps are those of `Rows`. Assumes nothing.
use Rattle.std.specs.Prelude.{◌≡◌}
use Rattle.laws.proofs.Prelude.{arith, to_z-of_z}
use Rattle.job_statements.proofs.Rows.{packs_at, repeat, last}
use Rattle.job_row.proofs.write_segment.Goals as goal

pub pack-requires : goal.pack-requires
pack-requires c =
    rw (to_z-of_z c.ranges.tile_y) (packs_at c.args.s c.to_fields-f.ensures c.requires.0 c.args.tile_y c.loop-i.i c.requires.1 (omega arith))

pub loop-i-preserved : goal.loop-i-preserved
loop-i-preserved c = repeat c.loop-i.invariant (omega arith) c.pack.ensures

pub returns : goal.returns
returns c =
    let all : c.loop-i.i ≡ c.to_fields-f.result.rows = omega (arith, c.loop-i.invariant.within) in
    rw all at (last (rw (to_z-of_z c.ranges.tile_y) at c.loop-i.invariant) c.args.s c.to_fields-f.ensures (omega arith))
