-- `pack` meets its contract: packing takes the fields, so it answers the word. Assumes nothing.
use Rattle.laws.proofs.Prelude.{arith, w8, w16, to_z-of_z, kept}
use Rattle.job_statements.proofs.Packing.{down_in_tile, segment_is, never_refused}
use Rattle.job_row.proofs.pack.Goals as goal

pub overflow_add-f : goal.overflow_add-f
overflow_add-f c = omega (arith, down_in_tile c.args.f c.args.tile_y c.args.i c.requires)

pub returns-in-Ok : goal.returns-in-Ok
returns-in-Ok c =
    segment_is c.args.f c.args.tile_y c.args.i c.requires
    (rw (c.in-Ok.is, kept w16 c.args.f.tile_x (omega arith), to_z-of_z c.ranges.tile_y, kept w8 c.args.f.cover (omega arith)) at c.new.ensures.answer)

pub returns-in-Err : goal.returns-in-Err
returns-in-Err c =
    never_refused c.args.f c.args.tile_y c.args.i c.requires
    (rw (c.in-Err.is, kept w16 c.args.f.tile_x (omega arith), to_z-of_z c.ranges.tile_y, kept w8 c.args.f.cover (omega arith)) at c.new.ensures.answer)
