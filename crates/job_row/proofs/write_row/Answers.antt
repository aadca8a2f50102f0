-- `write_row` meets its contract: the invariant and its steps are those of `Rows`. Assumes nothing.
use Rattle.laws.proofs.Prelude.{arith, w16, w32, to_z, of_z, to_z-of_z, kept}
use Rattle.job_text_statements.proofs.Counting.{rule_at}
use Rattle.job_statements.proofs.Packing.{row_tile_lem}
use Rattle.job_statements.proofs.Rows.{line_room, next, end}
use Rattle.job_row.proofs.write_row.Goals as goal

pub write_segment-at-requires : goal.write_segment-at-requires
write_segment-at-requires c =
    let ns = c.args.numbers.now in
    let i = c.loop-i.i in
    let at = c.segment_at.ensures in
    let y = kept w16 c.to_tile_y-tile_y.result c.to_tile_y-tile_y.type_inv in (
      rw at (rule_at ns c.args.m i c.requires.1 (omega arith)),
      rw (y, c.to_tile_y-tile_y.ensures) (row_tile_lem (to_z w32 (of_z w32 c.args.number))),
      rw at (line_room c.loop-i.invariant (omega arith)),
    )

pub loop-i-preserved : goal.loop-i-preserved
loop-i-preserved c =
    let y = kept w16 c.to_tile_y-tile_y.result c.to_tile_y-tile_y.type_inv in
    next c.loop-i.invariant (omega arith) (rw y c.to_tile_y-tile_y.ensures)
    (rw c.segment_at.ensures at c.write_segment-at.ensures)

pub returns : goal.returns
returns c = end (rw (to_z-of_z c.ranges.number) at c.loop-i.invariant) (omega arith)
