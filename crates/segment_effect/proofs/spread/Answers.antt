-- `spread` meets its contract. Assumes nothing.
use Rattle.std.specs.Prelude.{◌+◌, ◌*◌}
use Rattle.laws.proofs.Prelude.{◌∙◌, arith, ne_eqb, to_z-of_z, w16, kept}
use Rattle.cover_statements.specs.Cover.{cover_at}
use Rattle.segment_set_statements.proofs.Spreading.{spread_next, spread_end}
use Rattle.segment_effect.proofs.spread.Goals as goal

pub loop-column-preserved : goal.loop-column-preserved
loop-column-preserved c =
    let x = c.args.x in
    let h = c.loop-column.invariant.0.from in (
      spread_next c.loop-column.invariant.0 (omega arith)
          (kept w16 c.add_area.result c.add_area.type_inv
          ∙ rw (kept w16 (cover_at c.loop-column.areas (c.loop-column.column * 16 + c.args.y)) (omega arith), c.loop-column.invariant.1) at c.add_area.ensures),
      rw (ne_eqb x (c.loop-column.column + 1) (λ e. omega arith)),
    )

pub returns : goal.returns
returns c =
    rw (to_z-of_z c.ranges.own, to_z-of_z c.ranges.past) at (spread_end c.loop-column.invariant.0 (omega arith))
