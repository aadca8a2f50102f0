-- `plane::area::add_covers` meets its contract: it is the half of shading a column that leaves the areas alone. Assumes nothing.
use Rattle.std.specs.Prelude.{◌≡◌, ◌+◌, ◌*◌, ◌+ℤ◌, ◌*ℤ◌}
use Rattle.laws.proofs.Prelude.{refl, arith, rules, lt-ltb, pos, set, length-replicate}
use Rattle.laws.proofs.Prelude.{to_z-of_z, w8, small, kept, is_tabulate}
use Rattle.cover_statements.specs.Cover.{cover_at}
use Rattle.cover_statements.proofs.Shades.{shade_start, shade_next}
use Rattle.plane.proofs.area.add_covers.Invariants.{none}
use Rattle.plane.proofs.area.add_covers.Goals as goal

pub loop-y-init : goal.loop-y-init
loop-y-init c = record { reached = omega arith; areas = none; shaded = shade_start (length-replicate 256 (pos 0)) (search rules) }

pub overflow_add-next-in-loop-y : goal.overflow_add-next-in-loop-y
overflow_add-next-in-loop-y c =
    rw (
      kept w8 (cover_at c.args.sums c.loop-y.y) (omega arith),
      kept w8 (cover_at c.args.covers.now (c.args.column * 16 + c.loop-y.y)) (omega arith),
    )
    (small w8 _ (omega (arith, c.requires.1 c.loop-y.y c.loop-y-test.true)))

pub loop-y-preserved : goal.loop-y-preserved
loop-y-preserved c =
    record {
      reached = omega arith;
      areas = set c.loop-y.invariant.areas (c.args.column * 16 + c.loop-y.y) (pos 32 *ℤ cover_at c.args.sums c.loop-y.y +ℤ cover_at c.loop-y.invariant.areas (c.args.column * 16 + c.loop-y.y));
      shaded =
          shade_next c.loop-y.invariant.shaded c.requires.0 c.loop-y-test.true refl refl
          (rw (
            to_z-of_z (overflow_add-next-in-loop-y c),
            kept w8 (cover_at c.args.sums c.loop-y.y) (omega arith),
            kept w8 (cover_at c.args.covers.now (c.args.column * 16 + c.loop-y.y)) (omega arith),
          ));
    }

pub returns : goal.returns
returns c =
    let e : c.loop-y.y ≡ 16 = omega (arith, c.loop-y.invariant.reached) in
    let h = rw e at c.loop-y.invariant.shaded in
    is_tabulate 16 (λ y. cover_at c.args.sums y +ℤ cover_at c.args.covers.now (c.args.column * 16 + y)) (pos 0) c.loop-y.next h.sums_long
    (λ y p. rw (lt-ltb y 16 p) at (h.sum y p))
