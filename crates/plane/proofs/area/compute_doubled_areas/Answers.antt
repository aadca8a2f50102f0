-- `plane::area::compute_doubled_areas` meets its contract. Assumes nothing.
use Rattle.std.specs.Prelude.{◌≡◌, ◌+◌, ◌*◌, ◌^◌, ◌<◌, ◌+ℤ◌, ◌*ℤ◌}
use Rattle.laws.proofs.Prelude.{refl, ℕ, arith, sfits_of, lt-ltb, ℤ, pos, set, mag}
use Rattle.laws.proofs.Prelude.{to_z-of_z, sfits_widen, w8, w16, SFits, sfits, within, small, kept, times, length_tabulate, get_d_tabulate}
use Rattle.std.proofs.Math.IntN.{+ℤ_comm}
use Rattle.cover_statements.specs.Cover.{cover_at}
use Rattle.cover_statements.proofs.Shades.{shade_area, shade_next}
use Rattle.plane.proofs.area.compute_doubled_areas.Goals as goal

-- a row's sum at 16 bits, and 32 times it
wide : (z : ℤ) → mag z < 2 ^ 7 → SFits w16 z
wide z h = sfits_widen {w = w8} tt (sfits_of h)

scaled : (z : ℤ) → mag z < 2 ^ 7 → SFits w16 (pos 32 *ℤ z)
scaled z h = sfits w16 (pos 32 *ℤ z) (omega (arith, times 32 z, within w8 z (sfits_of h)))

pub overflow_add-areas : goal.overflow_add-areas
overflow_add-areas c =
    let z = cover_at c.args.sums c.loop-y.y in
    rw (
      kept w8 z (omega arith),
      to_z-of_z (wide z (omega arith)),
      to_z-of_z (scaled z (omega arith)),
      kept w16 (cover_at c.loop-y.areas (c.args.column * 16 + c.loop-y.y)) (omega arith),
      shade_area c.loop-y.invariant.shaded c.requires.low c.loop-y-test.true,
      +ℤ_comm (cover_at c.args.areas.now (c.args.column * 16 + c.loop-y.y)) (pos 32 *ℤ z),
    )
    (small w16 _ (omega (arith, c.requires.area_small c.loop-y.y c.loop-y-test.true)))

pub loop-y-preserved : goal.loop-y-preserved
loop-y-preserved c =
    let z = cover_at c.args.sums c.loop-y.y in
    record {
      reached = omega arith;
      next = set c.loop-y.invariant.next c.loop-y.y (z +ℤ cover_at c.args.covers.now (c.args.column * 16 + c.loop-y.y));
      shaded =
          shade_next c.loop-y.invariant.shaded c.requires.low c.loop-y-test.true refl
          (rw (
            to_z-of_z (overflow_add-areas c),
            kept w8 z (omega arith),
            to_z-of_z (wide z (omega arith)),
            to_z-of_z (scaled z (omega arith)),
            kept w16 (cover_at c.loop-y.areas (c.args.column * 16 + c.loop-y.y)) (omega arith),
            +ℤ_comm (cover_at c.loop-y.areas (c.args.column * 16 + c.loop-y.y)) (pos 32 *ℤ z),
          ))
          refl;
    }

pub returns : goal.returns
returns c =
    let e : c.loop-y.y ≡ 16 = omega (arith, c.loop-y.invariant.reached) in
    let h = rw e at c.loop-y.invariant.shaded in
    let f : ℕ → ℤ = λ y. cover_at c.args.sums y +ℤ cover_at c.args.covers.now (c.args.column * 16 + y) in
    record {
      long = h.long;
      area = h.area;
      sums_long = rw c.add_covers.ensures (length_tabulate 16 f);
      sum = λ y p. rw (c.add_covers.ensures, lt-ltb y 16 p) (get_d_tabulate 16 f (pos 0) y p);
    }
