-- `area::shade_row` meets its contract. Assumes nothing.
use Rattle.std.specs.Prelude.{◌≡◌, ◌+◌, ◌*◌, ◌<◌, ◌+ℤ◌, ◌*ℤ◌}
use lib.IntN.{+ℤ_comm}
use Rattle.laws.proofs.Prelude.{refl, sym, ◌∙◌, ℕ, arith, ℤ, pos, to_z-of_z, w8, w16, SFits, to_z, of_z}
use Rattle.laws.proofs.Prelude.{sfits, small, kept, times, whole}
use Rattle.pixel_segment.specs.Field.{gpu, local_y_of}
use Rattle.cover_statements.specs.Cover.{cover_at}
use Rattle.cover_statements.proofs.Carries.{light}
use Rattle.cover_statements.proofs.Rows.{Fitting, sum_is, row_next, row_end_step, row_fits, first_sum}
use Rattle.cover_gpu.proofs.area.shade_row.Goals as goal
use Rattle.cover_gpu.proofs.area.shade_row.Goals.{In-loop-x}

low : (w : ℕ) → local_y_of gpu w < 4
low w = omega arith

-- the sum of the row's columns passed, and the pixel
abbrev sum_of : (c : In-loop-x) → ℤ
sum_of c = to_z w8 c.loop-x.sum-bits

abbrev own_of : (c : In-loop-x) → ℤ
own_of c = cover_at c.loop-x.areas (c.loop-x.x * 4 + c.args.y)

abbrev cell-of : (c : In-loop-x) → ℤ
cell-of c = cover_at c.args.covers.now (c.loop-x.x * 4 + c.args.y)

fitting : (c : In-loop-x) → Fitting (sum_of c) (own_of c) (cell-of c)
fitting c =
    let e = c.requires.cover_is ∙ sym (to_z-of_z c.ranges.cover) in
    let q = c.loop-x.invariant c.requires.covers c.requires.part e c.requires.done in
    row_fits low refl c.args.y c.loop-x.x q.0 c.requires.low c.loop-x-test.true e q.1 (light c.requires.light)

scaled : (c : In-loop-x) → SFits w16 (pos 32 *ℤ sum_of c)
scaled c = sfits w16 (pos 32 *ℤ sum_of c) (omega (arith, times 32 (sum_of c), whole (sum_of c), (fitting c).now_fits))

-- the sum at 16 bits, and with the pixel's covers
wide : (c : In-loop-x) → SFits w16 (sum_of c)
wide c = small w16 (sum_of c) (omega (arith, (fitting c).now_fits))

next_in : (c : In-loop-x) → SFits w8 (sum_of c +ℤ cell-of c)
next_in c = small w8 _ (omega (arith, (fitting c).next_fits))

pub loop-x-init : goal.loop-x-init
loop-x-init c = λ cs part e d. (d, first_sum gpu part c.args.y (to_z w8 (of_z w8 c.args.cover)))

pub overflow_add-next : goal.overflow_add-next
overflow_add-next c =
    let l = (goal.at.overflow_add-next c).In-loop-x in
    rw (kept w8 (cell-of l) (omega arith)) (next_in l)

pub overflow_add-areas : goal.overflow_add-areas
overflow_add-areas c =
    let l = (goal.at.overflow_add-areas c).In-loop-x in
    rw (to_z-of_z (wide l), to_z-of_z (scaled l), kept w16 (own_of l) (omega arith)) (rw (+ℤ_comm (own_of l) (pos 32 *ℤ sum_of l)) (small w16 _ (omega (arith, (fitting l).d_fits))))

pub loop-x-preserved : goal.loop-x-preserved
loop-x-preserved c =
    let l = (goal.at.loop-x-preserved c).In-loop-x in
    λ cs part e d.
    let q = c.loop-x.invariant cs part e d in (
      row_next low c.args.y c.loop-x.x q.0 c.requires.low c.loop-x-test.true e q.1 refl
          (rw (to_z-of_z (overflow_add-areas c), to_z-of_z (wide l), to_z-of_z (scaled l), kept w16 (own_of l) (omega arith)) (+ℤ_comm (own_of l) (pos 32 *ℤ sum_of l))),
      rw (kept w8 (cell-of l) (omega arith), to_z-of_z (next_in l)) (sum_is low c.args.y c.loop-x.x q.0 c.requires.low c.loop-x-test.true e q.1),
    )

pub returns : goal.returns
returns c =
    let e16 : c.loop-x.x ≡ 16 = omega arith in
    record { done = λ cs part e d. row_end_step c.args.y (rw e16 at (c.loop-x.invariant cs part (e ∙ sym (to_z-of_z c.ranges.cover)) d).0) }
