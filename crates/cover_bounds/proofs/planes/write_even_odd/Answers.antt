-- `planes::write_even_odd` meets its contract. Assumes nothing.
use Rattle.laws.proofs.Prelude.{ap, ◌∙◌, ℕ, arith, w16, kept}
use Rattle.styling.specs.declared.FillRule.TheVariants.{EvenOdd}
use Rattle.cover_statements.specs.Cover.{cover_at}
use Rattle.cover_statements.specs.Plane.{in_places}
use Rattle.cover_bounds_statements.specs.Interval.{least_weight, greatest_weight}
use Rattle.cover_bounds_statements.proofs.Loops.{place_next, place_end}
use Rattle.cover_bounds.proofs.planes.write_even_odd.Goals as goal

pub loop-place-preserved : goal.loop-place-preserved
loop-place-preserved c =
    let lows = c.args.lows.now in
    let highs = c.args.highs.now in
    let z = c.cell-k.result in (
      place_next c.loop-place.invariant.0 (omega arith)
          (rw (kept w16 (cover_at lows z) (omega arith), kept w16 (cover_at highs z) (omega arith)) at c.least_even_odd.ensures
          ∙ ap (λ (v : ℕ). least_weight EvenOdd (cover_at lows v) (cover_at highs v)) c.cell-k.ensures),
      place_next c.loop-place.invariant.1 (omega arith)
          (rw (kept w16 (cover_at lows z) (omega arith), kept w16 (cover_at highs z) (omega arith)) at c.greatest_even_odd.ensures
          ∙ ap (λ (v : ℕ). greatest_weight EvenOdd (cover_at lows v) (cover_at highs v)) c.cell-k.ensures),
    )

pub returns : goal.returns
unfolding in_places
returns c =
    record { least_is = place_end c.loop-place.invariant.0 (omega arith); greatest_is = place_end c.loop-place.invariant.1 (omega arith) }
