-- `mark::weights::is_used` meets its contract. Assumes nothing.
use Rattle.std.specs.Prelude.{◌+◌, ◌*◌}
use Rattle.laws.proofs.Prelude.{arith, w16, kept}
use Rattle.cover_statements.specs.Cover.{cover_at}
use Rattle.mark.proofs.Rests.{areas_above}
use Rattle.mark.proofs.weights.is_used.Goals as goal

pub returns : goal.returns
returns c =
    let areas = c.args.areas.now in
    let a = 8 * c.args.octet in
    rw (
      rw (kept w16 (cover_at areas a) (omega arith)) at c.is_above.ensures,
      rw (kept w16 (cover_at areas (a + 1)) (omega arith)) at c.is_above-2.ensures,
      rw (kept w16 (cover_at areas (a + 2)) (omega arith)) at c.is_above-3.ensures,
      rw (kept w16 (cover_at areas (a + 3)) (omega arith)) at c.is_above-4.ensures,
      rw (kept w16 (cover_at areas (a + 4)) (omega arith)) at c.is_above-5.ensures,
      rw (kept w16 (cover_at areas (a + 5)) (omega arith)) at c.is_above-6.ensures,
      rw (kept w16 (cover_at areas (a + 6)) (omega arith)) at c.is_above-7.ensures,
      rw (kept w16 (cover_at areas (a + 7)) (omega arith)) at c.is_above-8.ensures,
    )
    (areas_above areas c.args.octet c.requires)
