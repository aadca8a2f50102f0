-- The calls of specs/Verdicts. Assumes nothing.
use Rattle.laws.proofs.Prelude.{refl, is_within}
use Rattle.pixel_segment.specs.Field.{tile_of, cover_of}
use Rattle.pixel_segment.specs.Pack.{with_cover}
use Rattle.cover_statements.specs.Carry.{is_light}
use Rattle.cover_bounds_statements.specs.Chosen.{chosen, is_light_within}
use Rattle.cover_bounds_statements.specs.Within.{bounds_verdict}
use Rattle.cover_bounds_statements.specs.Verdicts.{BoundsCases}

pub verdicts : BoundsCases
unfolding bounds_verdict is_light_within chosen is_light with_cover is_within tile_of cover_of
verdicts = record { crossed = refl; heavy = refl; outside = refl; carry_crossed = refl; foreign = refl; few = refl; short = refl; light = refl }
