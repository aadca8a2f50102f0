-- `plane::shade::paint_non_zero` meets its contract. Assumes nothing.
use Rattle.std.specs.Prelude.{◌≡◌}
use Rattle.laws.proofs.Prelude.{ap, ◌∙◌, List, arith, ℤ, length, length-map, over}
use Rattle.styling.specs.declared.FillRule.TheVariants.{NonZero}
use Rattle.cover_statements.specs.Mark.{mark_of}
use Rattle.cover_statements.specs.InnerWeighed.{Weighed, weight_in, weights_plane}
use Rattle.cover_statements.proofs.Weighings.{weights_are}
use Rattle.mark.proofs.Rests.{own_weights}
use Rattle.plane.proofs.shade.paint_non_zero.Goals as goal
use Rattle.plane.proofs.shade.paint_non_zero.Goals.{After-weigh_non_zero}

weighed : (w : After-weigh_non_zero) → Weighed w.weigh_non_zero.new.areas
weighed w = weights_are NonZero w.args.areas.now w.weigh_non_zero.ensures

weights-long : (w : After-weigh_non_zero) → length w.weigh_non_zero.new.areas ≡ length w.args.areas.now
weights-long w = ap length w.weigh_non_zero.ensures ∙ length-map w.args.areas.now (weight_in NonZero)

pub weigh_non_zero-requires : goal.weigh_non_zero-requires
weigh_non_zero-requires c = c.requires.0

pub write_plane-requires : goal.write_plane-requires
write_plane-requires c =
    (weighed (goal.at.write_plane-requires c).After-weigh_non_zero, omega (arith, weights-long (goal.at.write_plane-requires c).After-weigh_non_zero, c.requires.1), c.requires.2)

pub mark_of-requires : goal.mark_of-requires
mark_of-requires c =
    omega (arith, weights-long (goal.at.mark_of-requires c).After-weigh_non_zero, c.requires.1)

pub returns : goal.returns
returns c =
    (c.write_plane.ensures ∙ ap (λ (l : List ℤ). over (weights_plane 16 l) c.args.plane.now) c.weigh_non_zero.ensures, c.mark_of.ensures ∙ ap (λ (l : List ℤ). mark_of (weights_plane 16 l)) (own_weights (weighed (goal.at.returns c).After-weigh_non_zero) ∙ c.weigh_non_zero.ensures))
