-- `painting::paint_judged` meets its contract. Assumes nothing.
use Rattle.std.specs.Prelude.{◌≡◌}
use Rattle.laws.proofs.Prelude.{refl, sym, ap, ◌∙◌, List, ℕ, arith, Float, ℤ, nan, length, length-map}
use Rattle.laws.proofs.Prelude.{over}
use Rattle.pixel_segment.specs.Field.{gpu}
use Rattle.cover_statements.specs.Area.{areas_of}
use Rattle.cover_statements.specs.InnerCell.{no_cells}
use Rattle.cover_statements.specs.Cover.{cover_at}
use Rattle.cover_statements.specs.Plane.{coverages_of, exchange, plane_of}
use Rattle.cover_statements.specs.InnerWeighed.{weight_in, Weighed, coverages_in, weights_plane}
use Rattle.cover_statements.proofs.Planes.{areas_length, areas_in_range, plane_of_areas}
use Rattle.cover_statements.proofs.Weighings.{weights_are, coverages_are}
use Rattle.cover_gpu.proofs.Paintings.{gpu_done}
use Rattle.cover_gpu.proofs.painting.paint_judged.Goals as goal
use Rattle.cover_gpu.proofs.painting.paint_judged.Goals.{After-weigh}

areas_long : (cs : List ℤ) (part : List ℕ) (areas : List ℤ) → areas ≡ areas_of gpu 4 (cover_at cs) part → length areas ≡ 64
areas_long cs part areas e = ap length e ∙ areas_length gpu 4 (cover_at cs) part

-- a part that number 9 does not refuse, and its areas
areas_are : (w : After-weigh) → w.judged_areas.new.areas ≡ areas_of gpu 4 (cover_at w.args.cover.covers) w.args.part.now
areas_are w = w.judged_areas.ensures.areas_are w.if-not-judged_areas.false

weights-long : (w : After-weigh) → length w.weigh.new.areas ≡ 64
weights-long w =
    ap length w.weigh.ensures ∙ length-map w.judged_areas.new.areas (weight_in w.args.rule) ∙ areas_long w.args.cover.covers w.args.part.now _ (areas_are w)

weighed : (w : After-weigh) → Weighed w.weigh.new.areas
weighed w = weights_are w.args.rule w.judged_areas.new.areas w.weigh.ensures

-- the coverages of the weights are the plane
plane_is : (w : After-weigh) → weights_plane 4 w.weigh.new.areas ≡ plane_of gpu 4 w.args.rule (cover_at w.args.cover.covers) w.args.part.now
plane_is w =
    ap (exchange nan 4)
    (ap coverages_in w.weigh.ensures
    ∙ coverages_are w.args.rule w.judged_areas.new.areas
    ∙ ap (coverages_of w.args.rule) (areas_are w))
    ∙ plane_of_areas gpu 4 w.args.rule (cover_at w.args.cover.covers) w.args.part.now nan

pub judged_areas-requires : goal.judged_areas-requires
unfolding no_cells
judged_areas-requires c = refl

pub weigh-requires : goal.weigh-requires
weigh-requires c =
    areas_in_range gpu 4 c.args.cover.covers c.args.part.now refl (sym c.judged_areas.ensures.light ∙ c.if-not-judged_areas.false) (c.judged_areas.ensures.areas_are c.if-not-judged_areas.false)

pub write_plane-requires : goal.write_plane-requires
write_plane-requires c =
    (weighed (goal.at.write_plane-requires c).After-weigh, omega (arith, weights-long (goal.at.write_plane-requires c).After-weigh), c.requires)

pub returns : goal.returns
returns c =
    gpu_done c.requires (sym c.judged_areas.ensures.light ∙ c.if-not-judged_areas.false)
    (c.write_plane.ensures ∙ ap (λ (l : List Float). over l c.args.plane.now) (plane_is (goal.at.returns c).After-weigh))
