-- `plane::paint_judged` meets its contract. Assumes nothing.
use Rattle.std.specs.Prelude.{◌≡◌}
use Rattle.laws.proofs.Prelude.{refl, sym, ap, ◌∙◌, true, List, arith, Float, nan, length, over}
use Rattle.pixel_segment.specs.Field.{cpu}
use Rattle.cover_statements.specs.Area.{areas_of}
use Rattle.cover_statements.specs.Carry.{is_light}
use Rattle.cover_statements.specs.InnerCell.{no_cells}
use Rattle.cover_statements.specs.Cover.{cover_at}
use Rattle.cover_statements.specs.Mark.{mark_of}
use Rattle.cover_statements.specs.Paint.{part_plane}
use Rattle.cover_statements.specs.Plane.{coverages_of, exchange}
use Rattle.cover_statements.specs.InnerWeighed.{weights_of, weights_plane}
use Rattle.cover_statements.proofs.Paintings.{paint_done}
use Rattle.cover_statements.proofs.Planes.{areas_length, areas_in_range, plane_of_areas}
use Rattle.cover_statements.proofs.Weighings.{coverages_are}
use Rattle.plane.proofs.paint_judged.Goals as goal
use Rattle.plane.proofs.paint_judged.Goals.{Else-not-sum_areas}

-- a part that number 9 does not refuse, and its areas
accepted : (c : Else-not-sum_areas) → is_light cpu 16 c.args.cover.covers c.args.part.now ≡ true
accepted c = sym c.sum_areas.ensures.light ∙ c.if-not-sum_areas.false

areas_are : (c : Else-not-sum_areas) → c.sum_areas.new.areas ≡ areas_of cpu 16 (cover_at c.args.cover.covers) c.args.part.now
areas_are c = c.sum_areas.ensures.areas_are (c.if-not-sum_areas.false)

areas_long : (c : Else-not-sum_areas) → length c.sum_areas.new.areas ≡ 256
areas_long c = ap length (areas_are c) ∙ areas_length cpu 16 (cover_at c.args.cover.covers) c.args.part.now

-- the coverages of the weights are the plane
plane_is : (t : Else-not-sum_areas) → weights_plane 16 (weights_of t.args.rule t.sum_areas.new.areas) ≡ part_plane cpu t.args.rule t.args.cover.covers t.args.part.now
plane_is t =
    ap (exchange nan 16) (coverages_are t.args.rule t.sum_areas.new.areas ∙ ap (coverages_of t.args.rule) (areas_are t))
    ∙ plane_of_areas cpu 16 t.args.rule (cover_at t.args.cover.covers) t.args.part.now nan

pub sum_areas-requires : goal.sum_areas-requires
unfolding no_cells
sum_areas-requires c = (refl, c.requires.1)

pub paint-requires-2 : goal.paint-requires-2
paint-requires-2 c =
    (areas_in_range cpu 16 c.args.cover.covers c.args.part.now refl (accepted (goal.at.paint-requires-2 c).Else-not-sum_areas) (areas_are (goal.at.paint-requires-2 c).Else-not-sum_areas), omega (arith, areas_long (goal.at.paint-requires-2 c).Else-not-sum_areas), c.requires.0)

pub returns : goal.returns
returns c =
    paint_done c.requires.0 (accepted (goal.at.returns c).Else-not-sum_areas)
    (c.paint-2.ensures.0 ∙ ap (λ (l : List Float). over l c.args.plane.now) (plane_is (goal.at.returns c).Else-not-sum_areas))
    (c.paint-2.ensures.1 ∙ ap mark_of (plane_is (goal.at.returns c).Else-not-sum_areas))
