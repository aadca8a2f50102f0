-- `plane::column::paint` meets its contract. Assumes nothing.
use Rattle.std.specs.Prelude.{◌≡◌}
use Rattle.laws.proofs.Prelude.{refl, sym, ap, ◌∙◌, ℕ, arith, rules, length, length-map, over}
use Rattle.pixel_segment.specs.Field.{cpu}
use Rattle.cover_statements.specs.Mark.{mark_of}
use Rattle.cover_statements.specs.InnerWeighed.{Weighed, coverage_in, coverages_in, repeated}
use Rattle.cover_statements.proofs.Filled.{over_whole}
use Rattle.cover_statements.proofs.Repeats.{column_in_range, column_long, column_plane, column_painted}
use Rattle.cover_statements.proofs.Weighings.{weights_are}
use Rattle.plane.proofs.column.paint.Goals as goal
use Rattle.plane.proofs.column.paint.Goals.{After-weigh}

long : (w : After-weigh) → length w.args.cover.covers ≡ 16
long w = search rules

-- the weights of the column
weighed : (w : After-weigh) → Weighed w.weigh.new.areas
weighed w = weights_are w.args.rule w.column_areas.new.areas w.weigh.ensures

weights-long : (w : After-weigh) → length w.weigh.new.areas ≡ 16
weights-long w = column_long cpu 16 w.args.rule w.args.cover.covers (long w) w.column_areas.ensures w.weigh.ensures

pub column_areas-requires : goal.column_areas-requires
column_areas-requires c = sym (search rules)

pub weigh-requires : goal.weigh-requires
weigh-requires c =
    column_in_range cpu 16 c.args.cover.covers (search rules) c.requires.0 c.column_areas.ensures

pub write_coverages-requires : goal.write_coverages-requires
write_coverages-requires c = (weighed (goal.at.write_coverages-requires c).After-weigh, omega (arith, weights-long (goal.at.write_coverages-requires c).After-weigh))

pub mark_of_column-requires : goal.mark_of_column-requires
mark_of_column-requires c = (weighed (goal.at.mark_of_column-requires c).After-weigh, omega (arith, weights-long (goal.at.mark_of_column-requires c).After-weigh))

pub returns : goal.returns
returns c =
    let s = (goal.at.returns c).After-weigh in
    let q = c.write_coverages in
    let a = c.column_areas.ensures in
    let e = length-map c.weigh.new.areas coverage_in ∙ weights-long (goal.at.returns c).After-weigh in
    let l : length q.new.plane ≡ 16 = ap length (q.ensures ∙ over_whole (coverages_in c.weigh.new.areas) _ (sym e)) ∙ e in (
      column_painted cpu 16 s.args.rule s.args.cover.covers (long s) a c.weigh.ensures _ s.args.plane.now refl q.ensures
          (c.repeat_column.ensures ∙ ap (λ (k : ℕ). over (repeated k q.new.plane) s.args.plane.now) l),
      c.mark_of_column.ensures ∙ ap mark_of (column_plane cpu 16 s.args.rule s.args.cover.covers (long s) a c.weigh.ensures),
    )
