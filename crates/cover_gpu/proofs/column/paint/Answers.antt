-- `cover_gpu::column::paint` meets its contract. Assumes nothing.
use Rattle.std.specs.Prelude.{◌≡◌}
use Rattle.laws.proofs.Prelude.{refl, sym, ap, ◌∙◌, ℕ, arith, rules, length, length-map, over}
use Rattle.pixel_segment.specs.Field.{gpu}
use Rattle.cover_statements.specs.InnerWeighed.{Weighed, coverage_in, coverages_in, repeated}
use Rattle.cover_statements.proofs.Filled.{over_whole}
use Rattle.cover_statements.proofs.Repeats.{column_in_range, column_long, column_painted}
use Rattle.cover_statements.proofs.Weighings.{weights_are}
use Rattle.cover_gpu.proofs.column.paint.Goals as goal
use Rattle.cover_gpu.proofs.column.paint.Goals.{After-weigh}

long : (w : After-weigh) → length w.args.cover.covers ≡ 4
long w = search rules

-- the weights of the column
weighed : (w : After-weigh) → Weighed w.weigh.new.areas
weighed w = weights_are w.args.rule w.column_areas.new.areas w.weigh.ensures

weights-long : (w : After-weigh) → length w.weigh.new.areas ≡ 4
weights-long w = column_long gpu 4 w.args.rule w.args.cover.covers (long w) w.column_areas.ensures w.weigh.ensures

pub column_areas-requires : goal.column_areas-requires
column_areas-requires c = sym (search rules)

pub weigh-requires : goal.weigh-requires
weigh-requires c =
    column_in_range gpu 4 c.args.cover.covers (search rules) c.requires.0 c.column_areas.ensures

pub write_coverages-requires : goal.write_coverages-requires
write_coverages-requires c = (weighed (goal.at.write_coverages-requires c).After-weigh, omega (arith, weights-long (goal.at.write_coverages-requires c).After-weigh))

pub returns : goal.returns
returns c =
    let s = (goal.at.returns c).After-weigh in
    let q = c.write_coverages in
    let a = c.column_areas.ensures in
    let e = length-map c.weigh.new.areas coverage_in ∙ weights-long (goal.at.returns c).After-weigh in
    let l : length q.new.plane ≡ 4 = ap length (q.ensures ∙ over_whole (coverages_in c.weigh.new.areas) _ (sym e)) ∙ e in
    column_painted gpu 4 s.args.rule s.args.cover.covers (long s) a c.weigh.ensures _ s.args.plane.now refl q.ensures
    (c.repeat_column.ensures ∙ ap (λ (k : ℕ). over (repeated k q.new.plane) s.args.plane.now) l)
