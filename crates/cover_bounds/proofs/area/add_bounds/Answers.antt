-- `area::add_bounds` meets its contract. Assumes nothing.
use Rattle.std.specs.Prelude.{◌≡◌, ◌<◌, ◌+ℤ◌}
use Rattle.laws.proofs.Prelude.{sym, ◌∙◌, arith, pos, length, get_or, to_z-of_z, w8, w16, SFits, small, kept}
use Rattle.pixel_segment.specs.Field.{cpu, cover_of, double_area_of}
use Rattle.pixel_segment.proofs.Ranges.{cpu_layout}
use Rattle.cover_statements.specs.Cover.{cover_at}
use Rattle.cover_statements.specs.InnerCell.{cell_of}
use Rattle.cover_bounds_statements.specs.Chosen.{chosen}
use Rattle.cover_bounds_statements.specs.Within.{bound_at}
use Rattle.cover_bounds_statements.proofs.Choosing.{chosen_length, chosen_cell, chosen_cover, chosen_double_area}
use Rattle.cover_bounds_statements.proofs.Loops.{add_start, area_fits, cover_fits, add_next, add_end}
use Rattle.cover_bounds.proofs.area.add_bounds.Goals as goal
use Rattle.cover_bounds.proofs.area.add_bounds.Goals.{After-double_area}

-- the word where the loop stands, with its bound for its cover
low : (d : After-double_area) → d.loop-i.i < length d.args.part.now
low d = omega arith

here : (d : After-double_area) → d.loop-i.i < length (chosen cpu d.args.part.now (bound_at d.args.side d.args.bounds.now))
here d = rw (chosen_length cpu d.args.part.now (bound_at d.args.side d.args.bounds.now)) (low d)

cell-is : (d : After-double_area) → d.cell-k.result ≡ cell_of cpu 16 (get_or (chosen cpu d.args.part.now (bound_at d.args.side d.args.bounds.now)) d.loop-i.i 0)
cell-is d =
    d.cell-k.ensures
    ∙ sym (chosen_cell cpu d.args.part.now (bound_at d.args.side d.args.bounds.now) cpu_layout d.loop-i.i (low d) 16)

cover_is : (d : After-double_area) → d.bound_at-cover.result ≡ cover_of cpu (get_or (chosen cpu d.args.part.now (bound_at d.args.side d.args.bounds.now)) d.loop-i.i 0)
cover_is d =
    d.bound_at-cover.ensures
    ∙ sym (chosen_cover cpu d.args.part.now (bound_at d.args.side d.args.bounds.now) cpu_layout d.loop-i.i (low d) d.requires.0.held)

area_is : (d : After-double_area) → d.double_area.result ≡ double_area_of cpu (get_or (chosen cpu d.args.part.now (bound_at d.args.side d.args.bounds.now)) d.loop-i.i 0)
area_is d =
    rw (kept w8 d.bound_at-cover.result d.bound_at-cover.type_inv, d.bound_at-cover.ensures) at d.double_area.ensures
    ∙ sym (chosen_double_area cpu d.args.part.now (bound_at d.args.side d.args.bounds.now) cpu_layout d.loop-i.i (low d) d.requires.0.held)

-- the cell's sum of double areas is small
sum_small : (d : After-double_area)
    → SFits w16 (cover_at d.loop-i.areas d.cell-k.result +ℤ double_area_of cpu (get_or (chosen cpu d.args.part.now (bound_at d.args.side d.args.bounds.now)) d.loop-i.i 0))
sum_small d = small w16 _ (omega (arith, area_fits d.requires.0.few d.loop-i.invariant.1 (here d) (cell-is d)))

pub loop-i-init : goal.loop-i-init
loop-i-init c = (omega arith, add_start c.requires.1 c.requires.2)

pub overflow_add-areas : goal.overflow_add-areas
overflow_add-areas c =
    let d = (goal.at.overflow_add-areas c).After-double_area in
    rw (kept w16 (get_or c.loop-i.areas c.cell-k.result (pos 0)) (omega arith), kept w16 c.double_area.result c.double_area.type_inv, area_is d)
    (sum_small d)

pub overflow_add-covers : goal.overflow_add-covers
overflow_add-covers c =
    rw (
      kept w8 (get_or c.loop-i.covers c.cell-k.result (pos 0)) (omega arith),
      kept w8 c.bound_at-cover.result c.bound_at-cover.type_inv,
      cover_is (goal.at.overflow_add-covers c).After-double_area,
    )
    (small w8 _ (omega (arith, cover_fits c.requires.0.few c.loop-i.invariant.1 (here (goal.at.overflow_add-covers c).After-double_area) (cell-is (goal.at.overflow_add-covers c).After-double_area))))

pub loop-i-preserved : goal.loop-i-preserved
loop-i-preserved c = (
  omega arith,
  add_next c.requires.0.few c.loop-i.invariant.1 (here (goal.at.loop-i-preserved c).After-double_area) (cell-is (goal.at.loop-i-preserved c).After-double_area)
      (rw (
        kept w16 (get_or c.loop-i.areas c.cell-k.result (pos 0)) (omega arith),
        kept w16 c.double_area.result c.double_area.type_inv,
        area_is (goal.at.loop-i-preserved c).After-double_area,
        to_z-of_z (sum_small (goal.at.loop-i-preserved c).After-double_area),
      ))
      (rw (
        to_z-of_z (overflow_add-covers c),
        kept w8 (get_or c.loop-i.covers c.cell-k.result (pos 0)) (omega arith),
        kept w8 c.bound_at-cover.result c.bound_at-cover.type_inv,
        cover_is (goal.at.loop-i-preserved c).After-double_area,
      )),
)

pub returns : goal.returns
returns c =
    add_end c.requires.0.few c.loop-i.invariant.1 (rw (chosen_length cpu c.args.part.now (bound_at c.args.side c.args.bounds.now)) (omega arith))
