-- `plane::light::add_segments` meets its contract: two tables are filled, of double areas and of covers. Assumes nothing.
use Rattle.std.specs.Prelude.{◌+ℤ◌}
use Rattle.laws.proofs.Prelude.{arith, rules, pos, get_or, to_z-of_z, w8, w16, SFits, to_z, of_z, small, kept}
use Rattle.pixel_segment.specs.Field.{cpu, double_area_of}
use Rattle.pixel_segment.proofs.Widths.{cover_fits}
use Rattle.plane.proofs.LightCells.{cells_start, area_within, cover_within_lem, cells_next, cells_end}
use Rattle.plane.proofs.light.add_segments.Goals as goal
use Rattle.plane.proofs.light.add_segments.Goals.{After-cover_of-cover, After-area_of}

-- the cover as the definition has it, which fits eight bits
narrow : (o : After-cover_of-cover) → SFits w8 (to_z w16 (of_z w16 o.cover_of-cover.result))
narrow o = rw (kept w16 o.cover_of-cover.result o.cover_of-cover.type_inv, o.cover_of-cover.ensures) (cover_fits _)

-- the cell's area with the word's own fits
area_fits : (c : After-area_of) → let w = get_or c.args.part.now c.loop-word.word-index 0 in
    SFits w16 (get_or c.loop-word.areas c.cell-k.result (pos 0) +ℤ double_area_of cpu w)
area_fits c = small w16 _ (omega (arith, area_within c.loop-word.invariant c.loop-word-test.true c.cell-k.ensures))

pub loop-word-init : goal.loop-word-init
loop-word-init c = cells_start c.args.part.now c.args.incoming.covers (search rules) c.requires.0 c.requires.1 c.requires.2

pub overflow_add-areas : goal.overflow_add-areas
overflow_add-areas c =
    rw (
      kept w16 (get_or c.loop-word.areas c.cell-k.result (pos 0)) (omega arith),
      kept w16 c.area_of.result c.area_of.type_inv,
      c.area_of.ensures,
    )
    (area_fits (goal.at.overflow_add-areas c).After-area_of)

pub overflow_cast-covers : goal.overflow_cast-covers
overflow_cast-covers c = narrow (goal.at.overflow_cast-covers c).After-cover_of-cover

pub overflow_add-covers : goal.overflow_add-covers
overflow_add-covers c =
    rw (
      kept w8 (get_or c.loop-word.covers c.cell-k.result (pos 0)) (omega arith),
      to_z-of_z (narrow (goal.at.overflow_add-covers c).After-cover_of-cover),
      kept w16 c.cover_of-cover.result c.cover_of-cover.type_inv,
      c.cover_of-cover.ensures,
    )
    (small w8 _ (omega (arith, cover_within_lem c.loop-word.invariant c.loop-word-test.true c.cell-k.ensures)))

pub loop-word-preserved : goal.loop-word-preserved
loop-word-preserved c =
    cells_next c.loop-word.invariant c.loop-word-test.true c.cell-k.ensures
    (rw (
      kept w16 (get_or c.loop-word.areas c.cell-k.result (pos 0)) (omega arith),
      kept w16 c.area_of.result c.area_of.type_inv,
      c.area_of.ensures,
      to_z-of_z (area_fits (goal.at.loop-word-preserved c).After-area_of),
    ))
    (rw (
      to_z-of_z (overflow_add-covers c),
      kept w8 (get_or c.loop-word.covers c.cell-k.result (pos 0)) (omega arith),
      to_z-of_z (narrow (goal.at.loop-word-preserved c).After-cover_of-cover),
      kept w16 c.cover_of-cover.result c.cover_of-cover.type_inv,
      c.cover_of-cover.ensures,
    ))

pub returns : goal.returns
returns c = cells_end c.loop-word.invariant (omega arith)
