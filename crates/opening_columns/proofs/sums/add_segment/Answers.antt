-- `opening_columns::sums::add_segment` meets its contract. Assumes nothing.
use Rattle.std.specs.Prelude.{◌≡◌}
use Rattle.laws.proofs.Prelude.{arith, pos, get_or, to_z-of_z, w8, small, kept}
use Rattle.queue_statements.specs.InnerSums.{load_with}
use Rattle.queue_statements.proofs.Placing.{placed_light, placed_heavy, sum_fits}
use Rattle.opening_columns.proofs.sums.add_segment.Goals as goal
use Rattle.opening_columns.proofs.sums.add_segment.Goals.{After-load_with-load}

-- the load, of the cover as the segment has it
load : (c : After-load_with-load) → c.load_with-load.result ≡ load_with c.args.loads.now c.args.place c.args.word
load c =
    rw (kept w8 c.cover-cover.result c.cover-cover.type_inv, c.cover-cover.ensures) at c.load_with-load.ensures

pub returns-then-load-gt127 : goal.returns-then-load-gt127
returns-then-load-gt127 c = placed_heavy (load (goal.at.returns-then-load-gt127 c).After-load_with-load) (omega arith)

pub overflow_add-sums : goal.overflow_add-sums
overflow_add-sums c =
    rw (kept w8 (get_or c.args.sums.now c.args.place (pos 0)) (omega arith), kept w8 c.cover-cover.result c.cover-cover.type_inv, c.cover-cover.ensures)
    (small w8 _ (omega (arith, sum_fits c.args.word c.requires (omega (arith, load (goal.at.overflow_add-sums c).After-load_with-load)))))

pub returns : goal.returns
returns c =
    placed_light (load (goal.at.returns c).After-load_with-load) (omega arith)
    (rw (to_z-of_z (overflow_add-sums c), kept w8 (get_or c.args.sums.now c.args.place (pos 0)) (omega arith), kept w8 c.cover-cover.result c.cover-cover.type_inv, c.cover-cover.ensures))
