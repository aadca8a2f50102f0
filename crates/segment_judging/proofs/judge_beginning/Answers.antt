-- `judge_beginning` meets its contract. Assumes nothing.
use Rattle.std.specs.Prelude.{◌≡◌}
use Rattle.laws.proofs.Prelude.{lt-ltb, le-ltb, to_z-of_z, all}
use Rattle.segment_set_statements.specs.Set.{is_of, begin_verdict}
use Rattle.segment_judging.proofs.judge_beginning.Goals as goal
use Rattle.segment_judging.proofs.judge_beginning.Goals.{After-are_of}

are-told : (c : After-are_of) → c.are_of.result ≡ all (is_of c.args.layer_id c.args.tile_x c.args.tile_y) c.args.part.now
are-told c =
    rw (to_z-of_z c.ranges.tile_x, to_z-of_z c.ranges.tile_y) at c.are_of.ensures

pub returns-then-areas-lt256 : goal.returns-then-areas-lt256
unfolding begin_verdict
returns-then-areas-lt256 c = rw (lt-ltb _ _ c.if-areas-lt256.true)

pub returns-then-not-are_of : goal.returns-then-not-are_of
unfolding begin_verdict
returns-then-not-are_of c = rw (le-ltb _ _ c.if-areas-lt256.false, ← are-told (goal.at.returns-then-not-are_of c).After-are_of, c.if-not-are_of.true)

pub returns : goal.returns
unfolding begin_verdict
returns c =
    rw (le-ltb _ _ c.if-areas-lt256.false, ← are-told (goal.at.returns c).After-are_of, c.if-not-are_of.false, ← c.is_light.ensures) c.judge_load.ensures
