-- `opening_columns::sums::add_segments` meets its contract. What holds at a word is `Tallying`. Assumes nothing.
use Rattle.std.specs.Prelude.{◌≡◌}
use Rattle.laws.proofs.Prelude.{refl, arith, get_or}
use Rattle.cover_statements.proofs.Filled.{get_d_default}
use Rattle.queue_statements.proofs.Summing.{key_of, ascending, start, end, refuse}
use Rattle.queue_statements.proofs.Tallying.{tally_next}
use Rattle.opening_columns.proofs.sums.add_segments.Goals as goal
use Rattle.opening_columns.proofs.sums.add_segments.Goals.{After-place_of-place}

-- the place of the word, by the ids of the opening
at : (c : After-place_of-place) → c.place_of-place.result ≡ key_of c.args.left.now (get_or c.args.left.now c.loop-word.word-index 0)
at c = rw c.requires.listed at c.place_of-place.ensures

pub loop-word-init : goal.loop-word-init
loop-word-init c = start c.requires refl (λ k. get_d_default 4096 k)

pub place_of-place-requires : goal.place_of-place-requires
place_of-place-requires c = (c.requires.few, c.requires.long, ascending c.requires)

pub returns-then-not-add_segment : goal.returns-then-not-add_segment
returns-then-not-add_segment c = refuse c.requires c.loop-word.invariant c.loop-word-test.true (at (goal.at.returns-then-not-add_segment c).After-place_of-place) c.add_segment.ensures (c.if-not-add_segment.true)

pub loop-word-preserved : goal.loop-word-preserved
loop-word-preserved c = tally_next c.loop-word.invariant c.loop-word-test.true (at (goal.at.loop-word-preserved c).After-place_of-place) c.add_segment.ensures (c.if-not-add_segment.false)

pub returns : goal.returns
returns c = end c.requires c.loop-word.invariant (omega arith)
