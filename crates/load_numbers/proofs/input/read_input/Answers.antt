-- `read_input` meets its contract: each answer is a law of `Reading`. Assumes nothing.
use Rattle.laws.proofs.Prelude.{arith}
use Rattle.load_numbers.proofs.Reading.{no_seed, no_tiles, no_count, more_behind, numbers, nothing}
use Rattle.load_numbers.proofs.input.read_input.Goals as goal

pub returns-in_err-seed : goal.returns-in_err-seed
returns-in_err-seed c = rw c.from_residual.ensures (no_seed c.in_err-seed.ensures)

pub returns-in_err-tiles : goal.returns-in_err-tiles
returns-in_err-tiles c = rw c.from_residual-in_err-tiles.ensures (no_tiles c.in_ok-seed.ensures c.in_err-tiles.ensures)

pub returns-in_err-count : goal.returns-in_err-count
returns-in_err-count c =
    rw c.from_residual-in_err-count.ensures (no_count c.in_ok-seed.ensures c.in_ok-tiles.ensures c.in_err-count.ensures)

pub returns-then-last-text : goal.returns-then-last-text
returns-then-last-text c = more_behind c.in_ok-seed.ensures c.in_ok-tiles.ensures c.in_ok-count.ensures (omega arith)

pub returns-then-tiles-count : goal.returns-then-tiles-count
returns-then-tiles-count c =
    numbers c.in_ok-seed.ensures c.in_ok-tiles.ensures c.in_ok-count.ensures (omega arith) c.if-tiles-count.true

pub returns-else-tiles-count : goal.returns-else-tiles-count
returns-else-tiles-count c =
    nothing c.in_ok-seed.ensures c.in_ok-tiles.ensures c.in_ok-count.ensures (omega arith) c.if-tiles-count.false
