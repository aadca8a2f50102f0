-- `read_blocks` meets its contract: each answer is a law of `Answers`.
-- Assumes nothing.
use Rattle.laws.proofs.Prelude.{arith}
use Rattle.job_text_statements.proofs.Forms.{too_long}
use Rattle.job_text_statements.proofs.Answers.{cut-head, not-one, cut-layers, cut-segments, left_over, done}
use Rattle.job_blocks.proofs.read_blocks.Goals as goal

pub returns-then-s-gt65536 : goal.returns-then-s-gt65536
returns-then-s-gt65536 c = too_long _ (omega arith)

pub returns-in_err-count : goal.returns-in_err-count
returns-in_err-count c = rw c.from_residual.ensures (cut-head c.if-s-gt65536.false c.in_err-count.ensures)

pub returns-then-count-ne1 : goal.returns-then-count-ne1
returns-then-count-ne1 c = not-one c.if-s-gt65536.false c.in_ok-count.ensures c.if-count-ne1.true

pub read_block-requires-2 : goal.read_block-requires-2
read_block-requires-2 c = (c.in_ok-count.ensures.within, c.requires.1)

pub returns-in_err-n : goal.returns-in_err-n
returns-in_err-n c =
    rw c.from_residual-in_err-n.ensures (cut-layers c.if-s-gt65536.false c.in_ok-count.ensures c.if-count-ne1.false c.in_err-n.ensures)

pub read_block-requires-3 : goal.read_block-requires-3
read_block-requires-3 c = (c.in_ok-n.ensures.within, c.requires.2)

pub returns-in_err-m : goal.returns-in_err-m
returns-in_err-m c =
    rw c.from_residual-in_err-m.ensures
    (cut-segments c.if-s-gt65536.false c.in_ok-count.ensures c.if-count-ne1.false c.in_ok-n.ensures c.in_err-m.ensures)

pub returns-then-is_more : goal.returns-then-is_more
returns-then-is_more c =
    left_over c.if-s-gt65536.false c.in_ok-count.ensures c.if-count-ne1.false c.in_ok-n.ensures c.in_ok-m.ensures
    c.if-is_more.true

pub returns : goal.returns
returns c =
    done c.if-s-gt65536.false c.in_ok-count.ensures c.if-count-ne1.false c.in_ok-n.ensures c.in_ok-m.ensures
    c.if-is_more.false
