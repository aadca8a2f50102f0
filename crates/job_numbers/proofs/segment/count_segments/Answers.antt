-- `count_segments` meets its contract: the invariant and its steps are those of `Counting`. Assumes nothing.
use Rattle.laws.proofs.Prelude.{ap, ◌∙◌, arith, plus}
use Rattle.job_lines.specs.declared.segment.SegmentLine.{SegmentLine}
use Rattle.job_text_statements.proofs.Counting.{rule_at, next, end}
use Rattle.job_numbers.proofs.segment.count_segments.Goals as goal

pub repeats-count-requires : goal.repeats-count-requires
repeats-count-requires c =
    rw c.segment_at.ensures (rule_at c.args.numbers.now c.args.m c.loop-i.i c.requires.2 (omega arith))

pub loop-i-preserved : goal.loop-i-preserved
loop-i-preserved c =
    next c.loop-i.invariant c.repeats-count.result (omega arith)
    (c.repeats-count.ensures.0 ∙ ap (λ (s : SegmentLine). plus s.rows) c.segment_at.ensures)
    c.repeats-count.ensures.1

pub returns : goal.returns
returns c = end c.loop-i.invariant (omega arith)
