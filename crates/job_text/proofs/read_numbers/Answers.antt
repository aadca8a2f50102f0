-- `read_numbers` meets its contract: each answer is a law of `Verdicts`. Assumes nothing.
use Rattle.decimal.proofs.Steps.{is_true, is_false}
use Rattle.job_text_statements.proofs.Verdicts.{broken, few_lines, layers_long, segments_long, bad_layers, bad_segments, too_many, good}
use Rattle.job_text.proofs.read_numbers.Goals as goal

pub returns-in_err-n : goal.returns-in_err-n
returns-in_err-n c = rw c.from_residual.ensures (broken _ c.in_err-n.ensures)

pub are_layers-requires : goal.are_layers-requires
are_layers-requires c =
    let r = c.requires in
    layers_long c.in_ok-n.ensures r.0 r.1 r.2

pub returns-then-not-are_layers : goal.returns-then-not-are_layers
returns-then-not-are_layers c =
    let r = c.requires in
    bad_layers c.in_ok-n.ensures r.0 r.1 r.2 (is_false c.are_layers.ensures c.if-not-are_layers.true)

pub are_segments-requires : goal.are_segments-requires
are_segments-requires c =
    let r = c.requires in
    segments_long c.in_ok-n.ensures r.0 r.1 r.2

pub returns-then-not-are_segments : goal.returns-then-not-are_segments
returns-then-not-are_segments c =
    let r = c.requires in
    bad_segments c.in_ok-n.ensures r.0 r.1 r.2
    (is_true c.are_layers.ensures c.if-not-are_layers.false) (is_false c.are_segments.ensures c.if-not-are_segments.true)

pub count_segments-count-requires : goal.count_segments-count-requires
count_segments-count-requires c =
    let r = c.requires in
    let b = c.in_ok-n.ensures in
    (segments_long b r.0 r.1 r.2, few_lines b r.0 r.1 r.2, is_true c.are_segments.ensures c.if-not-are_segments.false)

pub returns-then-count-gt2048 : goal.returns-then-count-gt2048
returns-then-count-gt2048 c =
    let r = c.requires in
    too_many c.in_ok-n.ensures r.0 r.1 r.2
    (is_true c.are_layers.ensures c.if-not-are_layers.false) (is_true c.are_segments.ensures c.if-not-are_segments.false)
    c.count_segments-count.ensures c.if-count-gt2048.true

pub returns : goal.returns
returns c =
    let r = c.requires in
    good c.in_ok-n.ensures r.0 r.1 r.2
    (is_true c.are_layers.ensures c.if-not-are_layers.false) (is_true c.are_segments.ensures c.if-not-are_segments.false)
    c.count_segments-count.ensures c.if-count-gt2048.false
