-- P7's draw by its painting, from the contracts: the call is that of specs/RecordCalls. Assumes nothing.
use Rattle.std.specs.Prelude.{◌&&◌}
use Rattle.laws.proofs.Prelude.{ap₂, ◌∙◌, rules}
use Rattle.cases.proofs.RecordCalls.{p7_mark, p7_half}
use Rattle.cases.proofs.records.p7_painted.Goals as goal

pub returns : goal.returns
returns c =
    let w = c.paint_records-painted.ensures in
    ap₂ ◌&&◌ (c.is_mark_0.ensures ∙ p7_mark w) (c.is_half.ensures ∙ p7_half w)
