-- `records::work_p11` meets its contract: the call is that of specs/RecordCalls. Assumes nothing.
use Rattle.laws.proofs.Prelude.{◌∙◌, rules}
use Rattle.cases.proofs.RecordCalls.{p11_handed}
use Rattle.cases.proofs.records.work_p11.Goals as goal

pub returns : goal.returns
returns c =
    let h = p11_handed c.work_records-worked.ensures in
    (c.is_done.ensures ∙ h.accepted, h.left, c.read_cover-cover.ensures ∙ h.covers)
