-- Number 9, from the contracts. Assumes nothing.
use Rattle.laws.proofs.Prelude.{◌∙◌, ap, rules, is_given}
use Rattle.cases.proofs.Accepted.{accepted_is}
use Rattle.cases.proofs.Table.{edges}
use Rattle.cases.proofs.covers.p11_passed.Goals as goal

pub returns : goal.returns
returns c = accepted_is c.carry-carried.ensures ∙ ap is_given edges.load_passes
