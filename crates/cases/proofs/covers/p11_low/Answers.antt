-- P11, from the contracts. Assumes nothing.
use Rattle.laws.proofs.Prelude.{rules}
use Rattle.cases.proofs.covers.p11_low.Goals as goal

pub returns : goal.returns
returns c = rw (c.p11_carried-carried.ensures.0, c.p11_carried-carried.ensures.1)
