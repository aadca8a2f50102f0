-- What is carried in P11, from the contract of carrying. Assumes nothing.
use Rattle.laws.proofs.Prelude.{◌∙◌, ap, rules, is_given}
use Rattle.cover_statements.specs.Carry.{is_light, carry_of}
use Rattle.pixel_segment.specs.Field.{cover_of}
use Rattle.cases.proofs.Accepted.{accepted_is}
use Rattle.cases.proofs.Table.{cases}
use Rattle.cases.proofs.covers.p11_carried.Goals as goal

pub returns : goal.returns
unfolding is_light carry_of cover_of
returns c = (accepted_is c.carry.ensures ∙ ap is_given cases.p11, rw c.carry.ensures.covers_are)
