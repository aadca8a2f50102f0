-- `full_cover_steps::to_opaque` meets its contract. Assumes nothing.
use Rattle.std.specs.Prelude.{Option}
use Rattle.laws.proofs.Prelude.{sym, ap}
use Rattle.styling.specs.declared.Color.{Color}
use Rattle.pass_statements.specs.Covered.{opaque_of}
use Rattle.full_cover_steps.proofs.to_opaque.Goals as goal

pub returns-in-Some : goal.returns-in-Some
returns-in-Some c = sym (ap (λ (p : Option Color). opaque_of p) c.in-Some.is)
