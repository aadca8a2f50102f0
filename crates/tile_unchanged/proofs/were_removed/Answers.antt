-- `tile_unchanged::were_removed` meets its contract. Assumes nothing.
use Rattle.std.specs.Prelude.{Option}
use Rattle.laws.proofs.Prelude.{sym, ap, ℕ}
use Rattle.pass_statements.specs.Unchanged.{were_removed}
use Rattle.tile_unchanged.proofs.were_removed.Goals as goal

pub returns-in-Some : goal.returns-in-Some
returns-in-Some c = sym (ap (λ (p : Option ℕ). were_removed p c.args.n) c.in-Some.is)
