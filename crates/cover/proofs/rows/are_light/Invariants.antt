use Rattle.std.specs.Prelude.{◌≤◌}
use Rattle.laws.proofs.Prelude.{leb, eqb, length}
use Rattle.cover_statements.proofs.Testing.{Testing}
use Rattle.cover.proofs.rows.are_light.Given as goal

-- how many of the first y loads are light, and that all are exactly where these are y
abbrev pub invariant-loop-load : goal.invariant-loop-load
invariant-loop-load l = (l.light ≤ l.load-index) × Testing (λ load. leb load 127) l.loads (length l.loads) (eqb l.light l.load-index) l.load-index
