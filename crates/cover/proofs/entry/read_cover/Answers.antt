-- `cover::entry::read_cover` meets its contract. Assumes nothing.
use Rattle.cover_statements.specs.Entry.{cover_entry}
use Rattle.std.proofs.lemmas.Grind.{common_steps}
use Rattle.laws.proofs.Prelude.{arith}
use Rattle.cover.proofs.entry.read_cover.Goals as goal

pub returns : goal.returns
unfolding cover_entry
returns c = grind (arith, common_steps)
