-- `cover::entry::write_cover` meets its contract. Assumes nothing.
use Rattle.cover_statements.specs.Entry.{put_entry}
use Rattle.laws.specs.Lists.{over}
use Rattle.std.proofs.lemmas.Grind.{common_steps}
use Rattle.laws.proofs.Prelude.{arith}
use Rattle.cover.proofs.entry.write_cover.Goals as goal

pub returns : goal.returns
unfolding put_entry over
returns c = grind (arith, common_steps)
