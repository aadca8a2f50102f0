-- `passes_in_words` meets its contract: the theorems, cited. Assumes nothing.
use Rattle.claims.proofs.Passes.{passes_in_words}
use Rattle.claims.proofs.Repainting.{changed_clips}
use Rattle.claims.proofs.passes_in_words.Goals as goal

pub returns : goal.returns
returns c = (passes_in_words, changed_clips)
