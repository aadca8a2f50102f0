-- `job_texts` meets its contract: the theorems, cited. Assumes nothing.
use Rattle.curve_text.proofs.Examples.{curve_lines, fills}
use Rattle.claims.proofs.Texts.{job_texts}
use Rattle.claims.proofs.Loads.{loads}
use Rattle.claims.proofs.job_texts.Goals as goal

pub returns : goal.returns
returns c = (job_texts, curve_lines, fills, loads)
