-- `trivial_clip_steps::open_clip` meets its contract. Assumes nothing.
use Rattle.laws.proofs.Prelude.{rules}
use Rattle.pass_statements.proofs.Steps.{opens}
use Rattle.trivial_clip_steps.proofs.open_clip.Goals as goal

pub enum_known-func : goal.enum_known-func
enum_known-func c = search rules

pub overflow_cast-result-in-Clip : goal.overflow_cast-result-in-Clip
overflow_cast-result-in-Clip c = search rules

pub overflow_add-result : goal.overflow_add-result
overflow_add-result c = search rules

pub enum_told-1 : goal.enum_told-1
enum_told-1 c = search rules

pub returns-in-Clip : goal.returns-in-Clip
returns-in-Clip c = opens _ _ _ _ c.in-Clip.is

pub returns-in-Draw : goal.returns-in-Draw
returns-in-Draw c = search rules
