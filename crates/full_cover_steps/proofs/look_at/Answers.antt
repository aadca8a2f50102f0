-- `full_cover_steps::look_at` meets its contract. Assumes nothing.
use Rattle.pass_statements.proofs.Looks.{looked}
use Rattle.full_cover_steps.proofs.look_at.Goals as goal

pub returns : goal.returns
returns c =
    let a = c.args in
    looked a.x a.unclipped a.i.0 a.found c.tells.ensures c.first_of-first.ensures c.hides.ensures c.skip_to-skipped.ensures
