-- `layer_at` meets its contract. Assumes nothing.
use Rattle.std.specs.Prelude.{◌+◌, ◌*◌}
use Rattle.laws.proofs.Prelude.{w32, kept}
use Rattle.job_text_statements.specs.Numbers.{number_at, layer_line_at}
use Rattle.job_numbers.proofs.layer.layer_at.Goals as goal

pub returns : goal.returns
unfolding layer_line_at
returns c =
    let ns = c.args.numbers.now in
    let i = c.args.i in
    rw (kept w32 (number_at ns (8 * i)) c.result-1.given, kept w32 (number_at ns (8 * i + 1)) c.result-2-1.given, kept w32 (number_at ns (8 * i + 2)) c.result-3-1.given, kept w32 (number_at ns (8 * i + 3)) c.result-4-1.given, kept w32 (number_at ns (8 * i + 4)) c.result-5-1.given, kept w32 (number_at ns (8 * i + 5)) c.result-6-1.given, kept w32 (number_at ns (8 * i + 6)) c.result-7-1.given, kept w32 (number_at ns (8 * i + 7)) c.result-8-1.given)
