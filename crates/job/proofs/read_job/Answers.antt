-- `read_job` meets its contract: each answer is a law of `Outcomes`. Assumes nothing.
use Rattle.std.specs.Prelude.{◌≡◌, Err}
use Rattle.std.proofs.lemmas.Result.{err_from_is_err_and}
use Rattle.job_statements.specs.declared.JobError.TheVariants.{Malformed}
use Rattle.job_statements.proofs.Outcomes.{judged, reads, refuses}
use Rattle.job.proofs.read_job.Goals as goal

pub returns-in_err-counts : goal.returns-in_err-counts
returns-in_err-counts c =
    let a = c.args in
    let nothing = c.in_err-counts.ensures.ok_part in
    let told = rw nothing at c.in_err-counts.ensures.value in
    let p = err_from_is_err_and c.from_residual.result c.from_residual.ensures.1 in
    let is : c.from_residual.result ≡ Err Malformed = cc in
    rw is (refuses a.text.now a.layers.now a.colors.now a.row.now (rw nothing at c.read_numbers.ensures))

pub write_job-requires : goal.write_job-requires
write_job-requires c =
    judged (rw c.in_ok-counts.ensures.ok_part at c.read_numbers.ensures) c.read_numbers.auto.layers c.read_numbers.auto.segments

pub returns : goal.returns
returns c =
    let a = c.args in
    let x = rw c.in_ok-counts.ensures.ok_part at c.read_numbers.ensures in
    reads a.text.now a.layers.now a.colors.now a.row.now x c.head_of-head.ensures c.write_job.ensures
