-- `repeats` meets its contract. Assumes nothing.
use Rattle.laws.proofs.Prelude.{arith, w32, w64, kept, unsigned, whole}
use Rattle.job_lines.proofs.Ranges.{in_tile}
use Rattle.job_numbers.proofs.segment.repeats.Goals as goal

pub overflow_cast-result : goal.overflow_cast-result
overflow_cast-result c =
    let s = c.args.s in
    let h = in_tile s c.requires in
    rw (kept w32 s.rows c.struct_told-1.given.1.1.1.1.0.1) (unsigned w64 s.rows h.rows.0 (omega arith))

pub returns : goal.returns
returns c =
    let s = c.args.s in
    let h = in_tile s c.requires in
    rw (kept w32 s.rows c.struct_told-1.given.1.1.1.1.0.1) (omega (arith, whole s.rows))
