-- `cast` meets its contract: the remainder is a small number, so the machine's difference is the definition's. Assumes nothing.
use Rattle.std.specs.Prelude.{◌≡◌, ◌+◌, ◌%◌, ◌<◌}
use Rattle.laws.proofs.Prelude.{ap, ℕ, arith, sub_ℕ, w16, w32, SFits, to_z_pos, to_z-of_z, difference, sfits}
use Rattle.plate.specs.Rows.{cast_of}
use Rattle.plate.proofs.cast.Goals as goal

in-32 : (n : ℕ) → n < 65536 → SFits w32 (sub_ℕ n 32768)
in-32 n h = sfits w32 (sub_ℕ n 32768) (omega (arith, difference n 32768))

in-16 : (n : ℕ) → n < 65536 → SFits w16 (sub_ℕ n 32768)
in-16 n h = sfits w16 (sub_ℕ n 32768) (omega (arith, difference n 32768))

same : (j : ℕ) → (j % 65536 + 32768) % 65536 ≡ (j + 32768) % 65536
same j = omega arith

pub overflow_sub-result : goal.overflow_sub-result
overflow_sub-result c =
    let n = (c.args.j % 65536 + 32768) % 65536 in
    rw (to_z_pos w32 {n = n} (omega arith)) (in-32 n (omega arith))

pub overflow_cast-result-2 : goal.overflow_cast-result-2
overflow_cast-result-2 c =
    let n = (c.args.j % 65536 + 32768) % 65536 in
    rw (to_z_pos w32 {n = n} (omega arith), to_z-of_z (in-32 n (omega arith))) (in-16 n (omega arith))

pub returns : goal.returns
unfolding cast_of
returns c =
    let n = (c.args.j % 65536 + 32768) % 65536 in
    rw (to_z_pos w32 {n = n} (omega arith), to_z-of_z (in-32 n (omega arith)), to_z-of_z (in-16 n (omega arith))) (ap (λ (k : ℕ). sub_ℕ k 32768) (same c.args.j))
