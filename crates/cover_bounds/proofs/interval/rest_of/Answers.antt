-- `interval::rest_of` meets its contract. With 32,768, a multiple of 1,024, no number is negative, and its remainder is the machine's.
-- Assumes nothing.
use Rattle.std.specs.Prelude.{◌≡◌, ◌%◌, ◌+ℤ◌}
use Rattle.laws.proofs.Prelude.{ap, ℕ, arith, T, lit<, pos, nat_abs, non_neg, to_z-of_z, to_z_pos, sfits_widen, w16, w32, SFits}
use Rattle.laws.proofs.Prelude.{Fits, to_z, sfits, within, unsigned, lifted, added}
use Rattle.cover_bounds.proofs.interval.rest_of.Goals as goal
use Rattle.cover_bounds.proofs.interval.rest_of.Goals.{Start}

wide : (s : Start) → SFits w32 s.args.d
wide s = sfits_widen tt s.ranges.d

shift_is : (s : Start) → to_z w32 s.args.shift ≡ pos s.args.shift
shift_is s = to_z_pos w32 {n = s.args.shift} (omega (arith, s.ranges.shift))

sum_fits : (s : Start) → SFits w32 (s.args.d +ℤ pos s.args.shift)
sum_fits s =
    let d = s.args.d in
    let n = pos s.args.shift in
    sfits w32 (d +ℤ n) (omega (arith, added d n, within w16 d s.ranges.d, s.ranges.shift))

lifted-fits : (s : Start) → SFits w32 (s.args.d +ℤ pos s.args.shift +ℤ pos 32768)
lifted-fits s =
    let d = s.args.d in
    let n = pos s.args.shift in
    sfits w32 (d +ℤ n +ℤ pos 32768) (omega (arith, added d n, added (d +ℤ n) (pos 32768), within w16 d s.ranges.d, s.ranges.shift))

not_negative_lem : (s : Start) → T (non_neg (s.args.d +ℤ pos s.args.shift +ℤ pos 32768)) × Fits w32 (nat_abs (s.args.d +ℤ pos s.args.shift +ℤ pos 32768))
not_negative_lem s =
    let d = s.args.d in
    let n = pos s.args.shift in
    let range = within w16 d s.ranges.d in
    unsigned w32 (d +ℤ n +ℤ pos 32768) (omega (arith, added d n, added (d +ℤ n) (pos 32768), range)) (omega (arith, added d n, added (d +ℤ n) (pos 32768), range, s.ranges.shift))

pub overflow_cast-result : goal.overflow_cast-result
overflow_cast-result c = rw (to_z-of_z c.ranges.d) (wide c)

pub overflow_add-result : goal.overflow_add-result
overflow_add-result c = rw (to_z-of_z c.ranges.d, to_z-of_z (wide c), shift_is c) (sum_fits c)

pub overflow_add-result-2 : goal.overflow_add-result-2
overflow_add-result-2 c = rw (to_z-of_z (overflow_add-result c), to_z-of_z c.ranges.d, to_z-of_z (wide c), shift_is c) (lifted-fits c)

pub overflow_cast-result-3 : goal.overflow_cast-result-3
overflow_cast-result-3 c = rw (to_z-of_z (overflow_add-result-2 c), to_z-of_z (overflow_add-result c), to_z-of_z c.ranges.d, to_z-of_z (wide c), shift_is c) (not_negative_lem c)

pub returns : goal.returns
returns c =
    let d = c.args.d in
    let n = pos c.args.shift in
    let low = (within w16 d c.ranges.d).below in
    rw (to_z-of_z (overflow_add-result-2 c), to_z-of_z (overflow_add-result c), to_z-of_z c.ranges.d, to_z-of_z (wide c), shift_is c, lifted 1024 (d +ℤ n) 32 (lit< tt) (omega (arith, added d n, low)))
    (ap (λ (v : ℕ). v % 1024) (omega (arith, added d n, added (d +ℤ n) (pos 32768), low)), omega arith)
