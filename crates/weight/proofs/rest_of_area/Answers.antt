-- `weight::rest_of_area` meets its contract. With 32,768, a multiple of 1,024, no d is negative, and its remainder is the machine's.
-- Assumes nothing.
use Rattle.std.specs.Prelude.{◌%◌, ◌<◌, ◌≤◌, ◌+ℤ◌}
use Rattle.laws.proofs.Prelude.{ap, ℕ, arith, T, lit<, lit≤, pos, nat_abs, non_neg, to_z-of_z, sfits_widen, w16, w32, SFits}
use Rattle.laws.proofs.Prelude.{Fits, sfits, within, unsigned, lifted, added}
use Rattle.weight.proofs.rest_of_area.Goals as goal
use Rattle.weight.proofs.rest_of_area.Goals.{Start}

wide : (s : Start) → SFits w32 s.args.d
wide s = sfits_widen tt s.ranges.d

-- with a number that keeps it from being negative
fits : (s : Start) (n : ℕ) → n < 65536 → SFits w32 (s.args.d +ℤ pos n)
fits s n h =
    let d = s.args.d in
    sfits w32 (d +ℤ pos n) (omega (arith, added d (pos n), within w16 d s.ranges.d))

lifts : (s : Start) (n : ℕ) → n < 65536 → 32768 ≤ n → T (non_neg (s.args.d +ℤ pos n)) × Fits w32 (nat_abs (s.args.d +ℤ pos n))
lifts s n h l =
    let d = s.args.d in
    let range = within w16 d s.ranges.d in
    let sum = added d (pos n) in
    unsigned w32 (d +ℤ pos n) (omega (arith, sum, range)) (omega (arith, sum, range))

pub overflow_cast-result : goal.overflow_cast-result
overflow_cast-result c = rw (to_z-of_z c.ranges.d) (wide c)

pub overflow_add-result : goal.overflow_add-result
overflow_add-result c = rw (to_z-of_z c.ranges.d, to_z-of_z (wide c)) (fits c _ (lit< tt))

pub overflow_cast-result-2 : goal.overflow_cast-result-2
overflow_cast-result-2 c = rw (to_z-of_z (overflow_add-result c), to_z-of_z c.ranges.d, to_z-of_z (wide c)) (lifts c _ (lit< tt) (lit≤ tt))

pub returns : goal.returns
returns c =
    let d = c.args.d in
    let low = (within w16 d c.ranges.d).below in
    let sum = added d (pos 32768) in
    rw (to_z-of_z (overflow_add-result c), to_z-of_z c.ranges.d, to_z-of_z (wide c), lifted 1024 d 32 (lit< tt) (omega (arith, low)))
    (ap (λ (n : ℕ). n % 1024) (omega (arith, sum, low)))
