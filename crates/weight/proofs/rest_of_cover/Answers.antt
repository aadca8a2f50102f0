-- `weight::rest_of_cover` meets its contract. With 128, a multiple of 32, no cover is negative, and its remainder is the machine's.
-- Assumes nothing.
use Rattle.std.specs.Prelude.{◌%◌, ◌+ℤ◌}
use Rattle.laws.proofs.Prelude.{ap, ℕ, arith, lit<, pos, to_z-of_z, sfits_widen, w8, w16, SFits, Within, sfits, within, unsigned, lifted}
use Rattle.laws.proofs.Prelude.{Sum, added}
use Rattle.weight.proofs.rest_of_cover.Goals as goal
use Rattle.weight.proofs.rest_of_cover.Goals.{Start}

wide : (s : Start) → SFits w16 s.args.cover
wide s = sfits_widen tt s.ranges.cover

-- what is known of the cover and of what it is raised to
pub record Raised (s : Start) : Type 0 where
  pub bound : Within w8 s.args.cover
  pub sum : Sum s.args.cover (pos 128) (s.args.cover +ℤ pos 128)

raised : (s : Start) → Raised s
raised s = record { bound = within w8 s.args.cover s.ranges.cover; sum = added s.args.cover (pos 128) }

fits : (s : Start) → SFits w16 (s.args.cover +ℤ pos 128)
fits s = sfits w16 (s.args.cover +ℤ pos 128) (omega (arith, raised s))

pub overflow_cast-result : goal.overflow_cast-result
overflow_cast-result c = rw (to_z-of_z c.ranges.cover) (wide c)

pub overflow_add-result : goal.overflow_add-result
overflow_add-result c = rw (to_z-of_z c.ranges.cover, to_z-of_z (wide c)) (fits c)

pub overflow_cast-result-2 : goal.overflow_cast-result-2
overflow_cast-result-2 c =
    rw (to_z-of_z c.ranges.cover, to_z-of_z (wide c), to_z-of_z (fits c))
    (unsigned w8 (c.args.cover +ℤ pos 128) (omega (arith, raised c)) (omega (arith, raised c)))

pub returns : goal.returns
returns c =
    rw (to_z-of_z c.ranges.cover, to_z-of_z (wide c), to_z-of_z (fits c), lifted 32 c.args.cover 4 (lit< tt) (omega (arith, raised c)))
    (ap (λ (n : ℕ). n % 32) (omega (arith, raised c)))
