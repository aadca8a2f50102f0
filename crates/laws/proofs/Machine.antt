-- A signed local holds bits: what it is read back as, `to_z w (of_z w z)`, is z where z fits. That an integer fits is a bound on each of
-- its parts, so `omega` proves it. Assumes nothing.
use mathlib.Core.Path.{◌≡◌}
use Prim.Native.Nat.{◌≤◌, ◌<◌, ◌^◌}
use native.Mathlib.Omega.{arith}
use lib.IntN.{ℤ, pos, negsuc, nat_abs}
use lib.Signed.{mag, non_neg}
use lib.Dec.{T}
use mir.Syntax.{Width}
use mir.Val.{SFits, Fits, bits, hbits, to_z, of_z}
use mir.Facts.{to_z-of_z}
use Rattle.laws.specs.Integer.{plus, minus}
use Rattle.laws.proofs.Parts.{whole}

-- the range of a signed width, as a bound on each part
pub record Within (w : Width) (z : ℤ) : Type 0 where
  pub above : plus z < 2 ^ hbits w
  pub below : minus z ≤ 2 ^ hbits w

pub sfits : (w : Width) (z : ℤ) → Within w z → SFits w z
sfits w (pos n) h = record { sfits = h.above }
sfits w (negsuc n) h = record { sfits = h.below }

pub within : (w : Width) (z : ℤ) → SFits w z → Within w z
within w (pos n) h = record { above = h.sfits; below = omega arith }
within w (negsuc n) h = let q : n < 2 ^ hbits w = h.sfits in record { above = omega arith; below = h.sfits }

-- an absolute value below half the width's power fits
pub small : (w : Width) (z : ℤ) → nat_abs z < 2 ^ hbits w → SFits w z
small w z h = sfits w z (record { above = omega (arith, whole z); below = omega (arith, whole z) })

-- what is read back of an integer is the integer, by the bound that a call's result (`.ok`) and an array's element (`.given`) come with
pub kept : (w : Width) (z : ℤ) → mag z < 2 ^ hbits w → to_z w (of_z w z) ≡ z
kept w z h = to_z-of_z (record { sfits = h })

-- what a cast to an unsigned width asks
pub unsigned : (w : Width) (z : ℤ) → minus z ≡ 0 → plus z < 2 ^ bits w → T (non_neg z) × Fits w (nat_abs z)
unsigned w (pos n) e h = (tt, record { fits = h })
unsigned w (negsuc n) e h = absurd (omega arith)
