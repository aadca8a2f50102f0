-- What a range says of a number, as bounds on its parts. Assumes nothing.
use mathlib.Core.Path.{◌≡◌}
use mathlib.Core.Bool.{true}
use Prim.Native.Nat.{◌+◌, ◌≤◌}
use lib.IntN.{ℤ}
use lib.Signed.{le_z}
use Rattle.laws.specs.Integer.{plus, minus, is_within, AtMost}
use Rattle.laws.proofs.Bools.{both, left, right}
use Rattle.laws.proofs.Parts.{le_true, true_le}

pub record Within (low high v : ℤ) : Type 0 where
  pub above : plus low + minus v ≤ plus v + minus low
  pub below : plus v + minus high ≤ plus high + minus v

pub within : (low high v : ℤ) → is_within low high v ≡ true → Within low high v
unfolding is_within
within low high v e = record { above = le_true low v (left (le_z low v) (le_z v high) e); below = le_true v high (right (le_z low v) (le_z v high) e) }

pub is_within_lem : (low high v : ℤ) → AtMost low v → AtMost v high → is_within low high v ≡ true
unfolding is_within
is_within_lem low high v a b = both (le_z low v) (le_z v high) (true_le low v a) (true_le v high b)
