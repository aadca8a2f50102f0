-- Printing a number with its sign: the two ways that the sign parts.
-- Assumes nothing.
use Rattle.std.specs.Prelude.{◌≡◌, ◌∷◌, ◌+◌, ◌≤◌}
use Rattle.laws.proofs.Prelude.{refl, true, false, List, ℕ, arith, ltb-true, ℤ, pos, negsuc, nat_abs, set, lt_z}
use Rattle.laws.proofs.Prelude.{to_z-of_z, w32, SFits, Fits, to_z, of_z}
use mathlib.Core.Bool.{true≢false}
use Rattle.decimal.specs.Decimal.{decimal, decimalℤ}
use Rattle.decimal.specs.Print.{Printing}
use Rattle.decimal.proofs.Print.{joined, byte, ten}

-- a number below 0 is a minus and its size, and any other is printed as it is
below : (v : ℤ) → lt_z v (pos 0) ≡ true → decimalℤ v ≡ 45 ∷ decimal (nat_abs v)
below (pos n) e = absurd (omega (arith, ltb-true n 0 e))
below (negsuc n) e = refl

above : (v : ℤ) → lt_z v (pos 0) ≡ false → decimalℤ v ≡ decimal (nat_abs v)
above (pos n) e = refl
above (negsuc n) e = absurd (true≢false e)

module _ (v : ℤ) (h : SFits w32 v) {size : ℕ} (is : size ≡ nat_abs v) (f : Fits w32 size) where
  pub print_below : {out out' : List ℕ} {at r : ℕ} → lt_z (to_z w32 (of_z w32 v)) (pos 0) ≡ true → Printing (decimal size) (set out at 45) (at + 1) r out'
      → Printing (decimalℤ v) out at r out' × (r ≤ at + 11)
  print_below e p = (rw (below v (rw (to_z-of_z h) at e)) (joined byte (rw is at p)), omega (arith, ten size f, p.answer))

  pub print_above : {out out' : List ℕ} {at r : ℕ} → lt_z (to_z w32 (of_z w32 v)) (pos 0) ≡ false → Printing (decimal size) out at r out'
      → Printing (decimalℤ v) out at r out' × (r ≤ at + 11)
  print_above e p = (rw (above v (rw (to_z-of_z h) at e)) (rw is at p), omega (arith, ten size f, p.answer))
