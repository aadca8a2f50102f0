-- Stores into a lent list. Assumes nothing.
use Rattle.std.specs.Prelude.{◌<◌}
use Rattle.laws.proofs.Prelude.{List, ℕ, length, set, length-set}

-- a store keeps the length
pub below {ℓ} : {A : Type ℓ} (l : List A) (i k : ℕ) (x : A) → k < length l → k < length (set l i x)
below l i k x h = rw (length-set l i x) h
