-- A buffer of n zeros that is filled from the front with a list of n. Assumes nothing.
use Rattle.std.specs.Prelude.{◌≡◌, ◌++◌}
use Rattle.laws.proofs.Prelude.{refl, ap, ap₂, ◌∙◌, List, append-nil, ℕ, zero, suc, arith, length, get_or, replicate, drop_of_length-le}
use Rattle.laws.proofs.Prelude.{take_all, filled, over}

pub filled_whole {ℓ} : {A : Type ℓ} (d s : List A) (n : ℕ) → length d ≡ n → length s ≡ n → filled d s n ≡ s
filled_whole d s n e h =
    ap₂ ◌++◌ (take_all n s (omega arith)) (drop_of_length-le d {i = n} (omega arith)) ∙ append-nil s

-- a list written over one that is as long
pub over_whole {ℓ} : {A : Type ℓ} (s d : List A) → length d ≡ length s → over s d ≡ s
unfolding over
over_whole {A = A} s d e = ap (λ (r : List A). s ++ r) (drop_of_length-le d {i = length s} (omega arith)) ∙ append-nil s

-- an element of a list of one value, at any place
pub get_d_default {ℓ} : {A : Type ℓ} {a : A} (n i : ℕ) → get_or (replicate n a) i a ≡ a
get_d_default zero i = refl
get_d_default (suc n) zero = refl
get_d_default (suc n) (suc i) = get_d_default n i
