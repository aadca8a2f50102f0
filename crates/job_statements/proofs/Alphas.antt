-- Laws of alpha: it is a number over 256, binary32 holds it, and the code's product is it. What is said of all 257 numbers is one test that
-- antt computes.
-- Assumes nothing.
use Rattle.std.specs.Prelude.{◌≡◌, ◌*◌, ◌≤◌}
use Rattle.laws.proofs.Prelude.{refl, sym, ap, ◌∙◌, Bool, true, false, List, ℕ, arith, Float, nan, binary32, fits, odd, mul, of_int}
use Rattle.laws.proofs.Prelude.{of_bits, HasValue, pos, get_or, tabulate, every_at, get_d_tabulate}
use lib.Ieee.Exact.{odd_sign}
use Rattle.job_statements.specs.Table.{alpha_of}

-- it is finite, not negative, and the fraction alpha / 256: nothing is rounded
pub alpha_value : (alpha : ℕ) → HasValue (alpha_of alpha) false (alpha * 1) 256
unfolding alpha_of
alpha_value alpha = odd_sign 9 false alpha 0 8

held : ℕ → Bool
held alpha = fits binary32 (alpha_of alpha)

pub alpha_fits : (alpha : ℕ) → alpha ≤ 256 → fits binary32 (alpha_of alpha) ≡ true
unfolding held alpha_of fits odd
alpha_fits alpha h = every_at 257 held refl alpha (omega arith)

-- 0x3B800000 is the bit pattern of 1/256
product : ℕ → Float
product alpha = mul binary32 (of_int binary32 (pos alpha)) (of_bits binary32 0x3B800000)

products : tabulate 257 product ≡ tabulate 257 alpha_of
unfolding product mul of_int of_bits alpha_of
products = refl

-- the product of alpha and 1/256, both in binary32, is the fraction
pub alpha_product : (alpha : ℕ) → alpha ≤ 256 → mul binary32 (of_int binary32 (pos alpha)) (of_bits binary32 0x3B800000) ≡ alpha_of alpha
unfolding product
alpha_product alpha h =
    sym (get_d_tabulate 257 product nan alpha (omega arith))
    ∙ ap (λ (l : List Float). get_or l alpha nan) products
    ∙ get_d_tabulate 257 alpha_of nan alpha (omega arith)
