-- Printing a number: its last digit after the print of the others.
-- Assumes nothing.
use Rattle.std.specs.Prelude.{◌≡◌, ◌∷◌, ◌++◌, ◌+◌, ◌/◌, ◌%◌, ◌^◌, ◌<◌, ◌≤◌}
use Rattle.laws.proofs.Prelude.{refl, sym, ap, ◌∙◌, List, [], ℕ, zero, suc, add-zero, dec_lt, arith}
use Rattle.laws.proofs.Prelude.{length, set, length-append, sets, w32, Fits}
use Rattle.decimal.specs.Decimal.{decimal}
use Rattle.decimal.specs.Print.{Printing}
use Rattle.decimal.proofs.Digits.{decimal_one, decimal_more}

pub sets_append : {A : Type 0} (vs ws out : List A) (p : ℕ) → sets out p (vs ++ ws) ≡ sets (sets out p vs) (p + length vs) ws
sets_append [] ws out p = rw add-zero
sets_append (v ∷ vs) ws out p =
    sets_append vs ws (set out p v) (suc p) ∙ ap (λ (q : ℕ). sets (sets (set out p v) (suc p) vs) q ws) (omega arith)

-- one text after another
pub joined : {s t out out₁ out₂ : List ℕ} {at m r : ℕ} → Printing s out at m out₁ → Printing t out₁ m r out₂ → Printing (s ++ t) out at r out₂
joined {s} {t} {out} {at = at} {m = m} p q = record {
  answer = omega (arith, length-append s t);
  printed =
      q.printed
      ∙ ap (λ (o : List ℕ). sets o m t) p.printed
      ∙ ap (λ (i : ℕ). sets (sets out at s) i t) p.answer
      ∙ sym (sets_append s t out at);
}

pub byte : {out : List ℕ} {at b : ℕ} → Printing (b ∷ []) out at (at + 1) (set out at b)
byte = record { answer = refl; printed = refl }

pub length_one : (n : ℕ) → n < 10 → length (decimal n) ≡ 1
length_one n h = ap length (decimal_one n h)

pub length_more : (n : ℕ) → 10 ≤ n → length (decimal n) ≡ length (decimal (n / 10)) + 1
length_more n h = ap length (decimal_more n h) ∙ length-append (decimal (n / 10)) ((48 + n % 10) ∷ [])

pub print_one : {out : List ℕ} {at : ℕ} (n : ℕ) → n < 10 → Printing (decimal n) out at (at + 1) (set out at (48 + n))
print_one n h = rw (decimal_one n h) byte

pub print_more : {out out₁ : List ℕ} {at last : ℕ} (n : ℕ) → 10 ≤ n → Printing (decimal (n / 10)) out at last out₁
    → Printing (decimal n) out at (last + 1) (set out₁ last (48 + n % 10))
print_more n h p = rw (decimal_more n h) (joined p byte)

-- a number below 10 to the power k has at most k digits
pub length_at_most : (k n : ℕ) → n < 10 ^ suc k → length (decimal n) ≤ suc k
length_at_most zero n h = omega (arith, length_one n (omega arith))
length_at_most (suc k) n h =
    elim (dec_lt n 10) [
      | yes l ↦ omega (arith, length_one n l)
      | no l ↦ omega (arith, length_more n (omega arith), length_at_most k (n / 10) (omega arith))
    ]

-- a number of 32 bits has at most ten digits
pub ten : (n : ℕ) → Fits w32 n → length (decimal n) ≤ 10
ten n h = length_at_most 9 n (omega arith)
