-- `decimal` by its two laws: one digit, and one more digit after a number above 0.
-- Assumes nothing.
use Rattle.std.specs.Prelude.{◌≡◌, ◌∷◌, ◌++◌, ◌+◌, ◌*◌, ◌/◌, ◌%◌, ◌<◌, ◌≤◌}
use Rattle.laws.proofs.Prelude.{sym, ap, ◌∙◌, List, [], ℕ, zero, suc, dec_lt, arith, lt-ltb, le-ltb}
use Rattle.decimal.specs.Decimal.{decimal_in, decimal}

one_in : (k n : ℕ) → n < 10 → decimal_in (suc k) n ≡ (48 + n) ∷ []
unfolding decimal_in
one_in k n h = rw (lt-ltb n 10 h)

more_in : (k n : ℕ) → 10 ≤ n → decimal_in (suc k) n ≡ decimal_in k (n / 10) ++ ((48 + n % 10) ∷ [])
unfolding decimal_in
more_in k n h = rw (le-ltb n 10 h)

-- room to spare changes nothing
room : (k m n : ℕ) → n < k → n < m → decimal_in k n ≡ decimal_in m n
room zero m n h l = absurd (omega arith)
room (suc k) zero n h l = absurd (omega arith)
room (suc k) (suc m) n h l =
    elim (dec_lt n 10) [
      | yes a ↦ one_in k n a ∙ sym (one_in m n a)
      | no a ↦
          more_in k n (omega arith)
          ∙ ap (λ (s : List ℕ). s ++ ((48 + n % 10) ∷ [])) (room k m (n / 10) (omega arith) (omega arith))
          ∙ sym (more_in m n (omega arith))
    ]

pub decimal_one : (n : ℕ) → n < 10 → decimal n ≡ (48 + n) ∷ []
unfolding decimal
decimal_one n h = one_in n n h

pub decimal_more : (n : ℕ) → 10 ≤ n → decimal n ≡ decimal (n / 10) ++ ((48 + n % 10) ∷ [])
unfolding decimal
decimal_more n h =
    more_in n n h
    ∙ ap (λ (s : List ℕ). s ++ ((48 + n % 10) ∷ [])) (room n (suc (n / 10)) (n / 10) (omega arith) (omega arith))

pub decimal_append : (n d : ℕ) → 0 < n → d < 10 → decimal (n * 10 + d) ≡ decimal n ++ ((48 + d) ∷ [])
decimal_append n d h l =
    let q : (n * 10 + d) / 10 ≡ n = omega arith in
    let r : (n * 10 + d) % 10 ≡ d = omega arith in
    decimal_more (n * 10 + d) (omega arith) ∙ rw (q, r)

-- an induction over the digits from the last: what holds of one digit, and of n where it holds of n without its last digit
pub by_digits : (P : ℕ → Type 0) → ((n : ℕ) → n < 10 → P n) → ((n : ℕ) → 10 ≤ n → P (n / 10) → P n) → (n : ℕ) → P n
by_digits P one many n = go (suc n) n (omega arith)
  where
    go : (k n : ℕ) → n < k → P n
    go zero n h = absurd (omega arith)
    go (suc k) n h = elim (dec_lt n 10) [ yes a ↦ one n a | no a ↦ many n (omega arith) (go k (n / 10) (omega arith)) ]
