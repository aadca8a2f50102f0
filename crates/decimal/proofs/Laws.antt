-- Reading is the inverse of printing: `parseℕ` and `parseℤ` read exactly what `decimal` and `decimalℤ` print, and so two prints agree
-- only where the numbers do.
-- Assumes nothing.
use Rattle.std.specs.Prelude.{◌≡◌, ◌∷◌, ◌++◌, ◌+◌, ◌-◌, ◌/◌, ◌%◌, ◌<◌, ◌≤◌}
use Rattle.laws.proofs.Prelude.{refl, sym, ap, ◌∙◌, false, List, [], append_assoc, ℕ, zero, suc, dec_lt}
use Rattle.laws.proofs.Prelude.{arith, eq-eqb, ne_eqb, eqb-true, eqb, ℤ, pos, negsuc, nat_abs}
use Rattle.decimal.specs.Decimal.{decimal, decimalℤ, is_digit, Stops}
use Rattle.decimal.specs.Parse.{Parsed, parsed, failed, append_digit, more_digits, parseℕ, positive, negative, starts_with, parseℤ}
use Rattle.decimal.proofs.Digits.{decimal_one, decimal_more, decimal_append, by_digits}
use Rattle.decimal.proofs.Steps.{cases, digit, digit_range, more_digit, more_stop, more_zero, more_large, parseℕ_digit, parseℕ_stop}

-- reading goes on after the digits of n, whatever the text
pub parseℕ_on : (limit : ℕ) (n : ℕ) (t : List ℕ) → n < limit → parseℕ limit (decimal n ++ t) ≡ more_digits limit n t
parseℕ_on limit =
    by_digits (λ (n : ℕ). (t : List ℕ) → n < limit → parseℕ limit (decimal n ++ t) ≡ more_digits limit n t)
    (λ n a t h. rw (decimal_one n a) (parseℕ_digit limit (48 + n) t (digit (48 + n) (omega arith) (omega arith)) ∙ ap (λ (m : ℕ). more_digits limit m t) (omega arith)))
    (λ n a on t h.
    let same : append_digit (n / 10) (48 + n % 10) ≡ n = omega arith in
    rw (decimal_more n a, append_assoc)
    (on ((48 + n % 10) ∷ t) (omega arith)
    ∙ more_digit limit (n / 10) (48 + n % 10) t (digit (48 + n % 10) (omega arith) (omega arith)) (omega arith) (omega arith)
    ∙ ap (λ (m : ℕ). more_digits limit m t) same))

more_stops : (limit n : ℕ) (t : List ℕ) → Stops t → more_digits limit n t ≡ parsed n t
unfolding more_digits
more_stops limit n [] h = refl
more_stops limit n (b ∷ t) h = more_stop limit n b t h

pub parseℕ_complete : (limit n : ℕ) (t : List ℕ) → n < limit → Stops t → parseℕ limit (decimal n ++ t) ≡ parsed n t
parseℕ_complete limit n t h k = parseℕ_on limit n t h ∙ more_stops limit n t k

-- what a number that was read says of the text
pub record Printed (limit : ℕ) (s : List ℕ) (n : ℕ) (t : List ℕ) : Type 0 where
  pub text : s ≡ decimal n ++ t
  pub below : n < limit
  pub stops : Stops t

-- no answer is both
pub never : {A : Type 0} {P : Type 0} {g : Parsed A} {a : A} {t : List ℕ} → g ≡ failed → g ≡ parsed a t → P
never p q = let z : ◌≡◌ {A = ℕ} 0 1 = cc in absurd (omega arith)

here : {limit m : ℕ} {s : List ℕ} {n : ℕ} {t : List ℕ} → m < limit → Stops s → parsed m s ≡ parsed n t → Printed limit (decimal m ++ s) n t
here {limit} {m} {s} {n} {t} h k e =
    let same : m ≡ n = cc in
    let rest : s ≡ t = cc in
    record {
      text = ap (λ (x : ℕ). decimal x ++ s) same ∙ ap (λ (x : List ℕ). decimal n ++ x) rest;
      below = omega arith;
      stops = rw rest at k;
    }

more_sound : (limit m : ℕ) (s : List ℕ) (n : ℕ) (t : List ℕ) → m < limit → more_digits limit m s ≡ parsed n t → Printed limit (decimal m ++ s) n t
unfolding more_digits
more_sound limit m [] n t h e = here h tt e
more_sound limit m (b ∷ s) n t h e =
    cases (is_digit b)
    (λ d. elim (dec_lt 0 m) [
      | no z ↦ never (more_zero limit m b s d (omega arith)) e
      | yes z ↦ elim (dec_lt (append_digit m b) limit) [
        | no l ↦ never (more_large limit m b s d z (omega arith)) e
        | yes l ↦
            let r = digit_range b d in
            let byte : 48 + (b - 48) ≡ b = omega arith in
            let on = more_sound limit (append_digit m b) s n t l (sym (more_digit limit m b s d z l) ∙ e) in
            let joined : decimal m ++ b ∷ s ≡ decimal (append_digit m b) ++ s = rw (decimal_append m (b - 48) z (omega arith), byte, append_assoc) in
            record { text = joined ∙ on.text; below = on.below; stops = on.stops }
      ]
    ])
    (λ d. here h d (sym (more_stop limit m b s d) ∙ e))

pub parseℕ_sound : (limit : ℕ) (s : List ℕ) (n : ℕ) (t : List ℕ) → 10 ≤ limit → parseℕ limit s ≡ parsed n t → Printed limit s n t
unfolding parseℕ
parseℕ_sound limit [] n t h e = never refl e
parseℕ_sound limit (b ∷ s) n t h e =
    cases (is_digit b)
    (λ d.
    let r = digit_range b d in
    let byte : 48 + (b - 48) ≡ b = omega arith in
    let on = more_sound limit (b - 48) s n t (omega arith) (sym (parseℕ_digit limit b s d) ∙ e) in
    let joined : b ∷ s ≡ decimal (b - 48) ++ s = rw (decimal_one (b - 48) (omega arith), byte) in
    record { text = joined ∙ on.text; below = on.below; stops = on.stops })
    (λ d. never (parseℕ_stop limit b s d) e)

-- two prints with no digit after them agree only where the numbers and the texts after them do
pub decimal_unique : (m n : ℕ) (s t : List ℕ) → Stops s → Stops t → decimal m ++ s ≡ decimal n ++ t → (m ≡ n) × (s ≡ t)
decimal_unique m n s t h k e =
    let p : parseℕ (suc (m + n)) (decimal m ++ s) ≡ parsed m s = parseℕ_complete (suc (m + n)) m s (omega arith) h in
    let q : parseℕ (suc (m + n)) (decimal n ++ t) ≡ parsed n t = parseℕ_complete (suc (m + n)) n t (omega arith) k in
    (cc, cc)

-- the same with a sign
pub record Read (limit : ℕ) (s : List ℕ) (v : ℤ) (t : List ℕ) : Type 0 where
  pub text : s ≡ decimalℤ v ++ t
  pub below : nat_abs v < limit
  pub stops : Stops t

no_minus : (n : ℕ) (t : List ℕ) → starts_with 45 (decimal n ++ t) ≡ false
no_minus =
    by_digits (λ (n : ℕ). (t : List ℕ) → starts_with 45 (decimal n ++ t) ≡ false)
    (λ n a t. rw (decimal_one n a) (ne_eqb (48 + n) 45 (λ e. omega arith)))
    (λ n a on t. rw (decimal_more n a, append_assoc) (on ((48 + n % 10) ∷ t)))

pub parseℤ_complete : (limit : ℕ) (v : ℤ) (t : List ℕ) → nat_abs v < limit → Stops t → parseℤ limit (decimalℤ v ++ t) ≡ parsed v t
unfolding parseℤ
parseℤ_complete limit (pos n) t h k = rw (no_minus n t, parseℕ_complete limit n t h k)
parseℤ_complete limit (negsuc n) t h k = rw (parseℕ_complete limit (suc n) t h k)

pub parseℤ_positive : (limit : ℕ) (s : List ℕ) → starts_with 45 s ≡ false → parseℤ limit s ≡ positive (parseℕ limit s)
unfolding parseℤ
parseℤ_positive limit s h = rw h

pub parseℤ_negative : (limit b : ℕ) (s : List ℕ) → b ≡ 45 → parseℤ limit (b ∷ s) ≡ negative (parseℕ limit s)
unfolding parseℤ
parseℤ_negative limit b s h = rw (eq-eqb b 45 h)

-- the reading of a part, carried over to the whole
read : {limit : ℕ} {s : List ℕ} {a : ℤ} {u : List ℕ} {v : ℤ} {t : List ℕ} → s ≡ decimalℤ a ++ u → nat_abs a < limit → Stops u → parsed a u ≡ parsed v t
    → Read limit s v t
read {a = a} {u = u} {v = v} {t = t} p h k e =
    let same : a ≡ v = cc in
    let rest : u ≡ t = cc in
    record { text = p ∙ ap (λ (x : ℤ). decimalℤ x ++ u) same ∙ ap (λ (x : List ℕ). decimalℤ v ++ x) rest; below = rw same at h; stops = rw rest at k }

positive_sound : (limit : ℕ) (s : List ℕ) (v : ℤ) (t : List ℕ) (g : Parsed ℕ) → 10 ≤ limit → parseℕ limit s ≡ g → positive g ≡ parsed v t → Read limit s v t
positive_sound limit s v t (parsed n u) h w e = let r = parseℕ_sound limit s n u h w in read r.text r.below r.stops e
positive_sound limit s v t failed h w e = never refl e

negative_sound : (limit b : ℕ) (s : List ℕ) (v : ℤ) (t : List ℕ) (g : Parsed ℕ) → 10 ≤ limit → b ≡ 45 → parseℕ limit s ≡ g → negative g ≡ parsed v t
    → Read limit (b ∷ s) v t
negative_sound limit b s v t (parsed zero u) h m w e = never refl e
negative_sound limit b s v t (parsed (suc n) u) h m w e =
    let r = parseℕ_sound limit s (suc n) u h w in
    read {a = negsuc n} (ap (λ (x : ℕ). x ∷ s) m ∙ ap (λ (x : List ℕ). 45 ∷ x) r.text) r.below r.stops e
negative_sound limit b s v t failed h m w e = never refl e

pub parseℤ_sound : (limit : ℕ) (s : List ℕ) (v : ℤ) (t : List ℕ) → 10 ≤ limit → parseℤ limit s ≡ parsed v t → Read limit s v t
parseℤ_sound limit [] v t h e = positive_sound limit [] v t (parseℕ limit []) h refl (sym (parseℤ_positive limit [] refl) ∙ e)
parseℤ_sound limit (b ∷ s) v t h e =
    cases (eqb b 45)
    (λ m. negative_sound limit b s v t (parseℕ limit s) h (eqb-true b 45 m) refl (sym (parseℤ_negative limit b s (eqb-true b 45 m)) ∙ e))
    (λ m. positive_sound limit (b ∷ s) v t (parseℕ limit (b ∷ s)) h refl (sym (parseℤ_positive limit (b ∷ s) m) ∙ e))

pub decimalℤ_unique : (v w : ℤ) (s t : List ℕ) → Stops s → Stops t → decimalℤ v ++ s ≡ decimalℤ w ++ t → (v ≡ w) × (s ≡ t)
decimalℤ_unique v w s t h k e =
    let p : parseℤ (suc (nat_abs v + nat_abs w)) (decimalℤ v ++ s) ≡ parsed v s = parseℤ_complete _ v s (omega arith) h in
    let q : parseℤ (suc (nat_abs v + nat_abs w)) (decimalℤ w ++ t) ≡ parsed w t = parseℤ_complete _ w t (omega arith) k in
    (cc, cc)
