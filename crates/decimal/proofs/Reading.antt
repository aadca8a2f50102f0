-- What holds while the digits of a number are read: the digits of n are passed, and what is left to read from place i on is what was
-- to be read at the start.
-- Assumes nothing.
use Rattle.std.specs.Prelude.{◌≡◌, ◌+◌, ◌-◌, ◌*◌, ◌<◌, ◌≤◌, Some, None}
use Rattle.laws.proofs.Prelude.{refl, sym, ap, ◌∙◌, true, false, List, ℕ, add-one, arith, length, drop, get_or}
use Rattle.laws.proofs.Prelude.{drop_of_length-le, drop-cons}
use Rattle.decimal.specs.Decimal.{is_digit}
use Rattle.decimal.specs.Parse.{append_digit, more_digits, parseℕ}
use Rattle.decimal.specs.Read.{UnsignedRead}
use Rattle.decimal.proofs.Steps.{digit_range, more_digit, more_stop, more_zero, more_large, parseℕ_digit, parseℕ_stop}

pub record Reading (limit : ℕ) (s : List ℕ) (at n i : ℕ) : Type 0 where
  pub within : i ≤ length s
  pub below : n < limit
  pub rest : more_digits limit n (drop i s) ≡ parseℕ limit (drop at s)

-- the first byte: there is none, it is no digit, or it is one
module _ {limit : ℕ} {s : List ℕ} {at : ℕ} (l : 10 ≤ limit) where
  pub past : length s ≤ at → UnsignedRead limit s at None
  unfolding parseℕ
  past h = record { answer = rw (drop_of_length-le s h); within = omega arith; below = omega arith }

  pub none : at < length s → is_digit (get_or s at 0) ≡ false → UnsignedRead limit s at None
  none h d = record { answer = rw (drop-cons s at 0 h) (sym (parseℕ_stop limit _ _ d)); within = omega arith; below = omega arith }

  pub start : at < length s → is_digit (get_or s at 0) ≡ true → Reading limit s at (get_or s at 0 - 48) (at + 1)
  start h d = record {
    within = omega arith;
    below = omega (arith, digit_range (get_or s at 0) d);
    rest = rw (add-one, drop-cons s at 0 h) (sym (parseℕ_digit limit _ _ d));
  }

-- a byte after digits
module _ {limit : ℕ} {s : List ℕ} {at n i : ℕ} (v : Reading limit s at n i) where
  pub end : length s ≤ i → UnsignedRead limit s at (Some (n, length s))
  unfolding more_digits
  end h =
      let whole : length s ≤ length s = omega arith in
      record { answer = rw (drop_of_length-le s h, drop_of_length-le s whole) refl ∙ v.rest; within = whole; below = v.below }

  module _ (h : i < length s) where
    pub stop : is_digit (get_or s i 0) ≡ false → UnsignedRead limit s at (Some (n, i))
    stop d = record { answer = rw (drop-cons s i 0 h) (sym (more_stop limit n _ _ d)) ∙ v.rest; within = omega arith; below = v.below }

    module _ (d : is_digit (get_or s i 0) ≡ true) where
      -- a digit after a 0, and one that leads to the limit
      pub after_zero : n ≡ 0 → UnsignedRead limit s at None
      after_zero z = record {
        answer = sym (more_zero limit n _ _ d z) ∙ ap (more_digits limit n) (sym (drop-cons s i 0 h)) ∙ v.rest;
        within = omega arith;
        below = omega (arith, v.below);
      }

      pub too_large : (n ≡ 0 → ⊥) → limit ≤ n * 10 + (get_or s i 0 - 48) → UnsignedRead limit s at None
      too_large z l = record {
        answer = sym (more_large limit n _ _ d (omega arith) l) ∙ ap (more_digits limit n) (sym (drop-cons s i 0 h)) ∙ v.rest;
        within = omega arith;
        below = omega (arith, v.below);
      }

      pub next : (n ≡ 0 → ⊥) → n * 10 + (get_or s i 0 - 48) < limit → Reading limit s at (n * 10 + (get_or s i 0 - 48)) (i + 1)
      next z l = record {
        within = omega arith;
        below = l;
        rest =
            ap (λ (k : ℕ). more_digits limit (append_digit n (get_or s i 0)) (drop k s)) (add-one i)
            ∙ sym (more_digit limit n _ _ d (omega arith) l)
            ∙ ap (more_digits limit n) (sym (drop-cons s i 0 h))
            ∙ v.rest;
      }
