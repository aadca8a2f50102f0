-- Each answer of `read_signed`, from the tests that lead to it.
-- Assumes nothing.
use Rattle.std.specs.Prelude.{◌≡◌, ◌+◌, ◌<◌, ◌≤◌, ◌-ℤ◌, Option, Some, None}
use Rattle.laws.proofs.Prelude.{refl, sym, ap, ◌∙◌, List, ℕ, zero, suc, add-one, arith, ne_eqb, ℤ, pos, negsuc, neg_ℤ}
use Rattle.laws.proofs.Prelude.{+ℤ_idl, length, drop, get_or, drop_of_length-le, drop-cons, w32, SFits, to_z, of_z, to_z-of_z, small}
use mir.ValLaws.{to_z_pos}
use Rattle.decimal.specs.Decimal.{Short}
use Rattle.decimal.specs.Parse.{parsed, parseℕ, positive, negative, parseℤ}
use Rattle.decimal.specs.Read.{UnsignedRead, SignedRead, signed_left, after_signed}
use Rattle.decimal.proofs.Laws.{never, parseℤ_positive, parseℤ_negative, parseℤ_sound, parseℤ_complete}

-- an answer that the parser gives is one that the printer gives
answered : (s : List ℕ) (at : ℕ) (r : Option (ℤ × ℕ)) → after_signed r ≤ length s → signed_left s r ≡ parseℤ 10000000 (drop at s) → SignedRead s at r
answered s at (Some (v, next)) h e =
    let q = parseℤ_sound 10000000 (drop at s) v (drop next s) (omega arith) (sym e) in
    record { answer = e; stands = (h, q.text, q.below, q.stops) }
answered s at None h e = record {
  answer = e;
  stands = λ v t k l p. never (sym e) (ap (parseℤ 10000000) p ∙ parseℤ_complete 10000000 v t k l);
}

module _ (s : List ℕ) (at : ℕ) where
  positive_here : at < length s → (get_or s at 0 ≡ 45 → ⊥) → parseℤ 10000000 (drop at s) ≡ positive (parseℕ 10000000 (drop at s))
  positive_here h b = parseℤ_positive 10000000 (drop at s) (rw (drop-cons s at 0 h) (ne_eqb _ 45 b))

  negative_here : at < length s → get_or s at 0 ≡ 45 → parseℤ 10000000 (drop at s) ≡ negative (parseℕ 10000000 (drop (at + 1) s))
  negative_here h b = rw (add-one, drop-cons s at 0 h) (parseℤ_negative 10000000 _ _ b)

module _ {s : List ℕ} {at : ℕ} where
  pub past : length s ≤ at → SignedRead s at None
  unfolding parseℤ parseℕ
  past h = answered s at None (omega arith) (rw (drop_of_length-le s h))

  pub positive_value : {n next : ℕ} → at < length s → (get_or s at 0 ≡ 45 → ⊥) → UnsignedRead 10000000 s at (Some (n, next)) → SignedRead s at (Some (pos n, next))
  positive_value {n} {next} h b w = answered s at (Some (pos n, next)) w.within (ap positive w.answer ∙ sym (positive_here s at h b))

  pub positive_none : at < length s → (get_or s at 0 ≡ 45 → ⊥) → UnsignedRead 10000000 s at None → SignedRead s at None
  positive_none h b w = answered s at None (omega arith) (ap positive w.answer ∙ sym (positive_here s at h b))

  pub negative_value : {n next : ℕ} → at < length s → get_or s at 0 ≡ 45 → UnsignedRead 10000000 s (at + 1) (Some (n, next)) → (n ≡ 0 → ⊥)
      → SignedRead s at (Some (neg_ℤ (pos n), next))
  negative_value {n = zero} {next = next} h b w z = absurd (z refl)
  negative_value {n = suc n} {next = next} h b w z = answered s at (Some (negsuc n, next)) w.within (ap negative w.answer ∙ sym (negative_here s at h b))

  pub negative_zero : {n next : ℕ} → at < length s → get_or s at 0 ≡ 45 → UnsignedRead 10000000 s (at + 1) (Some (n, next)) → n ≡ 0 → SignedRead s at None
  negative_zero {n} {next} h b w z =
      answered s at None (omega arith) (ap (λ (m : ℕ). negative (parsed m (drop next s))) (sym z) ∙ ap negative w.answer ∙ sym (negative_here s at h b))

  pub negative_none : at < length s → get_or s at 0 ≡ 45 → UnsignedRead 10000000 s (at + 1) None → SignedRead s at None
  negative_none h b w = answered s at None (omega arith) (ap negative w.answer ∙ sym (negative_here s at h b))

-- what is read back of a number of at most seven digits
pub kept : (v : ℤ) → Short v → to_z w32 (of_z w32 v) ≡ v
kept v h = to_z-of_z (small w32 v (omega arith))

-- the machine's integer of a number below the limit, and its negation
pub fits : (n : ℕ) → n < 10000000 → SFits w32 (pos n)
fits n h = record { sfits = omega arith }

pub as_signed : (n : ℕ) → n < 10000000 → to_z w32 n ≡ pos n
as_signed n h = to_z_pos w32 n (omega arith)

difference : (n : ℕ) → n < 10000000 → pos 0 -ℤ to_z w32 n ≡ neg_ℤ (pos n)
difference n h = ap (λ (z : ℤ). pos 0 -ℤ z) (as_signed n h) ∙ +ℤ_idl (neg_ℤ (pos n))

fits_neg : (n : ℕ) → n < 10000000 → SFits w32 (neg_ℤ (pos n))
fits_neg zero h = record { sfits = omega arith }
fits_neg (suc n) h = record { sfits = omega arith }

pub fits_difference : (n : ℕ) → n < 10000000 → SFits w32 (pos 0 -ℤ to_z w32 n)
fits_difference n h = rw (difference n h) (fits_neg n h)

pub as_negative : (n : ℕ) → n < 10000000 → to_z w32 (of_z w32 (pos 0 -ℤ to_z w32 n)) ≡ neg_ℤ (pos n)
as_negative n h = to_z-of_z (fits_difference n h) ∙ difference n h
