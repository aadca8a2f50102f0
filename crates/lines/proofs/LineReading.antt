-- What holds while a line is read: what is left of it decides as the whole did, and with what is left to store the list is as the
-- whole line leaves it.
-- Assumes nothing.
use Rattle.std.specs.Prelude.{◌≡◌, ◌∷◌, ◌+◌, ◌-◌, ◌<◌, ◌≤◌}
use Rattle.laws.proofs.Prelude.{sym, ap, ◌∙◌, List, ℕ, suc, add-one, arith, ℤ, length, drop, get_or, set, Some, None}
use Rattle.laws.proofs.Prelude.{drop_of_length-le, length-set, drop-cons, sets}
use Rattle.decimal.specs.Parse.{parsed, parseℤ}
use Rattle.decimal.specs.Read.{SignedRead}
use Rattle.lines.specs.Parse.{ParsedLine, broken, after, end_at, parse_line}
use Rattle.lines.specs.Read.{LineRead}
use Rattle.lines.proofs.Steps.{line_failed, line_end, line_other, line_next}

pub record LineReading (k : ℕ) (s : List ℕ) (at : ℕ) (out₀ : List ℤ) (o i j : ℕ) (out : List ℤ) : Type 0 where
  pub within : i ≤ length s
  pub long : length out ≡ length out₀
  pub room : o + k ≤ length out
  pub rest : (parse_line (k - j) (drop i s)).rest ≡ (parse_line k (drop at s)).rest
  pub stored : sets out (o + j) (parse_line (k - j) (drop i s)).numbers ≡ sets out₀ o (parse_line k (drop at s)).numbers

number_then : (s : List ℕ) (i : ℕ) (w : ℤ) (next : ℕ) → SignedRead s i (Some (w, next)) → next < length s
    → parseℤ 10000000 (drop i s) ≡ parsed w (get_or s next 0 ∷ drop (next + 1) s)
number_then s i w next r l = sym r.answer ∙ rw (add-one, drop-cons s next 0 l)

module _ {k : ℕ} {s : List ℕ} {at : ℕ} {out₀ : List ℤ} {o i j : ℕ} {out : List ℤ} (v : LineReading k s at out₀ o i j out) where
  pub end : k ≤ j → LineRead k s at out₀ o (Some i) out
  unfolding parse_line
  end h =
      let none : k - j ≡ 0 = omega arith in
      record {
        answer = sym (ap (λ (m : ℕ). (parse_line m (drop i s)).rest) none) ∙ v.rest;
        within = v.within;
        stored = sym (ap (λ (m : ℕ). sets out (o + j) (parse_line m (drop i s)).numbers) none) ∙ v.stored;
      }

  module _ (h : j < k) where
    -- with one field fewer left
    step : parse_line (k - j) (drop i s) ≡ parse_line (suc (k - 1 - j)) (drop i s)
    step = ap (λ (m : ℕ). parse_line m (drop i s)) (omega arith)

    -- the form is broken here
    stuck : parse_line (suc (k - 1 - j)) (drop i s) ≡ broken → LineRead k s at out₀ o None out
    stuck e =
        let same = step ∙ e in
        record {
          answer = sym (ap (λ (l : ParsedLine). l.rest) same) ∙ v.rest;
          within = omega arith;
          stored = sym (ap (λ (l : ParsedLine). sets out (o + j) l.numbers) same) ∙ v.stored;
        }

    pub no_number : SignedRead s i None → LineRead k s at out₀ o None out
    no_number r = stuck (line_failed (k - 1 - j) (drop i s) (sym r.answer))

    module _ {w : ℤ} {next : ℕ} (r : SignedRead s i (Some (w, next))) where
      pub no_end : length s ≤ next → LineRead k s at out₀ o None out
      no_end l = stuck (line_end (k - 1 - j) (drop i s) w (sym r.answer ∙ ap (parsed w) (drop_of_length-le s l)))

      module _ (l : next < length s) where
        pub other_end : (get_or s next 0 ≡ end_at (k - 1 - j) → ⊥) → LineRead k s at out₀ o None out
        other_end e = stuck (line_other (k - 1 - j) (drop i s) w (get_or s next 0) (drop (next + 1) s) (number_then s i w next r l) e)

        pub next_field : get_or s next 0 ≡ end_at (k - 1 - j) → LineReading k s at out₀ o (next + 1) (j + 1) (set out (o + j) w)
        next_field e =
            let fewer : k - (j + 1) ≡ k - 1 - j = omega arith in
            let same : parse_line (k - j) (drop i s) ≡ after w (parse_line (k - 1 - j) (drop (next + 1) s))
            = step ∙ line_next (k - 1 - j) (drop i s) w (get_or s next 0) (drop (next + 1) s) (number_then s i w next r l) e in
            let place : o + (j + 1) ≡ suc (o + j) = omega arith in
            record {
              within = omega arith;
              long = length-set out (o + j) w ∙ v.long;
              room = simp length-set v.room;
              rest = rw fewer (sym (ap (λ (x : ParsedLine). x.rest) same) ∙ v.rest);
              stored =
                  rw fewer
                  (ap (λ (q : ℕ). sets (set out (o + j) w) q (parse_line (k - 1 - j) (drop (next + 1) s)).numbers) place
                  ∙ sym (ap (λ (x : ParsedLine). sets out (o + j) x.numbers) same)
                  ∙ v.stored);
            }
