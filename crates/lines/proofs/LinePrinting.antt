-- What holds while a line is printed: with what is left to print the list, and the place after it, are as the whole line leaves them.
-- Assumes nothing.
use Rattle.std.specs.Prelude.{◌≡◌, ◌∷◌, ◌++◌, ◌+◌, ◌-◌, ◌*◌, ◌<◌, ◌≤◌}
use Rattle.laws.proofs.Prelude.{sym, ap, ◌∙◌, List, ℕ, suc, add-one, arith, ℤ, pos, length, drop, get_or}
use Rattle.laws.proofs.Prelude.{set, length-set, length-append, length-drop, drop_of_length-le, sets, length-sets, drop-cons}
use Rattle.decimal.specs.Decimal.{decimalℤ}
use Rattle.decimal.specs.Print.{Printing}
use Rattle.decimal.proofs.Print.{sets_append}
use Rattle.lines.specs.Text.{field_end, line_text}
use Rattle.lines.specs.Parse.{end_at}
use Rattle.lines.proofs.Laws.{ends}

pub record LinePrinting (vs : List ℤ) (out₀ : List ℕ) (at p j : ℕ) (out : List ℕ) : Type 0 where
  pub within : j ≤ length vs
  pub long : length out ≡ length out₀
  pub room : at + 12 * length vs ≤ length out
  pub few : p ≤ at + 12 * j
  pub place : p + length (line_text (drop j vs)) ≡ at + length (line_text vs)
  pub rest : sets out p (line_text (drop j vs)) ≡ sets out₀ at (line_text vs)

module _ {vs : List ℤ} {out₀ : List ℕ} {at p j : ℕ} {out : List ℕ} (l : LinePrinting vs out₀ at p j out) where
  pub next_field : {i : ℕ} {out₁ : List ℕ} → j < length vs → Printing (decimalℤ (get_or vs j (pos 0))) out p i out₁ → i ≤ p + 11
      → LinePrinting vs out₀ at (i + 1) (j + 1) (set out₁ i (end_at (length vs - 1 - j)))
  unfolding line_text
  next_field {i} {out₁} h q b =
      let v = get_or vs j (pos 0) in
      let after = drop (j + 1) vs in
      let end : end_at (length vs - 1 - j) ≡ field_end after = sym (ends after ∙ ap end_at (omega (arith, length-drop (j + 1) vs))) in
      let split : drop j vs ≡ v ∷ after = drop-cons vs j (pos 0) h ∙ ap (λ (n : ℕ). v ∷ drop n vs) (sym (add-one j)) in
      let text : line_text (drop j vs) ≡ decimalℤ v ++ (field_end after ∷ line_text after) = ap line_text split in
      let size : length out₁ ≡ length out = ap length q.printed ∙ length-sets out p (decimalℤ v) in
      record {
        within = omega arith;
        long = length-set out₁ i (end_at (length vs - 1 - j)) ∙ size ∙ l.long;
        room = simp length-set (omega (arith, l.room));
        few = omega (arith, l.few);
        place = omega (arith, ap length text, length-append (decimalℤ v) (field_end after ∷ line_text after), q.answer, l.place);
        rest =
            ap (λ (n : ℕ). sets (set out₁ i (end_at (length vs - 1 - j))) n (line_text after)) (add-one i)
            ∙ ap (λ (b : ℕ). sets (set out₁ i b) (suc i) (line_text after)) end
            ∙ ap (λ (o : List ℕ). sets o i (field_end after ∷ line_text after)) q.printed
            ∙ ap (λ (n : ℕ). sets (sets out p (decimalℤ v)) n (field_end after ∷ line_text after)) q.answer
            ∙ sym (sets_append (decimalℤ v) (field_end after ∷ line_text after) out p)
            ∙ sym (ap (sets out p) text)
            ∙ l.rest;
      }

  pub end : length vs ≤ j → Printing (line_text vs) out₀ at p out × (p ≤ at + 12 * length vs)
  unfolding line_text
  end h =
      let none = drop_of_length-le vs h in (
        record {
          answer = omega (arith, ap (λ (x : List ℤ). length (line_text x)) none, l.place);
          printed = sym (ap (λ (x : List ℤ). sets out p (line_text x)) none) ∙ l.rest;
        },
        omega (arith, l.few, l.within),
      )
