-- What holds while lines are printed, and what a driver told once they are.
-- Assumes nothing.
use Rattle.std.specs.Prelude.{◌≡◌, ◌++◌, ◌+◌, ◌*◌, ◌≤◌, ◌<◌, Result, Ok, Err}
use Rattle.laws.proofs.Prelude.{refl, ap, sym, subst, ◌∙◌, List, [], ℕ, add-one, arith, length}
use Rattle.decimal.specs.Print.{Printing}
use Rattle.decimal.proofs.Print.{joined}
use Rattle.refusals.specs.Refusal.{number_of}
use Rattle.refusals.specs.declared.Refusal.{Refusal}
use Rattle.row_lines.specs.Driven.{LinesWritten, lines_written}
use Rattle.report.specs.Text.{tile_names, tile_text, refusal_text}
use Rattle.report.specs.Put.{LineWritten}
use Rattle.report.proofs.Lines.{at_front}
use Rattle.row_printing.specs.Told.{tile_in, told_lines, told_text, Lines, Tells}

-- ---- the loop over the lines

pub record Lining (told : List ℕ) (first n : ℕ) (out₀ : List ℕ) (at : ℕ) (out : List ℕ) (end i : ℕ) : Type 0 where
  pub asked : Lines told first n out₀ at
  pub within : i ≤ n
  pub long : length out ≡ length out₀
  pub low : end ≤ at + i * 61
  pub so_far : Printing (told_lines told first i) out₀ at end out

module _ {told : List ℕ} {first n : ℕ} {out₀ : List ℕ} {at : ℕ} where
  pub start : Lines told first n out₀ at → Lining told first n out₀ at out₀ at 0
  unfolding told_lines
  start a =
      record {
        asked = a;
        within = omega arith;
        long = refl;
        low = omega arith;
        so_far = record { answer = omega arith; printed = refl };
      }

  module _ {out : List ℕ} {end i : ℕ} (v : Lining told first n out₀ at out end i) where
    pub next : {out' : List ℕ} {r : ℕ} → i < n → length out' ≡ length out → Printing (tile_text (tile_in told i (first + i))) out end r out' × (r ≤ end + 61)
        → Lining told first n out₀ at out' r (i + 1)
    unfolding told_lines
    next {out'} {r} h l p =
        let is : told_lines told first (i + 1) ≡ told_lines told first i ++ tile_text (tile_in told i (first + i)) = ap (told_lines told first) (add-one i) in
        record {
          asked = v.asked;
          within = omega arith;
          long = l ∙ v.long;
          low = omega (arith, v.low, p.1);
          so_far = subst (λ (t : List ℕ). Printing t out₀ at r out') (sym is) (joined v.so_far p.0);
        }

-- ---- names, lines and the refusal

-- the refusal has room after the lines
pub last_room : {told : List ℕ} {first : ℕ} {out out₁ : List ℕ} {t u : LinesWritten} {a : ℕ} → Tells told first t out → t ≡ u → Printing tile_names out 0 a out₁
    → a + u.written * 61 + 19 ≤ length out
last_room {t = t} {u = u} w e p =
    let same : t.written ≡ u.written = ap (λ (x : LinesWritten). x.written) e in
    omega (arith, w.room, w.few, same, p.answer)

module _ (told : List ℕ) (first : ℕ) {out : List ℕ} where
  pub done : {driven : Result ℕ (Refusal × ℕ)} {out₁ out₂ : List ℕ} {a n r : ℕ} → driven ≡ Ok n → Printing tile_names out 0 a out₁ → Printing (told_lines told first n) out₁ a r out₂
      → r ≤ length out → LineWritten (told_text told first (lines_written driven)) out r out₂
  unfolding told_text
  done {out₂ = out₂} {r = r} e p q h =
      let none_after : Printing [] out₂ r r out₂ = record { answer = omega arith; printed = refl } in
      subst (λ (x : Result ℕ (Refusal × ℕ)). LineWritten (told_text told first (lines_written x)) out r out₂) (sym e) (at_front (joined (joined p q) none_after) h)

  pub refused : {driven : Result ℕ (Refusal × ℕ)} {out₁ out₂ out₃ : List ℕ} {a b n r number : ℕ} {refusal : Refusal} → driven ≡ Err (refusal, n) → number ≡ number_of refusal
      → Printing tile_names out 0 a out₁ → Printing (told_lines told first n) out₁ a b out₂ → Printing (refusal_text number) out₂ b r out₃ → r ≤ length out
      → LineWritten (told_text told first (lines_written driven)) out r out₃
  unfolding told_text
  refused {out₂ = out₂} {out₃ = out₃} {b = b} {r = r} e f p q u h =
      let last = subst (λ (k : ℕ). Printing (refusal_text k) out₂ b r out₃) f u in
      subst (λ (x : Result ℕ (Refusal × ℕ)). LineWritten (told_text told first (lines_written x)) out r out₃) (sym e) (at_front (joined (joined p q) last) h)
