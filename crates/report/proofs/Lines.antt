-- The parts of a line, with the bounds that their room rests on, and the lines put together.
-- Assumes nothing.
use Rattle.std.specs.Prelude.{◌≡◌, ◌+◌, ◌≤◌}
use Rattle.laws.proofs.Prelude.{sym, subst, List, ℕ, arith, length, set, w32, Fits}
use Rattle.decimal.specs.Decimal.{decimal}
use Rattle.decimal.specs.Print.{Printing}
use Rattle.decimal.proofs.Print.{joined, byte, ten}
use Rattle.lines.specs.Bytes.{bytes}
use Rattle.report.specs.declared.Op.{Op}
use Rattle.report.specs.declared.TileLine.{TileLine}
use Rattle.report.specs.Text.{number_field, op_field, tile_text, refusal_text}
use Rattle.report.specs.Put.{LineWritten}

pub number_after : {out out₁ : List ℕ} {at i n : ℕ} (end : ℕ) → Fits w32 n → Printing (decimal n) out at i out₁
    → Printing (number_field n end) out at (i + 1) (set out₁ i end) × (i + 1 ≤ at + 11)
number_after {n = n} end h p = (joined p byte, omega (arith, ten n h, p.answer))

pub op_is : {out out' : List ℕ} {at r : ℕ} {op : Op} (o : Op) → op ≡ o → length (op_field o) ≤ 6 → Printing (op_field o) out at r out'
    → Printing (op_field op) out at r out' × (r ≤ at + 6)
op_is {out} {out'} {at} {r} {op} o e l p = (subst (λ (x : Op). Printing (op_field x) out at r out') (sym e) p, omega (arith, p.answer))

-- a text that is printed at the front is a line
pub at_front : {text out out' : List ℕ} {r : ℕ} → Printing text out 0 r out' → r ≤ length out → LineWritten text out r out'
at_front p h = record { answer = omega (arith, p.answer); fits = omega (arith, p.answer); written = p.printed }

-- the parts of a line, one after another
pub line_of : {o₀ o₁ o₂ o₃ o₄ o₅ o₆ : List ℕ} {a b c d e r : ℕ} (t : TileLine)
    → Printing (number_field t.tile 32) o₀ 0 a o₁ → Printing (op_field t.op) o₁ a b o₂ → Printing (number_field t.listed 32) o₂ b c o₃
    → Printing (number_field t.shown 32) o₃ c d o₄ → Printing (number_field t.octets 32) o₄ d e o₅ → Printing (number_field t.carried 10) o₅ e r o₆
    → r ≤ length o₀ → LineWritten (tile_text t) o₀ r o₆
unfolding tile_text
line_of t p q s u v w h = at_front (joined (joined (joined (joined (joined p q) s) u) v) w) h

pub refusal_of : {o₀ o₁ o₂ : List ℕ} {a r : ℕ} (number : ℕ) → Printing (bytes "refused ") o₀ 0 a o₁ → Printing (number_field number 10) o₁ a r o₂ → r ≤ length o₀
    → LineWritten (refusal_text number) o₀ r o₂
unfolding refusal_text
refusal_of number p q h = at_front (joined p q) h
