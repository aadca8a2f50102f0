-- Each answer of `put`, and the part of a buffer that holds a line.
-- Assumes nothing.
use Rattle.std.specs.Prelude.{◌≡◌, ◌+◌, ◌<◌, ◌≤◌, Option, None}
use Rattle.laws.proofs.Prelude.{sym, ap, subst, ◌∙◌, List, Some, ℕ, arith, le-leb, lt-leb, leb-true, length, take, drop, sets-eq}
use Rattle.laws.proofs.Prelude.{take_at, length-sets, length-take-le}
use Rattle.decimal.specs.Print.{Printing}
use Rattle.decimal.proofs.Steps.{cases}
use Rattle.report.specs.Put.{has_room_at, Put, LineWritten}
use Rattle.report.proofs.Lines.{at_front}

pub full : {text out : List ℕ} {at : ℕ} → length out < at + length text → Put text out at None out
full {text} {out} {at} h = let e = lt-leb (at + length text) (length out) h in record { answer = rw e; printed = rw e }

pub next : {text out out' : List ℕ} {at i : ℕ} → at + length text ≤ length out → Printing text out at i out' → Put text out at (Some i) out'
next {text} {out} {out'} {at} h p =
    let e = le-leb (at + length text) (length out) h in
    record { answer = rw e (ap Some p.answer); printed = rw e p.printed }

-- the place after the text lies in the buffer
pub within : {text out out' : List ℕ} {at i : ℕ} → Put text out at (Some i) out' → i ≤ length out
within {text} {out} {at = at} {i = i} p =
    cases (has_room_at text out at)
    (λ e. let q : i ≡ at + length text = let a = rw e at p.answer in cc in omega (arith, leb-true (at + length text) (length out) e))
    (λ e. let a = rw e at p.answer in let z : ◌≡◌ {A = ℕ} 0 1 = cc in absurd (omega arith))

-- the line lies in its buffer
pub line_within : {text out out' : List ℕ} {r : ℕ} → LineWritten text out r out' → r ≤ length out'
line_within w = omega (arith, w.answer, w.fits, simp length-sets at (ap length w.written))

pub line_length : {text out out' : List ℕ} {r : ℕ} → LineWritten text out r out' → r ≡ length (take r out')
line_length w = sym (length-take-le _ _ (line_within w))

-- the line is the front of its buffer
pub front : {text out out' : List ℕ} {r : ℕ} → LineWritten text out r out' → take r out' ≡ text
front {text} {out} {out'} {r} w =
    ap (take r) (w.written ∙ sets-eq text out 0 (omega (arith, w.fits))) ∙ take_at text (drop (0 + length text) out) r (sym w.answer)

pub put_line : {text part buffer buffer' out out' : List ℕ} {at i : ℕ} {r : Option ℕ} → LineWritten text buffer i buffer' → part ≡ take i buffer'
    → Put part out at r out' → Put text out at r out'
put_line {out = out} {out' = out'} {at = at} {r = r} w e p = subst (λ (t : List ℕ). Put t out at r out') (e ∙ front w) p

-- a text that was written to an array of its own, copied to the front of a buffer that has room for it
pub copied : {text own own' part out out' : List ℕ} {end r : ℕ} → LineWritten text own end own' → part ≡ take end own' → Printing part out 0 r out'
    → length text ≤ length out → LineWritten text out r out'
copied {out = out} {out' = out'} {r = r} w e p h =
    at_front (subst (λ (t : List ℕ). Printing t out 0 r out') (e ∙ front w) p) (omega (arith, p.answer, ap length (e ∙ front w)))
