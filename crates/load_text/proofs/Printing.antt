-- The blocks of a load's text, printed: their lines, the text put together, and the answer to a line and to the front of an input.
-- Assumes nothing.
use Rattle.std.specs.Prelude.{◌≡◌, ◌∷◌, ◌++◌, ◌+◌, ◌*◌, ◌<◌, ◌≤◌}
use Rattle.laws.proofs.Prelude.{refl, sym, ap, ap₂, subst, ◌∙◌, List, [], append-nil, Option, Some, ℕ, suc, arith}
use Rattle.laws.proofs.Prelude.{ℤ, length, take, tabulate}
use Rattle.decimal.specs.Print.{Printing}
use Rattle.decimal.proofs.Print.{joined}
use Rattle.lines.specs.Text.{line_text, lines_text, block_text}
use Rattle.lines.proofs.LinesPrinting.{LinesPrinting, start, next, end_of, block}
use Rattle.job_text_statements.specs.Text.{blocks_text, head_names, layer_names, segment_names}
use Rattle.job_text_statements.specs.Job.{head_values, layer_values, segment_values, render}
use Rattle.report.specs.Put.{LineWritten}
use Rattle.report.proofs.Lines.{at_front}
use Rattle.load_statements.specs.Draw.{state_after}
use Rattle.load_statements.specs.declared.Asked.{Asked}
use Rattle.load_statements.specs.Load.{load_head, load_layer, slot_of, segment_from, load_segment, load_of}
use Rattle.load_statements.specs.Input.{AskedInRange, ask}
use Rattle.load_statements.specs.Answer.{load_answer, load_answer_text}
use Rattle.load_statements.specs.Length.{input_room}
use Rattle.load_statements.proofs.Asking.{ask_sound}
use Rattle.load_statements.proofs.Fields.{head_long, segment_long}
use Rattle.load_statements.proofs.Forming.{segment_lines}
use Rattle.load_statements.proofs.Lengths.{front_decides}
use Rattle.load_statements.proofs.Making.{tells}
use Rattle.load_text.specs.Print.{LoadAnswered, head_block, layers_block, segments_block}

-- ---- block 1

one_line : (vs : List ℤ) → lines_text (vs ∷ []) ≡ line_text vs
unfolding lines_text
one_line vs = append-nil (line_text vs)

pub head_printed : {out out₁ out₂ : List ℕ} {p r : ℕ} {line : List ℤ} (tiles : ℕ) → tiles ≤ 4095 → Printing head_names out 0 p out₁ → line ≡ head_values (load_head tiles)
    → Printing (line_text line) out₁ p r out₂ → Printing (head_block tiles) out 0 r out₂ × (r ≤ 32)
unfolding head_block
head_printed {out₁ = out₁} {out₂ = out₂} {p = p} {r = r} tiles h q e l =
    let k : Printing (lines_text (head_values (load_head tiles) ∷ [])) out₁ p r out₂
    = rw (one_line (head_values (load_head tiles))) (subst (λ (x : List ℤ). Printing (line_text x) out₁ p r out₂) e l) in
    (block head_names (head_values (load_head tiles) ∷ []) q k, omega (arith, q.answer, ap (λ (x : List ℤ). length (line_text x)) e, l.answer, head_long tiles h))

-- ---- block 2

pub layers_printed : {out out₁ out₂ : List ℕ} {at p r id : ℕ} → Printing layer_names out at p out₁ → LinesPrinting (λ i. layer_values (load_layer i)) 8 18 out₁ p r id out₂ → 8 ≤ id
    → Printing layers_block out at r out₂ × (r ≤ at + 189)
unfolding layers_block
layers_printed q v l =
    let e = end_of v l in
    (block layer_names (tabulate 8 (λ i. layer_values (load_layer i))) q e.0, omega (arith, e.1, q.answer))

-- ---- block 3

-- the lines so far, and the generator after their draws

pub record Making (a : Asked) (out₀ : List ℕ) (at end s k : ℕ) (out : List ℕ) : Type 0 where
  pub lines : LinesPrinting (λ i. segment_values (load_segment a i)) a.count 22 out₀ at end k out
  pub state : s ≡ state_after a.seed (4 * k)

pub make : (a : Asked) {out : List ℕ} {at : ℕ} → Making a out at at a.seed 0 out
unfolding state_after
make a = record { lines = start; state = refl }

-- four draws on
after_four : (s k : ℕ) → state_after (state_after s (4 * k)) 4 ≡ state_after s (4 * (k + 1))
unfolding state_after
after_four s k = ap (state_after s) (let e : suc (suc (suc (suc (4 * k)))) ≡ 4 * (k + 1) = omega arith in e)

module _ {a : Asked} (h : AskedInRange a) {out₀ : List ℕ} {at end s k : ℕ} {out : List ℕ} (v : Making a out₀ at end s k out) where
  pub make_next : {slot r t : ℕ} {line : List ℤ} {out' : List ℕ} → k < a.count → slot ≡ slot_of a.tiles a.count k → line ≡ segment_values (segment_from s slot)
      → t ≡ state_after s 4 → length out' ≡ length out → Printing (line_text line) out end r out' → Making a out₀ at r t (k + 1) out'
  make_next l j e d n p = record {
    lines = next v.lines l (segment_long a h k l) (e ∙ ap₂ (λ (x y : ℕ). segment_values (segment_from x y)) v.state j) n p;
    state = d ∙ ap (λ (x : ℕ). state_after x 4) v.state ∙ after_four a.seed k;
  }

pub segments_printed : {a : Asked} {out out₁ out₂ : List ℕ} {at p r s k : ℕ} → Printing segment_names out at p out₁ → Making a out₁ p r s k out₂ → a.count ≤ k
    → Printing (segments_block a) out at r out₂ × (r ≤ at + 33 + 22 * a.count)
unfolding segments_block
segments_printed {a} q v l =
    let e = end_of v.lines l in
    (block segment_names (tabulate a.count (λ i. segment_values (load_segment a i))) q e.0, omega (arith, e.1, q.answer))

-- ---- the text

text_is : (a : Asked) → head_block a.tiles ++ (layers_block ++ segments_block a) ≡ render (load_of a)
unfolding head_block layers_block segments_block render load_of blocks_text
text_is a =
    ap (λ (ls : List (List ℤ)). head_block a.tiles ++ (layers_block ++ block_text segment_names ls)) (sym (segment_lines a))

pub text_printed : (a : Asked) {out out₁ out₂ out₃ : List ℕ} {m n r : ℕ} → Printing (head_block a.tiles) out 0 m out₁ → Printing layers_block out₁ m n out₂
    → Printing (segments_block a) out₂ n r out₃ → r ≤ length out → LineWritten (render (load_of a)) out r out₃
text_printed a {out} {out₃ = out₃} {r = r} p q s h =
    subst (λ (t : List ℕ). LineWritten t out r out₃) (text_is a) (at_front (joined p (joined q s)) h)

-- ---- the answer

module _ {text : List ℕ} {o : Option Asked} (e : o ≡ ask text) where
  pub answered : {out out' : List ℕ} {r : ℕ} → LineWritten (load_answer o) out r out' → LoadAnswered text out r out'
  unfolding load_answer_text
  answered {out} {out'} {r} w = record { written = subst (λ (x : Option Asked). LineWritten (load_answer x) out r out') e w; tells = tells text }

-- what the first 21 bytes of an input are answered is the answer to all of it
pub by_front : {part whole out out' : List ℕ} {r : ℕ} → part ≡ take input_room whole → LoadAnswered part out r out' → LoadAnswered whole out r out'
by_front {whole = whole} {out = out} {out' = out'} {r = r} e a = record {
  written = subst (λ (t : List ℕ). LineWritten t out r out') (ap load_answer_text e ∙ front_decides whole) a.written;
  tells = tells whole;
}

-- what a line asks for is in range
pub in_range_lem : (text : List ℕ) {a : Asked} → Some a ≡ ask text → AskedInRange a
in_range_lem text {a} e = (ask_sound text a (sym e)).range
