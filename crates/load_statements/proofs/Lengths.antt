-- The line that asks for a load has at most 20 bytes, and so the first 21 of an input decide; every answer has at most 11,518.
-- Assumes nothing.
use Rattle.std.specs.Prelude.{◌≡◌, ◌∷◌, ◌≤◌, ◌<◌}
use Rattle.laws.proofs.Prelude.{refl, sym, ap, ◌∙◌, ⊎_elim, List, [], Option, Some, None, ℕ, arith, pos, length, take}
use Rattle.laws.proofs.Prelude.{length-append, length-take-le, take_all, le_or_lt}
use Rattle.decimal.specs.Decimal.{decimal}
use Rattle.decimal.proofs.Print.{length_at_most}
use Rattle.lines.specs.Text.{line_text}
use Rattle.report.proofs.Examples.{refusal}
use Rattle.load_statements.specs.declared.Asked.{Asked}
use Rattle.load_statements.specs.Input.{AskedInRange, ask}
use Rattle.load_statements.specs.Answer.{load_answer, load_answer_text}
use Rattle.load_statements.specs.Length.{line_room, input_room, answer_room, LinesShort, FrontDecides, AnswersFit}
use Rattle.load_statements.proofs.Asking.{ask_sound}
use Rattle.load_statements.proofs.Forming.{text_long}

-- ---- the line

numbers_short : (a : Asked) → AskedInRange a → length (line_text (pos a.seed ∷ pos a.tiles ∷ pos a.count ∷ [])) ≤ line_room
unfolding line_text
numbers_short a h =
    let seed : length (decimal a.seed) ≤ 10 = length_at_most 9 a.seed (omega (arith, h.seed)) in
    let tiles : length (decimal a.tiles) ≤ 4 = length_at_most 3 a.tiles (omega (arith, h.tiles)) in
    let count : length (decimal a.count) ≤ 3 = length_at_most 2 a.count (omega (arith, h.count)) in
    simp length-append (omega (arith, seed, tiles, count))

pub lines_short : LinesShort
lines_short text a q = omega (arith, ap length q.printed, numbers_short a q.range)

-- a longer text asks for nothing
long_text : (text : List ℕ) → line_room < length text → ask text ≡ None
long_text text h = by (ask text) refl
  where
    by : (o : Option Asked) → ask text ≡ o → o ≡ None
    by None e = refl
    by (Some a) e = absurd (omega (arith, lines_short text a (ask_sound text a e)))

pub front_decides : FrontDecides
unfolding load_answer_text
front_decides text =
    ⊎_elim
    (λ (h : length text ≤ line_room). ap load_answer_text (take_all input_room text (omega arith)))
    (λ (h : line_room < length text).
    ap load_answer
    (long_text (take input_room text) (omega (arith, length-take-le input_room text (omega arith))) ∙ sym (long_text text h)))
    (le_or_lt (length text) line_room)

-- ---- the answer

pub answers_fit : AnswersFit
unfolding load_answer_text
answers_fit text = by (ask text) refl
  where
    by : (o : Option Asked) → ask text ≡ o → length (load_answer o) ≤ answer_room
    by None e = rw refusal (omega arith)
    by (Some a) e = omega (arith, text_long a (ask_sound text a e).range)
