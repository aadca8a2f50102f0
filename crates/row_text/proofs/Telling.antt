-- The text of the lines that a driver told is that of the driven row.
-- Assumes nothing.
use Rattle.refusals.specs.declared.Refusal.{Refusal}
use Rattle.std.specs.Prelude.{◌≡◌, ◌∷◌, ◌++◌, ◌+◌, ◌*◌, ◌≤◌, Result}
use Rattle.laws.proofs.Prelude.{refl, ap, ap₂, sym, subst, ◌∙◌, List, [], append-nil, append_assoc, flatten, ℕ, zero, suc}
use Rattle.laws.proofs.Prelude.{add-zero, arith, Float, length, drop, get_or, length-append, plus, over}
use Rattle.row_lines.specs.Lines.{line_words, lines_words}
use Rattle.row_lines.specs.Driven.{Driving, LinesWritten, lines_written, Drives}
use Rattle.row_lines.specs.declared.Line.{Line}
use Rattle.job_text_statements.specs.declared.Head.{Head}
use Rattle.job_statements.proofs.Records.{length_parts}
use Rattle.report.specs.Text.{tile_names}
use Rattle.report.specs.Put.{LineWritten}
use Rattle.row_answer.specs.Answer.{tile_line_text, tile_lines_text, last_text, driving_text, head_driving, answer_room}
use Rattle.row_printing.specs.Told.{line_in, told_lines, told_text, Tells}

-- ---- the lines that the words say

module _ (l : Line) (rest : List ℕ) where
  later : (i : ℕ) → line_in (line_words l ++ rest) (suc i) ≡ line_in rest i
  later i =
      let first : suc i * 5 ≡ suc (suc (suc (suc (suc (i * 5))))) = omega arith in
      let at : (k : ℕ) → get_or (line_words l ++ rest) (suc i * 5 + k) 0 ≡ get_or rest (i * 5 + k) 0
      = λ k. ap (λ (n : ℕ). get_or (line_words l ++ rest) n 0) (after i k) in
      λ j.
      record {
        decision = get_or (line_words l ++ rest) (first j) 0;
        listed = at 1 j;
        shown = at 2 j;
        octets = at 3 j;
        carried = at 4 j;
      }
    where
      after : (i k : ℕ) → suc i * 5 + k ≡ suc (suc (suc (suc (suc (i * 5 + k)))))
      after i k = omega arith

  -- the first one, and those after it
  told_more : (first n : ℕ) → told_lines (line_words l ++ rest) first (suc n) ≡ tile_line_text first l ++ told_lines rest (suc first) n
  unfolding told_lines
  told_more first zero = ap (λ (n : ℕ). tile_line_text n l) (add-zero first) ∙ sym (append-nil (tile_line_text first l))
  told_more first (suc n) =
      let tile : first + suc n ≡ suc first + n = omega arith in
      ap₂ ◌++◌ (told_more first n) (ap₂ tile_line_text tile (later n))
      ∙ append_assoc (tile_line_text first l) (told_lines rest (suc first) n) (tile_line_text (suc first + n) (line_in rest n))

told_lines_lem : (ls : List Line) (rest : List ℕ) (first : ℕ) → told_lines (lines_words ls ++ rest) first (length ls) ≡ tile_lines_text first ls
unfolding told_lines tile_lines_text lines_words flatten
told_lines_lem [] rest first = refl
told_lines_lem (l ∷ ls) rest first =
    told_more l (lines_words ls ++ rest) first (length ls) ∙ ap (λ (t : List ℕ). tile_line_text first l ++ t) (told_lines_lem ls rest (suc first))

length_words : (ls : List Line) → length (lines_words ls) ≡ length ls * 5
unfolding lines_words
length_words ls = omega (arith, length_parts 5 line_words (λ l. refl) ls)

-- ---- what a driver told

module _ {d : Driving} {old : List ℕ} {r : Result ℕ (Refusal × ℕ)} {told : List ℕ} (g : Drives d old r told) where
  told_text_lem : (first : ℕ) → told_text told first (lines_written r) ≡ driving_text first d
  unfolding told_text driving_text over
  told_text_lem first =
      ap (told_text told first) g.answer
      ∙ ap (λ (t : List ℕ). tile_names ++ told_lines t first (length d.lines) ++ last_text d.refusal) g.lines_are
      ∙ ap (λ (t : List ℕ). tile_names ++ t ++ last_text d.refusal) (told_lines_lem d.lines (drop (length (lines_words d.lines)) old) first)

  tells : {first : ℕ} {out : List ℕ} → length told ≡ 20475 → first ≤ 2147483647 → answer_room ≤ length out → Tells told first (lines_written r) out
  unfolding over
  tells {first} {out} long low room =
      let ws = lines_words d.lines in
      let many : (lines_written r).written ≡ length d.lines = ap (λ (t : LinesWritten). t.written) g.answer in
      let all : length told ≡ length ws + length (drop (length ws) old) = ap length g.lines_are ∙ length-append ws (drop (length ws) old) in
      let words = length_words d.lines in
      record { written = omega arith; few = omega arith; low = low; room = room }

-- ---- a row that is driven

module _ (h : Head) (row words : List ℕ) (floats : List Float) (count : ℕ) {lines : List ℕ} {r : Result ℕ (Refusal × ℕ)} {told : List ℕ} (g : Drives (head_driving h row words floats count) lines r told) {first : ℕ} (e : first ≡ plus h.from) where
  pub all_told : {out : List ℕ} → length told ≡ 20475 → plus h.from ≤ 2147483647 → answer_room ≤ length out → Tells told first (lines_written r) out
  all_told l low room = tells g l (omega arith) room

  pub text_is : {out out' : List ℕ} {n : ℕ} → LineWritten (told_text told first (lines_written r)) out n out'
      → LineWritten (driving_text (plus h.from) (head_driving h row words floats count)) out n out'
  text_is {out} {out'} {n} w = subst (λ (t : List ℕ). LineWritten t out n out') (told_text_lem g first ∙ ap (λ (k : ℕ). driving_text k (head_driving h row words floats count)) e) w
