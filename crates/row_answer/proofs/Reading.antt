-- What a text is answered by, from what reading it leaves: the fronts of the arrays are the job's, arrays of these lengths hold every job, and a
-- malformed text is refused by 10.
-- Assumes nothing.
use Rattle.std.specs.Prelude.{◌≡◌, ◌&&◌, ◌*◌, ◌/◌, ◌≤◌, Result, Ok, Err}
use Rattle.laws.proofs.Prelude.{refl, ap, sym, subst, ◌∙◌, List, Option, Some, None, ℕ, arith, leb-true, leb, Float, length}
use Rattle.laws.proofs.Prelude.{take, drop, take_at, Answer, refused, given, plus, over, left, right}
use Rattle.job_text_statements.specs.Job.{Job, render, WellFormed}
use Rattle.job_text_statements.specs.Parse.{parse}
use Rattle.job_lines.specs.Rules.{segment_count}
use Rattle.job_text_statements.specs.declared.Head.{Head}
use Rattle.job_lines.specs.declared.layer.LayerLine.{LayerLine}
use Rattle.job_text_statements.proofs.Laws.{complete, sound}
use Rattle.job_statements.specs.Table.{layer_words, layer_colors, table_words, table_colors}
use Rattle.job_statements.specs.Row.{row_words}
use Rattle.job_statements.specs.Read.{JobOutcome, accepted, no_room, malformed, has_room, job_outcome, reading_answer, answer_to, Says, Left, JobRead}
use Rattle.job_statements.specs.declared.JobError.{JobError}
use Rattle.job_statements.specs.declared.JobError.TheVariants.{NoRoom, Malformed}
use Rattle.job_statements.specs.declared.Numbers.{Numbers}
use Rattle.job_statements.proofs.Records.{length_parts}
use Rattle.job_statements.proofs.Room.{always_room}
use Rattle.job_statements.proofs.Rows.{length_row}
use Rattle.report.specs.Text.{refusal_text}
use Rattle.report.specs.Put.{LineWritten}
use Rattle.row_answer.specs.Answer.{driving_text, head_driving, job_driving, answer_by, answer_text}

-- ---- the fronts of the arrays

length_words : (ls : List LayerLine) → length (table_words ls) ≡ length ls * 8
unfolding table_words
length_words ls = omega (arith, length_parts 8 layer_words (λ l. refl) ls)

length_colors : (ls : List LayerLine) → length (table_colors ls) ≡ length ls * 4
unfolding table_colors
length_colors ls = omega (arith, length_parts 4 layer_colors (λ l. refl) ls)

front : {A : Type 0} (ws old : List A) {new : List A} {n : ℕ} → new ≡ over ws old → length ws ≡ n → take n new ≡ ws
unfolding over
front ws old {n = n} e l = ap (take n) e ∙ take_at ws (drop (length ws) old) n l

-- ---- the answer

-- the row of the numbers that were read, driven from the fronts of the arrays
abbrev fronts_text : Head → ℕ → ℕ → List ℕ → List Float → List ℕ → List ℕ
fronts_text h n m layers colors row = driving_text (plus h.from) (head_driving h (take m row) (take (n * 8) layers) (take (n * 4) colors) n)

same_driving : {h h' : Head} {row row' words words' : List ℕ} {floats floats' : List Float} {n n' : ℕ} → h ≡ h' → row ≡ row' → words ≡ words' → floats ≡ floats' → n ≡ n'
    → driving_text (plus h.from) (head_driving h row words floats n) ≡ driving_text (plus h'.from) (head_driving h' row' words' floats' n')
same_driving eh er ew ef en = λ i. driving_text (plus (eh i).from) (head_driving (eh i) (er i) (ew i) (ef i) (en i))

-- the cases of an answer by numbers
abbrev case_of : Answer (Option Numbers) → ℕ
case_of (given (Some x)) = 0
case_of (given None) = 1
case_of (refused n) = 2

pub record Accepts (text : List ℕ) (h : Head) (n m : ℕ) (layers : List ℕ) (colors : List Float) (row : List ℕ) : Type 0 where
  pub words_fit : n * 8 ≤ 512
  pub colors_fit : n * 4 ≤ 256
  pub row_fits : m ≤ 2048
  pub answer : answer_text text ≡ fronts_text h n m layers colors row

module _ {text layers : List ℕ} {colors : List Float} {row : List ℕ} {r : Result Numbers JobError} {layers' : List ℕ} {colors' : List Float} {row' : List ℕ} (g : JobRead text layers colors row r layers' colors' row') (l : length layers ≡ 512) (c : length colors ≡ 256) (w : length row ≡ 2048) where
  same_case : {x : Result Numbers JobError} {o : JobOutcome} → r ≡ x → Left o layers colors row r layers' colors' row' → case_of (reading_answer x) ≡ case_of (answer_to o)
  same_case e f = ap case_of (sym (ap reading_answer e) ∙ f.answer)

  pub accepts : {x : Numbers} → r ≡ Ok x → Accepts text x.head x.layers x.segments layers' colors' row'
  unfolding has_room answer_text job_driving
  accepts {x} e = by (job_outcome text layers colors row) g.says g.left
    where
      by : (o : JobOutcome) → Says text layers colors row o → Left o layers colors row r layers' colors' row' → Accepts text x.head x.layers x.segments layers' colors' row'
      by (accepted j) s f =
          let given_same : given (Some x) ≡ answer_to (accepted j) = sym (ap reading_answer e) ∙ f.answer in
          let same : ◌≡◌ {A = Numbers} x (record { head = j.head; layers = length j.layers; segments = segment_count j.segments }) = cc in
          let head = ap (λ (y : Numbers). y.head) same in
          let many : x.layers ≡ length j.layers = ap (λ (y : Numbers). y.layers) same in
          let segments : x.segments ≡ segment_count j.segments = ap (λ (y : Numbers). y.segments) same in
          let a = leb (length j.layers) (length layers / 8) in
          let b = leb (length j.layers) (length colors / 4) in
          let room = left (a && b) (leb (segment_count j.segments) (length row)) s.1 in
          let words-room = leb-true (length j.layers) (length layers / 8) (left a b room) in
          let colors-room = leb-true (length j.layers) (length colors / 4) (right a b room) in
          let row_room = leb-true (segment_count j.segments) (length row) (right (a && b) (leb (segment_count j.segments) (length row)) s.1) in
          record {
            words_fit = omega (arith, words-room, many, l);
            colors_fit = omega (arith, colors-room, many, c);
            row_fits = omega (arith, row_room, segments, w);
            answer =
                ap answer_by (ap parse s.0.printed ∙ complete j s.0.form)
                ∙ sym
                (same_driving head
                (front (row_words j.head.row j.segments) row f.row_written (length_row j.head.row j.segments ∙ sym segments))
                (front (table_words j.layers) layers f.words_written (length_words j.layers ∙ ap (λ (k : ℕ). k * 8) (sym many)))
                (front (table_colors j.layers) colors f.colors_written (length_colors j.layers ∙ ap (λ (k : ℕ). k * 4) (sym many)))
                many);
          }
      by (no_room j) s f = absurd (omega (arith, same_case e f))
      by malformed s f = absurd (omega (arith, same_case e f))

  pub has_room_lem : r ≡ Err NoRoom → ⊥
  has_room_lem e = by (job_outcome text layers colors row) g.says g.left
    where
      by : (o : JobOutcome) → Says text layers colors row o → Left o layers colors row r layers' colors' row' → ⊥
      by (accepted j) s f = omega (arith, same_case e f)
      by (no_room j) s f =
          let room = always_room j layers colors row s.0.form (omega arith) (omega arith) (omega arith) in
          let full = s.1 in
          let z : ◌≡◌ {A = ℕ} 0 1 = cc in
          omega arith
      by malformed s f = omega (arith, same_case e f)

  pub refuses : r ≡ Err Malformed → answer_text text ≡ refusal_text 10
  unfolding answer_text
  refuses e = by (job_outcome text layers colors row) g.says g.left
    where
      not_parsed : ((j : Job) → WellFormed j → text ≡ render j → ⊥) → (o : Option Job) → parse text ≡ o → answer_text text ≡ refusal_text 10
      not_parsed s None p = ap answer_by p
      not_parsed s (Some j) p = absurd (s j (sound text j p).form (sound text j p).printed)

      by : (o : JobOutcome) → Says text layers colors row o → Left o layers colors row r layers' colors' row' → answer_text text ≡ refusal_text 10
      by (accepted j) s f = absurd (omega (arith, same_case e f))
      by (no_room j) s f = absurd (omega (arith, same_case e f))
      by malformed s f = not_parsed s (parse text) refl

-- a text by another name
pub same_text : {s t out out' : List ℕ} {r : ℕ} → s ≡ t → LineWritten t out r out' → LineWritten s out r out'
same_text {out = out} {out' = out'} {r = r} e w = subst (λ (x : List ℕ). LineWritten x out r out') (sym e) w
