-- What each outcome leaves, from the test of the lent arrays and from what the writers leave.
-- Assumes nothing.
use Rattle.std.specs.Prelude.{◌≡◌, ◌&&◌, ◌*◌, ◌/◌, ◌≤◌, Result, Ok, Err}
use Rattle.laws.proofs.Prelude.{refl, ◌∙◌, true, false, List, Option, Some, None, ℕ, arith, leb-true, leb, Float, ℤ, length}
use Rattle.laws.proofs.Prelude.{over, all, left, right, length_tabulate}
use Rattle.decimal.proofs.Steps.{cases}
use Rattle.job_text_statements.specs.declared.Head.{Head}
use Rattle.job_text_statements.specs.Job.{Job, is_allowed}
use Rattle.job_lines.specs.Rules.{layer_rule, segment_rule, segment_count}
use Rattle.job_text_statements.specs.Parse.{head_of, parse}
use Rattle.job_text_statements.specs.Numbers.{layer_line_at, layer_lines, segments_in, job_in}
use Rattle.job_text_statements.specs.Read.{NumbersStored}
use Rattle.job_text_statements.proofs.Laws.{sound, refused}
use Rattle.job_statements.specs.declared.JobError.{JobError}
use Rattle.job_statements.specs.declared.JobError.TheVariants.{NoRoom, Malformed}
use Rattle.job_statements.specs.declared.Numbers.{Numbers}
use Rattle.job_statements.specs.Table.{table_words, table_colors}
use Rattle.job_statements.specs.Row.{row_words}
use Rattle.job_statements.specs.Read.{has_room, outcome_by, job_outcome, job_outcome_on, Says, Left, JobRead, LinesJudged}

-- ---- the writer

module _ (head : Head) {ls : List ℤ} {n : ℕ} {ss : List ℤ} {m count : ℕ} (j : LinesJudged ls n ss m count) (layers : List ℕ) (colors : List Float) (row : List ℕ) where
  room_is : has_room layers colors row (record { head = head; layers = layer_lines ls n; segments = segments_in ss m })
      ≡ (leb n (length layers / 8) && leb n (length colors / 4) && leb count (length row))
  unfolding has_room
  room_is = rw (length_tabulate n (layer_line_at ls), ← j.counted)

  pub no_room : (leb n (length layers / 8) && leb n (length colors / 4) && leb count (length row)) ≡ false
      → Left (job_outcome_on head ls n ss m layers colors row) layers colors row (Err NoRoom) layers colors row
  unfolding over
  no_room e = rw (room_is ∙ e) (record { answer = refl; words_written = refl; colors_written = refl; row_written = refl })

  module _ (e : (leb n (length layers / 8) && leb n (length colors / 4) && leb count (length row)) ≡ true) where
    pub room : (8 * n ≤ length layers) × (4 * n ≤ length colors) × (count ≤ length row)
    room =
        let a = leb n (length layers / 8) in
        let b = leb n (length colors / 4) in
        let c = leb count (length row) in
        let ab = left (a && b) c e in
        let p = leb-true n (length layers / 8) (left a b ab) in
        let q = leb-true n (length colors / 4) (right a b ab) in
        (omega arith, omega arith, leb-true count (length row) (right (a && b) c e))

    pub written : {layers' : List ℕ} {colors' : List Float} {row' : List ℕ} → layers' ≡ over (table_words (layer_lines ls n)) layers
        → colors' ≡ over (table_colors (layer_lines ls n)) colors → row' ≡ over (row_words head.row (segments_in ss m)) row
        → Left (job_outcome_on head ls n ss m layers colors row) layers colors row (Ok (record { head = head; layers = n; segments = count })) layers' colors' row'
    written w c r =
        rw (room_is ∙ e)
        (record { answer = rw (length_tabulate n (layer_line_at ls), ← j.counted); words_written = w; colors_written = c; row_written = r })

-- ---- the reader

-- the numbers of a text that is read are judged
pub judged : {text : List ℕ} {n m count : ℕ} {hs ls ss : List ℤ} → NumbersStored text n m count hs ls ss → length ls ≡ 512 → length ss ≡ 3584
    → LinesJudged ls n ss m count
unfolding is_allowed
judged {text} {n} {m} {hs = hs} {ls = ls} {ss = ss} x e f =
    let ok = (sound text (job_in hs ls n ss m) x.parsed).form.rules in
    let a = all layer_rule (layer_lines ls n) in
    let b = all segment_rule (segments_in ss m) in
    let c = leb (segment_count (segments_in ss m)) 2048 in
    let ab = left (a && b) c ok in
    record {
      layers_long = omega (arith, x.few_layers);
      segments_long = omega (arith, x.few_lines);
      layer_rules = left a b ab;
      segment_rules = right a b ab;
      counted = x.counted;
    }

module _ (text layers : List ℕ) (colors : List Float) (row : List ℕ) where
  -- what the outcome says, in terms of the printer
  says : Says text layers colors row (job_outcome text layers colors row)
  unfolding job_outcome
  says = by (parse text) refl
    where
      by : (o : Option Job) → parse text ≡ o → Says text layers colors row (outcome_by layers colors row o)
      by None e = refused text e
      by (Some j) e =
          cases (has_room layers colors row j)
          (λ t. rw t (sound text j e, t))
          (λ t. rw t (sound text j e, t))

  read_as : (o : Option Job) → parse text ≡ o → {r : Result Numbers JobError} {layers' : List ℕ} {colors' : List Float} {row' : List ℕ}
      → Left (outcome_by layers colors row o) layers colors row r layers' colors' row' → JobRead text layers colors row r layers' colors' row'
  unfolding job_outcome
  read_as o e l = record { says = says; left = rw e l }

  -- the writer's outcome is that of the text whose numbers it was handed
  pub reads : {n m count : ℕ} {hs ls ss : List ℤ} → NumbersStored text n m count hs ls ss → {head : Head} → head ≡ head_of hs
      → {r : Result Numbers JobError} {layers' : List ℕ} {colors' : List Float} {row' : List ℕ}
      → Left (job_outcome_on head ls n ss m layers colors row) layers colors row r layers' colors' row' → JobRead text layers colors row r layers' colors' row'
  reads {n} {m} {hs = hs} {ls = ls} {ss = ss} x e l = read_as (Some (job_in hs ls n ss m)) x.parsed (rw e at l)

  pub refuses : parse text ≡ None → JobRead text layers colors row (Err Malformed) layers colors row
  unfolding over
  refuses e = read_as None e (record { answer = refl; words_written = refl; colors_written = refl; row_written = refl })
