-- What holds while lines are read: what is left of them decides as the whole did, and with what is left to store the list is as all
-- the lines leave it.
-- Assumes nothing.
use Rattle.std.specs.Prelude.{◌≡◌, ◌+◌, ◌-◌, ◌*◌, ◌<◌, ◌≤◌, None}
use Rattle.laws.proofs.Prelude.{refl, sym, ap, ◌∙◌, true, false, List, [], append-nil, flatten, Some, ℕ, suc, arith, ℤ}
use Rattle.laws.proofs.Prelude.{length, drop, sets, length-sets}
use Rattle.decimal.proofs.Print.{sets_append}
use Rattle.lines.specs.Parse.{ParsedLines, parse_line, starts_number, parse_lines}
use Rattle.lines.specs.Read.{LineRead, LinesRead}
use Rattle.lines.proofs.Steps.{lines_none, lines_broken, lines_next}
use Rattle.lines.proofs.Laws.{line_sound}

pub record LinesReading (m k : ℕ) (s : List ℕ) (at : ℕ) (out₀ : List ℤ) (i p j : ℕ) (out : List ℤ) : Type 0 where
  pub within : i ≤ length s
  pub few : j ≤ m
  pub long : length out ≡ length out₀
  pub room : p + (m - j) * k ≤ length out
  pub rest : (parse_lines (m - j) k (drop i s)).rest ≡ (parse_lines m k (drop at s)).rest
  pub stored : sets out p (flatten (parse_lines (m - j) k (drop i s)).lines) ≡ sets out₀ 0 (flatten (parse_lines m k (drop at s)).lines)
  pub count : j + length (parse_lines (m - j) k (drop i s)).lines ≡ length (parse_lines m k (drop at s)).lines

-- a line has room, and so have those after it
more_room : (q k p n : ℕ) → p + suc q * k ≤ n → p + k + q * k ≤ n
more_room q k p n h = omega arith

room_left : (m j k p n : ℕ) → j < m → p + (m - j) * k ≤ n → p + k + (m - (j + 1)) * k ≤ n
room_left m j k p n h l = let e : m - j ≡ suc (m - (j + 1)) = omega arith in more_room (m - (j + 1)) k p n (rw e at l)

module _ {m k : ℕ} {s : List ℕ} {at : ℕ} {out₀ : List ℤ} {i p j : ℕ} {out : List ℤ} (v : LinesReading m k s at out₀ i p j out) where
  -- no line is left
  done : (n : ℕ) → n ≡ j → parse_lines (m - j) k (drop i s) ≡ record { lines = []; rest = Some (drop i s) }
      → LinesRead (parse_lines m k (drop at s)) s out₀ (Some (n, i)) out
  unfolding flatten
  done n same e = record {
    answer = sym (ap (λ (r : ParsedLines). r.rest) e) ∙ v.rest;
    within = v.within;
    count = omega (arith, ap (λ (r : ParsedLines). length r.lines) e, v.count);
    stored = sym (ap (λ (r : ParsedLines). sets out p (flatten r.lines)) e) ∙ v.stored;
  }

  pub no_number : starts_number (drop i s) ≡ false → LinesRead (parse_lines m k (drop at s)) s out₀ (Some (j, i)) out
  no_number e = done j refl (lines_none (m - j) k (drop i s) e)

  pub end : m ≤ j → LinesRead (parse_lines m k (drop at s)) s out₀ (Some (m, i)) out
  unfolding parse_lines
  end h =
      let none : m - j ≡ 0 = omega arith in
      done m (omega (arith, v.few)) (ap (λ (n : ℕ). parse_lines n k (drop i s)) none)

  module _ (h : j < m) where
    -- with one line fewer left
    step : parse_lines (m - j) k (drop i s) ≡ parse_lines (suc (m - (j + 1))) k (drop i s)
    step = ap (λ (n : ℕ). parse_lines n k (drop i s)) (omega arith)

    module _ (b : starts_number (drop i s) ≡ true) {out' : List ℤ} where
      -- a line whose form is broken
      pub cut : LineRead k s i out p None out' → LinesRead (parse_lines m k (drop at s)) s out₀ None out'
      unfolding flatten
      cut l =
          let same = step ∙ lines_broken (m - (j + 1)) k (drop i s) b (sym l.answer) in
          record {
            answer = sym (ap (λ (r : ParsedLines). r.rest) same) ∙ v.rest;
            within = omega arith;
            count = tt;
            stored =
                l.stored
                ∙ sym (ap (λ (r : ParsedLines). sets out p (flatten r.lines)) same ∙ ap (sets out p) (append-nil (parse_line k (drop i s)).numbers))
                ∙ v.stored;
          }

      pub next_line : {next : ℕ} → LineRead k s i out p (Some next) out' → LinesReading m k s at out₀ next (p + k) (j + 1) out'
      unfolding flatten
      next_line {next} l =
          let same = step ∙ lines_next (m - (j + 1)) k (drop i s) (drop next s) b (sym l.answer) in
          let read = line_sound k (drop i s) (drop next s) (sym l.answer) in
          let vs = (parse_line k (drop i s)).numbers in
          let ls = (parse_lines (m - (j + 1)) k (drop next s)).lines in
          let size : length out' ≡ length out = ap length l.stored ∙ length-sets out p vs in
          record {
            within = l.within;
            few = omega arith;
            long = size ∙ v.long;
            room = omega (arith, size, room_left m j k p (length out) h v.room);
            rest = sym (ap (λ (r : ParsedLines). r.rest) same) ∙ v.rest;
            stored =
                ap (λ (o : List ℤ). sets o (p + k) (flatten ls)) l.stored
                ∙ ap (λ (n : ℕ). sets (sets out p vs) (p + n) (flatten ls)) (sym read.fields.count)
                ∙ sym (sets_append vs (flatten ls) out p)
                ∙ sym (ap (λ (r : ParsedLines). sets out p (flatten r.lines)) same)
                ∙ v.stored;
            count = omega (arith, ap (λ (r : ParsedLines). length r.lines) same, v.count);
          }
