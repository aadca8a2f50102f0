-- What one step does to the reading of a line and of lines.
-- Assumes nothing.
use Rattle.std.specs.Prelude.{◌≡◌, ◌∷◌}
use Rattle.laws.proofs.Prelude.{refl, true, false, List, [], Some, None, ℕ, zero, suc, eq-eqb, ne_eqb, ℤ}
use Rattle.decimal.specs.Parse.{parsed, failed, parseℤ}
use Rattle.lines.specs.Parse.{broken, after, end_at, parse_line, starts_number, parse_lines}

module _ (k : ℕ) (s : List ℕ) where
  pub line_failed : parseℤ 10000000 s ≡ failed → parse_line (suc k) s ≡ broken
  unfolding parse_line
  line_failed h = rw h

  pub line_end : (v : ℤ) → parseℤ 10000000 s ≡ parsed v [] → parse_line (suc k) s ≡ broken
  unfolding parse_line
  line_end v h = rw h

  pub line_other : (v : ℤ) (b : ℕ) (t : List ℕ) → parseℤ 10000000 s ≡ parsed v (b ∷ t) → (b ≡ end_at k → ⊥) → parse_line (suc k) s ≡ broken
  unfolding parse_line
  line_other v b t h e = rw (h, ne_eqb b (end_at k) e)

  pub line_next : (v : ℤ) (b : ℕ) (t : List ℕ) → parseℤ 10000000 s ≡ parsed v (b ∷ t) → b ≡ end_at k → parse_line (suc k) s ≡ after v (parse_line k t)
  unfolding parse_line
  line_next v b t h e = rw (h, eq-eqb b (end_at k) e)

pub lines_none : (m k : ℕ) (s : List ℕ) → starts_number s ≡ false → parse_lines m k s ≡ record { lines = []; rest = Some s }
unfolding parse_lines
lines_none zero k s h = refl
lines_none (suc m) k s h = rw h

module _ (m k : ℕ) (s : List ℕ) where
  pub lines_broken : starts_number s ≡ true → (parse_line k s).rest ≡ None → parse_lines (suc m) k s ≡ record { lines = (parse_line k s).numbers ∷ []; rest = None }
  unfolding parse_lines
  lines_broken h e = rw (h, e)

  pub lines_next : (t : List ℕ) → starts_number s ≡ true → (parse_line k s).rest ≡ Some t
      → parse_lines (suc m) k s ≡ record { lines = (parse_line k s).numbers ∷ (parse_lines m k t).lines; rest = (parse_lines m k t).rest }
  unfolding parse_lines
  lines_next t h e = rw (h, e)
