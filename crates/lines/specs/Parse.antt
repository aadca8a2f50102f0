-- Reading lines of whole numbers from the front of a text. proofs/Laws says what this is: the inverse of `line_text`, `lines_text` and
-- `block_text`. What is left of a text is `None` where its form is broken.
use Rattle.std.specs.Prelude.{◌||◌, ◌∷◌}
use Rattle.laws.specs.Prelude.{Bool, false, cond, List, [], Option, Some, None, ℕ, zero, suc, eqb, ℤ}
use Rattle.decimal.specs.Decimal.{is_digit}
use Rattle.decimal.specs.Parse.{Parsed, parsed, failed, parseℤ}

-- the text after a prefix
unfoldable pub strip_prefix : List ℕ → List ℕ → Option (List ℕ)
strip_prefix [] s = Some s
strip_prefix (a ∷ prefix) [] = None
strip_prefix (a ∷ prefix) (b ∷ s) = cond (eqb b a) (strip_prefix prefix s) None

-- the numbers of a line, up to the place where its form is broken, and what is left of the text
pub record ParsedLine : Type 0 where
  pub numbers : List ℤ
  pub rest : Option (List ℕ)

abbrev pub broken : ParsedLine
broken = record { numbers = []; rest = None }

abbrev pub after : ℤ → ParsedLine → ParsedLine
after v l = record { numbers = v ∷ l.numbers; rest = l.rest }

-- what ends a field with k fields after it
abbrev pub end_at : ℕ → ℕ
end_at zero = 10
end_at (suc k) = 32

-- a number, its end, and then the rest of the line
abbrev pub line_step : ℕ → Parsed ℤ → (List ℕ → ParsedLine) → ParsedLine
line_step e failed more = broken
line_step e (parsed v []) more = broken
line_step e (parsed v (b ∷ t)) more = cond (eqb b e) (after v (more t)) broken

-- a line of k numbers
unfoldable pub parse_line : ℕ → List ℕ → ParsedLine
parse_line zero s = record { numbers = []; rest = Some s }
parse_line (suc k) s = line_step (end_at k) (parseℤ 10000000 s) (λ t. parse_line k t)

-- whether a number comes next
abbrev pub starts_number : List ℕ → Bool
starts_number [] = false
starts_number (b ∷ t) = is_digit b || eqb b 45

-- lines, and what is left of the text; the last line may be cut short where its form is broken
pub record ParsedLines : Type 0 where
  pub lines : List (List ℤ)
  pub rest : Option (List ℕ)

abbrev pub lines_step : ParsedLine → (List ℕ → ParsedLines) → ParsedLines
lines_step l more = elim l.rest [
  | Some t ↦ record { lines = l.numbers ∷ (more t).lines; rest = (more t).rest }
  | None ↦ record { lines = l.numbers ∷ []; rest = None }
]

-- lines of k numbers while numbers come, at most m of them
unfoldable pub parse_lines : ℕ → ℕ → List ℕ → ParsedLines
parse_lines zero k s = record { lines = []; rest = Some s }
parse_lines (suc m) k s = cond (starts_number s) (lines_step (parse_line k s) (λ t. parse_lines m k t)) (record { lines = []; rest = Some s })

-- a line of names, and then lines
abbrev pub after_names : ℕ → ℕ → Option (List ℕ) → ParsedLines
after_names m k None = record { lines = []; rest = None }
after_names m k (Some t) = parse_lines m k t

unfoldable pub parse_block : List ℕ → ℕ → ℕ → List ℕ → ParsedLines
parse_block names m k s = after_names m k (strip_prefix names s)
