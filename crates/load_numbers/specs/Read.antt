-- What the readers of the line promise.
use Rattle.std.specs.Prelude.{◌≡◌, ◌≤◌}
use Rattle.laws.specs.Prelude.{List, Option, Some, None, ℕ, length, drop}
use Rattle.decimal.specs.Parse.{Parsed, parsed, failed}
use Rattle.load_statements.specs.Input.{parse_field}

-- a field as what is read from the front of a text, the place after it as the text from there on
abbrev pub read_field : List ℕ → Option (ℕ × ℕ) → Parsed ℕ
read_field s (Some (n, next)) = parsed n (drop next s)
read_field s None = failed

abbrev pub after_field : Option (ℕ × ℕ) → ℕ
after_field (Some (n, next)) = next
after_field None = 0

pub record FieldRead (limit end : ℕ) (s : List ℕ) (at : ℕ) (r : Option (ℕ × ℕ)) : Type 0 where
  pub answer : read_field s r ≡ parse_field limit end (drop at s)
  pub within : after_field r ≤ length s
