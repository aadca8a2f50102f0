-- What an operation answers, in the numbers of the table of refusals ('Turned down'): refused by a number, or a value. Each enum of the code
-- that can be a refusal has a definition that gives its cases in these terms, and the contracts use that definition.
use Rattle.std.specs.Prelude.{Bool, true, false, ℕ}

pub data Answer (A : Type 0) : Type 0 where
  refused : ℕ → Answer A
  given : A → Answer A

-- it is a value
abbrev pub is_given : {A : Type 0} → Answer A → Bool
is_given (refused n) = false
is_given (given a) = true
