-- What a printer into a lent list of bytes promises.
use Rattle.std.specs.Prelude.{◌≡◌, ◌+◌}
use Rattle.laws.specs.Prelude.{List, ℕ, length, sets}

-- the bytes of a text stand from place `at` on, the place after them is answered, and the other entries are as they were
pub record Printing (text out : List ℕ) (at r : ℕ) (out' : List ℕ) : Type 0 where
  pub answer : r ≡ at + length text
  pub printed : out' ≡ sets out at text
