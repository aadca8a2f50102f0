-- What printing into a lent buffer promises: the line stands from place `at` on and the other entries are as they were, where it has room, and
-- else the buffer is as it was.
use Rattle.std.specs.Prelude.{◌≡◌, ◌+◌, ◌≤◌}
use Rattle.laws.specs.Prelude.{Bool, cond, List, Option, Some, None, ℕ, leb, length, sets}

abbrev pub has_room_at : List ℕ → List ℕ → ℕ → Bool
has_room_at text out at = leb (at + length text) (length out)

pub record Put (text out : List ℕ) (at : ℕ) (r : Option ℕ) (out' : List ℕ) : Type 0 where
  pub answer : r ≡ cond (has_room_at text out at) (Some (at + length text)) None
  pub printed : out' ≡ cond (has_room_at text out at) (sets out at text) out

-- what the inner writers promise: the line stands at the front, and its length is answered
pub record LineWritten (text out : List ℕ) (r : ℕ) (out' : List ℕ) : Type 0 where
  pub answer : r ≡ length text
  pub fits : length text ≤ length out
  pub written : out' ≡ sets out 0 text
