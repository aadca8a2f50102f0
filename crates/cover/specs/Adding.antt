-- What adding to a cover answers and gives back.
use Rattle.std.specs.Prelude.{◌≡◌}
use Rattle.laws.specs.Prelude.{Bool, cond, List, ℕ, ℤ, Answer, refused, given}
use Rattle.cover_statements.specs.Carry.{is_light, carry_of, add_of}
use Rattle.cover.specs.declared.carry.Carried.{Carried}

-- the flag and the cover as an answer
abbrev pub answer_of : Bool → List ℤ → Answer (List ℤ)
answer_of accepted cover = cond accepted (given cover) (refused 9)

-- a refusal gives back the cover as it came
pub record AddingTo (ws : List ℕ) (n : ℕ) (covers : List ℤ) (part : List ℕ) (accepted : Bool) (new : List ℤ) : Type 0 where
  pub answer : answer_of accepted new ≡ add_of ws n covers part
  pub covers_are : new ≡ cond (is_light ws n covers part) (carry_of ws n covers part) covers

abbrev pub carried_answer : Carried → Answer (List ℤ)
carried_answer r = answer_of r.accepted r.cover.covers

abbrev pub Adding : List ℕ → ℕ → List ℤ → List ℕ → Carried → Type 0
Adding ws n covers part r = AddingTo ws n covers part r.accepted r.cover.covers
