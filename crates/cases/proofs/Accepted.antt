-- The flag of what adding answers says whether a carry is given. Assumes nothing.
use Rattle.std.specs.Prelude.{◌≡◌}
use Rattle.laws.proofs.Prelude.{refl, ◌∙◌, sym, ap, Bool, true, false, cond, List, ℕ, ℤ, refused, given, is_given}
use Rattle.cover_statements.specs.Carry.{add_of}
use Rattle.cover.specs.Adding.{Adding}
use Rattle.cover.specs.declared.carry.Carried.{Carried}

flag_is : (flag : Bool) (covers : List ℤ) → is_given (cond flag (given covers) (refused 9)) ≡ flag
flag_is true covers = refl
flag_is false covers = refl

pub accepted_is : {ws part : List ℕ} {n : ℕ} {covers : List ℤ} {r : Carried} → Adding ws n covers part r → r.accepted ≡ is_given (add_of ws n covers part)
accepted_is {r = r} adding = sym (flag_is r.accepted r.cover.covers) ∙ ap is_given adding.answer
