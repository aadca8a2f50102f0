-- What a buffer holds of an input, by the room that it has. Assumes nothing.
use Rattle.std.specs.Prelude.{◌≡◌, OnOk, IfSome, Result, Ok, Err, Some, None}
use Rattle.std.specs.Io.KnownBytes.{Appends}
use Rattle.std.specs.declared.option.Option.{Option}
use Rattle.laws.proofs.Prelude.{sym, ap, subst, ◌∙◌, List, ℕ, arith, length, take, length-take, take_all}
use Rattle.input_front.specs.Front.{HoldsFront}

pub held : {buffer whole part : List ℕ} {n : ℕ} (room : ℕ) → HoldsFront buffer n whole → part ≡ take n buffer → length buffer ≡ room → part ≡ take room whole
held {whole = whole} room h e l = e ∙ h.same ∙ ap (λ (k : ℕ). take k whole) l

-- it holds the front of what it holds
pub own : (buffer : List ℕ) (n : ℕ) → HoldsFront buffer n (take n buffer)
own buffer n = record { same = sym (take_all (length buffer) (take n buffer) (omega (arith, length-take n buffer))) }

-- where a reader said what it had left, a writer got the answer to it: that to what is held of it, which its front decides
pub handed_on : {V E : Type 0} (written : Result V E) (left a b : Option (List ℕ)) {part : List ℕ} {Holds : List ℕ → Type 0} (answer : List ℕ → List ℕ)
    → IfSome left Holds → ((whole : List ℕ) → Holds whole → part ≡ answer whole)
    → OnOk written (Appends a b part) → OnOk written (IfSome left (λ whole. Appends a b (answer whole)))
handed_on (Err e) left a b answer held decides p = tt
handed_on (Ok v) None a b answer held decides p = tt
handed_on (Ok v) (Some whole) a b answer held decides p = subst (Appends a b) (decides whole held) p
