-- What a judgement that passes tells of the conditions in its lines. Assumes nothing.
use Rattle.std.specs.Prelude.{◌≡◌, ◌||◌, Result, Err}
use Rattle.std.specs.Result.{IsErrAnd}
use Rattle.std.proofs.lemmas.Result.{err_from_is_err_and}
use Rattle.laws.proofs.Prelude.{refl, ap, ◌∙◌, Bool, true, false, ℕ, arith}
use Rattle.refusals.specs.declared.Refusal.{Refusal}
use Rattle.refusals.specs.Refusal.{Judgement, pass, refuse, unless, and_then}

-- a line that passes: its condition does not apply, and the lines below it pass
pub passed : (t : Bool) (n : ℕ) (below : Judgement) → unless t n below ≡ pass → (t ≡ false) × (below ≡ pass)
passed true n below e = absurd (let z : ◌≡◌ {A = ℕ} 0 1 = cc in omega arith)
passed false n below e = (refl, e)

-- two judges that pass one after the other
pub both_passed : (above below : Judgement) → and_then above below ≡ pass → (above ≡ pass) × (below ≡ pass)
both_passed pass below e = (refl, e)
both_passed (refuse n) below e = absurd (let z : ◌≡◌ {A = ℕ} 0 1 = cc in omega arith)

-- neither of two conditions applies
pub or_left : (a b : Bool) → (a || b) ≡ false → a ≡ false
or_left true b e = e
or_left false b e = refl

pub or_right : (a b : Bool) → (a || b) ≡ false → b ≡ false
or_right true b e = absurd (let z : ◌≡◌ {A = ℕ} 0 1 = cc in omega arith)
or_right false b e = e

-- what a `?` hands on is the refusal that it was given
pub handed_on : {T : Type 0} {q : Refusal} (r : Result T Refusal) → IsErrAnd r (λ e. e ≡ q) → r ≡ Err q
handed_on r h = let p = err_from_is_err_and r h in p.1 ∙ ap Err p.2
