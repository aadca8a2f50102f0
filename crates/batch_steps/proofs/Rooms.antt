-- Laws of the tests between two tiles. Assumes nothing.
use Rattle.std.specs.Prelude.{◌≡◌, ◌&&◌, ◌+◌, ◌-◌, ◌≤◌, ◌<◌}
use Rattle.laws.proofs.Prelude.{refl, ap, sym, ◌∙◌, Bool, true, false, cond, ℕ, zero, suc, arith, le-leb, lt-leb}
use Rattle.laws.proofs.Prelude.{leb-true, leb-false, ltb, leb, given}
use Rattle.batch_statements.specs.BatchLent.{has_room}
use Rattle.row_statements.specs.State.{State}
use Rattle.batch_statements.specs.Batch.{asked, row_end, no_room, next_refused, refused_at, answer_of}
use Rattle.batch_statements.specs.declared.Room.{Room}
use Rattle.batch_steps.specs.InnerStanding.{end_at}

and_no : (b : Bool) → (b && false) ≡ false
and_no true = refl
and_no false = refl

-- with fewer planes than must be free there is no room
pub no_planes : (r : Room) (worked used : ℕ) → r.planes < r.needed → false ≡ has_room r worked used
no_planes r worked used h = sym (ap (λ (b : Bool). ltb worked r.tiles && b) (lt-leb (used + r.needed) r.planes (omega (arith, h))) ∙ and_no (ltb worked r.tiles))

pub shifted : (used needed planes : ℕ) → needed ≤ planes → leb used (planes - needed) ≡ leb (used + needed) planes
shifted used needed planes h = by (leb used (planes - needed)) refl
  where
    by : (b : Bool) → leb used (planes - needed) ≡ b → b ≡ leb (used + needed) planes
    by true e = let le = leb-true used (planes - needed) e in sym (le-leb (used + needed) planes (omega (arith, le, h)))
    by false e = let lt = leb-false used (planes - needed) e in sym (lt-leb (used + needed) planes (omega (arith, lt, h)))

pub some_worked : (worked number : ℕ) → (worked ≡ 0 → ⊥) → given (next_refused number) ≡ refused_at worked number
some_worked zero number h = absurd (h refl)
some_worked (suc worked) number h = refl

-- where no tile is refused, why it ended is the answer
pub ended_given : (s : State) (worked tiles : ℕ) → given (end_at s worked tiles) ≡ answer_of worked (end_at s worked tiles)
ended_given s worked tiles = by (leb tiles worked) (leb s.to s.next)
  where
    by : (a b : Bool) → given (cond a asked (cond b row_end no_room)) ≡ answer_of worked (cond a asked (cond b row_end no_room))
    by true b = refl
    by false true = refl
    by false false = refl
