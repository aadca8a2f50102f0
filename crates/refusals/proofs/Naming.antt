-- The refusal that has a number of the table, and judgements whose numbers are all of it: a caller's answer can name them. Assumes nothing.
use Rattle.std.specs.Prelude.{◌≡◌}
use Rattle.laws.proofs.Prelude.{Bool, true, false, cond, ℕ, eqb}
use Rattle.refusals.specs.Refusal.{number_of, Judgement, pass, refuse, unless}
use Rattle.refusals.specs.declared.Refusal.{Refusal}
use Rattle.refusals.specs.declared.Refusal.TheVariants.{Room, Tile, Row, Table, Queue, Tag, Layers, Missing, Covers, Fields, NotHeld, Slots, Bounds, Revisions}

abbrev pub refusal_of : ℕ → Refusal
refusal_of n =
    cond (eqb n 1) Room (cond (eqb n 2) Tile (cond (eqb n 3) Row (cond (eqb n 4) Table (cond (eqb n 5) Queue (cond (eqb n 6) Tag (cond (eqb n 7) Layers (cond (eqb n 8) Missing (cond (eqb n 9) Covers (cond (eqb n 11) Fields (cond (eqb n 12) NotHeld (cond (eqb n 13) Slots (cond (eqb n 14) Bounds Revisions))))))))))))

abbrev pub Named : Judgement → Type 0
Named pass = Unit {0}
Named (refuse n) = number_of (refusal_of n) ≡ n

pub named : (t : Bool) (n : ℕ) (below : Judgement) → number_of (refusal_of n) ≡ n → Named below → Named (unless t n below)
named true n below e h = e
named false n below e h = h
