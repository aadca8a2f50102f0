-- The first 65,537 bytes of an input decide the job that it is: a longer text is none, and so is its front.
-- Assumes nothing.
use Rattle.std.specs.Prelude.{◌≡◌, ◌≤◌, ◌<◌, Result}
use Rattle.laws.proofs.Prelude.{sym, ap, subst, ◌∙◌, ⊎_elim, List, None, ℕ, arith, lt-ltb, Float, length, take, length-take-le}
use Rattle.laws.proofs.Prelude.{take_all, le_or_lt}
use Rattle.job_text_statements.specs.Parse.{parse_blocks, parse}
use Rattle.job_statements.specs.Read.{JobOutcome, outcome_by, job_outcome, Left, JobRead}
use Rattle.job_statements.specs.declared.JobError.{JobError}
use Rattle.job_statements.specs.declared.Numbers.{Numbers}
use Rattle.job_statements.proofs.Outcomes.{refuses}
use Rattle.job_front.specs.Front.{input_room, FrontDecides}

long_text : (text : List ℕ) → 65536 < length text → parse text ≡ None
unfolding parse parse_blocks
long_text text h = rw (lt-ltb 65536 (length text) h)

pub front_decides : FrontDecides
front_decides text =
    ⊎_elim
    (λ (h : length text ≤ 65536). ap parse (take_all input_room text (omega arith)))
    (λ (h : 65536 < length text).
    long_text (take input_room text) (omega (arith, length-take-le input_room text (omega arith))) ∙ sym (long_text text h))
    (le_or_lt (length text) 65536)

-- what reading the front leaves is what reading all of it leaves
module _ (part whole layers : List ℕ) (colors : List Float) (row : List ℕ) (e : part ≡ take input_room whole) where
  same_outcome : job_outcome part layers colors row ≡ job_outcome whole layers colors row
  unfolding job_outcome
  same_outcome = ap (outcome_by layers colors row) (ap parse e ∙ front_decides whole)

  read_whole : {r : Result Numbers JobError} {layers' : List ℕ} {colors' : List Float} {row' : List ℕ} → JobRead part layers colors row r layers' colors' row'
      → JobRead whole layers colors row r layers' colors' row'
  read_whole {r} {layers'} {colors'} {row'} g =
      ⊎_elim
      (λ (h : length whole ≤ 65536).
      subst (λ (t : List ℕ). JobRead t layers colors row r layers' colors' row') (e ∙ take_all input_room whole (omega arith)) g)
      (λ (h : 65536 < length whole).
      record {
        says = (refuses whole layers colors row (long_text whole h)).says;
        left = subst (λ (o : JobOutcome). Left o layers colors row r layers' colors' row') same_outcome g.left;
      })
      (le_or_lt (length whole) 65536)

pub reads_whole : {part whole layers : List ℕ} {colors : List Float} {row : List ℕ} {r : Result Numbers JobError} {layers' : List ℕ} {colors' : List Float} {row' : List ℕ}
    → JobRead part layers colors row r layers' colors' row' → part ≡ take input_room whole → JobRead whole layers colors row r layers' colors' row'
reads_whole g e = read_whole _ _ _ _ _ e g
