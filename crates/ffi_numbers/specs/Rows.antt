-- A row's state as numbers, six words and two counts, and its opening by them. Stands for 'a state passed by value' for callers that know no struct.
use Rattle.std.specs.Prelude.{◌≡◌, ◌∷◌}
use Rattle.laws.specs.Prelude.{cond, List, [], Option, Some, None, ℕ, eqb, get_or, Answer, refused, given}
use Rattle.row_statements.specs.Lent.{Columns}
use Rattle.row_statements.specs.State.{State}
use Rattle.row_statements.specs.Opening.{OpenGiven}
use Rattle.ffi_numbers.specs.Numbers.{refusal_number}

-- ---- a state

-- whether the painter has a clip, and the clip's last layer
abbrev pub clip_flag : Option ℕ → ℕ
clip_flag None = 0
clip_flag (Some last) = 1

abbrev pub clip_last : Option ℕ → ℕ
clip_last None = 0
clip_last (Some last) = last

-- tile y, from, to, the next tile, and the clip
abbrev pub state_words : State → List ℕ
state_words s = s.tile_y ∷ s.from ∷ s.to ∷ s.next ∷ clip_flag s.clip ∷ clip_last s.clip ∷ []

-- how many carries are left, and how many were taken in
abbrev pub counts_of : State → List ℕ
counts_of s = s.left ∷ s.taken ∷ []

-- the state of such numbers; a flag other than 0 says that there is a clip
abbrev pub clip_of : ℕ → ℕ → Option ℕ
clip_of flag last = cond (eqb flag 0) None (Some last)

abbrev pub state_from : List ℕ → List ℕ → State
state_from words counts =
    record {
      tile_y = get_or words 0 0;
      from = get_or words 1 0;
      to = get_or words 2 0;
      next = get_or words 3 0;
      left = get_or counts 0 0;
      taken = get_or counts 1 0;
      clip = clip_of (get_or words 4 0) (get_or words 5 0);
    }

-- ---- an opening

-- the numbers that are lent for the state
pub record StateNumbers : Type 0 where
  pub words : List ℕ
  pub counts : List ℕ

abbrev pub state_numbers : List ℕ → List ℕ → StateNumbers
state_numbers words counts = record { words = words; counts = counts }

-- what they are after an opening: those of its state, and after a refusal what they were
abbrev pub open_numbers : Answer State → StateNumbers → StateNumbers
open_numbers (refused number) old = old
open_numbers (given s) old = record { words = state_words s; counts = counts_of s }

-- all that an opening gives and leaves
pub record OpenTold (g : OpenGiven) (old : StateNumbers) (r : ℕ) (new : StateNumbers) (back : Columns) : Type 0 where
  pub number : r ≡ refusal_number g.answer
  pub numbers : new ≡ open_numbers g.answer old
  pub lent_is : back ≡ g.lent
