-- Answers as numbers, for callers that know no enum.
use Rattle.laws.specs.Prelude.{Bool, true, false, ℕ, Answer, refused, given}
use Rattle.refusals.specs.Refusal.{Judgement, pass, refuse}
use Rattle.segment_rows.specs.Search.{Place, found, absent}

-- the number of a refusal in the table of refusals ('Turned down'), 0 where it is none
abbrev pub refusal_number : {A : Type 0} → Answer A → ℕ
refusal_number (refused n) = n
refusal_number (given v) = 0

-- the number of a judgement, 0 where it passes
abbrev pub judged_number : Judgement → ℕ
judged_number pass = 0
judged_number (refuse number) = number

-- what a lent value is after: the one that is given, and after a refusal what it was
abbrev pub value_or : {A : Type 0} → Answer A → A → A
value_or (refused n) old = old
value_or (given v) old = v

-- whether a search found its key, and the place, or the one where such an element would stand
abbrev pub is_found : Place → Bool
is_found (found i) = true
is_found (absent i) = false

abbrev pub place_number : Place → ℕ
place_number (found i) = i
place_number (absent i) = i
