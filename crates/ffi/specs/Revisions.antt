-- Which layer record stands, told by numbers: the refusal or 0, how many layers stand, and the lent table.
use Rattle.std.specs.Prelude.{◌≡◌}
use Rattle.laws.specs.Prelude.{List, ℕ, Float}
use Rattle.refusals.specs.Refusal.{Judgement}
use Rattle.revision_statements.specs.Sent.{Sent}
use Rattle.revision_statements.specs.Standing.{standing_of}
use Rattle.revision_statements.specs.Verdict.{stand_answer, words_in, floats_in, stand_written}
use Rattle.ffi_numbers.specs.Numbers.{refusal_number, value_or}

pub record StandTold (v : Judgement) (ss : List Sent) (oldWords : List ℕ) (oldFloats : List Float) (old r : ℕ) (words : List ℕ) (floats : List Float) (standing : ℕ) : Type 0 where
  pub number : r ≡ refusal_number (stand_answer v ss)
  pub count : standing ≡ value_or (stand_answer v ss) old
  pub words_are : words ≡ stand_written v (words_in (standing_of ss)) oldWords
  pub floats_are : floats ≡ stand_written v (floats_in (standing_of ss)) oldFloats
