-- Which records stand, and both sides of the edges of 4, 15 and 1, on a few records. Stands for W-212.
use Rattle.std.specs.Prelude.{◌≡◌, ◌∷◌}
use Rattle.laws.specs.Prelude.{true, false, List, [], ℕ, Float, nan}
use Rattle.refusals.specs.Refusal.{pass, refuse}
use Rattle.revision_statements.specs.Sent.{Sent, is_good, sent_room}
use Rattle.revision_statements.specs.Standing.{standing_of}
use Rattle.revision_statements.specs.Verdict.{has_twins, verdict_on, stand_verdict}

abbrev sends : ℕ → ℕ → ℕ → ℕ → Sent
sends id revision kind mode =
    record {
      revision = revision;
      kind = kind;
      words = record { id = id; rule = 0; func = 0; span = 0; clipped = 0; fill = 0; mode = mode; unchanged = 0 };
      color = record { r = nan; g = nan; b = nan; a = nan };
    }

abbrev props : ℕ → ℕ → Sent
props id revision = sends id revision 0 0

abbrev withdraws : ℕ → ℕ → Sent
withdraws id revision = sends id revision 1 0

-- an entry of a table
abbrev words : List ℕ
words = 0 ∷ 0 ∷ 0 ∷ 0 ∷ 0 ∷ 0 ∷ 0 ∷ 0 ∷ []

abbrev floats : List Float
floats = nan ∷ nan ∷ nan ∷ nan ∷ []

pub record RevisionEdges : Type 0 where
  -- records of an id and a revision: properties with a blend mode, and a withdrawal, whose other words play no part
  -- which stand
  -- the withdrawal of layer 3 is its highest revision
  pub two_stand : standing_of (props 3 5 ∷ props 1 2 ∷ withdraws 3 9 ∷ props 1 1 ∷ props 2 4294967295 ∷ []) ≡ props 1 2 ∷ props 2 4294967295 ∷ []
  -- properties above a withdrawal stand again
  pub three_stand : standing_of (props 3 5 ∷ props 1 2 ∷ withdraws 3 9 ∷ props 1 1 ∷ props 2 4294967295 ∷ props 3 10 ∷ []) ≡
      props 1 2 ∷ props 2 4294967295 ∷ props 3 10 ∷ []
  pub withdrawn_alone : standing_of (withdraws 7 0 ∷ []) ≡ []
  -- number 15
  pub equal_highest : has_twins (props 3 5 ∷ props 1 2 ∷ withdraws 3 9 ∷ props 1 1 ∷ props 3 9 ∷ []) ≡ true
  -- below the highest revision too
  pub equal_below : has_twins (props 3 7 ∷ props 3 9 ∷ withdraws 3 7 ∷ []) ≡ true
  pub one_apart : has_twins (props 3 7 ∷ props 3 8 ∷ []) ≡ false
  -- equal revisions of two layers
  pub two_layers : has_twins (props 3 7 ∷ props 4 7 ∷ []) ≡ false
  -- number 4
  pub id_at_the_limit : is_good (sends 2097151 0 0 15) ≡ true
  pub id_past_the_limit : is_good (sends 2097152 0 0 0) ≡ false
  pub withdrawn_past_the_limit : is_good (sends 2097152 0 1 0) ≡ false
  pub mode_16 : is_good (sends 1 0 0 16) ≡ false
  pub withdrawn_mode_99 : is_good (sends 1 0 1 99) ≡ true
  pub kind_2 : is_good (sends 1 0 2 0) ≡ false
  -- the order: 4, then 15, then 1
  pub four_before_fifteen : verdict_on (props 2097152 1 ∷ props 1 2 ∷ props 1 2 ∷ []) [] [] ≡ refuse 4
  pub fifteen_before_one : verdict_on (props 1 2 ∷ props 1 2 ∷ []) [] [] ≡ refuse 15
  pub two_in_one : verdict_on (props 4 0 ∷ props 9 0 ∷ []) words floats ≡ refuse 1
  -- a withdrawn layer takes no room
  pub one_in_one : verdict_on (props 4 0 ∷ props 9 0 ∷ withdraws 9 1 ∷ []) words floats ≡ pass
  pub none_in_none : verdict_on (withdraws 7 0 ∷ []) [] [] ≡ pass
  -- which records the lent memory holds
  -- a part of a record plays no part, nor do ten words without a colour
  pub nine_words : sent_room (7 ∷ 0 ∷ 0 ∷ 0 ∷ 0 ∷ 0 ∷ 0 ∷ 0 ∷ 0 ∷ []) floats ≡ 0
  pub no_colour : sent_room (7 ∷ 0 ∷ 0 ∷ 0 ∷ 0 ∷ 0 ∷ 0 ∷ 0 ∷ 0 ∷ 0 ∷ []) (nan ∷ nan ∷ nan ∷ []) ≡ 0
  pub one_record : stand_verdict (7 ∷ 0 ∷ 0 ∷ 0 ∷ 0 ∷ 0 ∷ 0 ∷ 0 ∷ 0 ∷ 0 ∷ 9 ∷ []) floats [] [] ≡ refuse 1
