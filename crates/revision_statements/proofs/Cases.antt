-- Worked cases of standing records, as theorems over the definitions. Assumes nothing.
use Rattle.std.specs.Prelude.{◌≡◌, ◌∷◌}
use Rattle.laws.proofs.Prelude.{refl, true, false, List, [], ℕ, Float, nan}
use Rattle.refusals.specs.Refusal.{pass, refuse}
use Rattle.layer_table.specs.Table.{is_table_short}
use Rattle.revision_statements.specs.Sent.{Sent, is_good, sent_at, sent_room, first_sent}
use Rattle.revision_statements.specs.Standing.{add_sent, add_sents, standing_of}
use Rattle.revision_statements.specs.Verdict.{has_twins, verdict_on, stand_verdict}

-- ---- records of an id and a revision: properties with a blend mode, and a withdrawal, whose other words play no part

abbrev pub sends : ℕ → ℕ → ℕ → ℕ → Sent
sends id revision kind mode =
    record {
      revision = revision;
      kind = kind;
      words = record { id = id; rule = 0; func = 0; span = 0; clipped = 0; fill = 0; mode = mode; unchanged = 0 };
      color = record { r = nan; g = nan; b = nan; a = nan };
    }

abbrev pub props : ℕ → ℕ → Sent
props id revision = sends id revision 0 0

abbrev pub withdraws : ℕ → ℕ → Sent
withdraws id revision = sends id revision 1 0

-- ---- which stand

-- the withdrawal of layer 3 is its highest revision
pub two_stand : standing_of (props 3 5 ∷ props 1 2 ∷ withdraws 3 9 ∷ props 1 1 ∷ props 2 4294967295 ∷ []) ≡ props 1 2 ∷ props 2 4294967295 ∷ []
unfolding standing_of add_sents add_sent
two_stand = refl

-- properties above a withdrawal stand again
pub three_stand : standing_of (props 3 5 ∷ props 1 2 ∷ withdraws 3 9 ∷ props 1 1 ∷ props 2 4294967295 ∷ props 3 10 ∷ []) ≡ props 1 2 ∷ props 2 4294967295 ∷ props 3 10 ∷ []
unfolding standing_of add_sents add_sent
three_stand = refl

pub withdrawn_alone : standing_of (withdraws 7 0 ∷ []) ≡ []
unfolding standing_of add_sents add_sent
withdrawn_alone = refl

-- ---- number 15

pub equal_highest : has_twins (props 3 5 ∷ props 1 2 ∷ withdraws 3 9 ∷ props 1 1 ∷ props 3 9 ∷ []) ≡ true
unfolding has_twins add_sents add_sent
equal_highest = refl

-- below the highest revision too
pub equal_below : has_twins (props 3 7 ∷ props 3 9 ∷ withdraws 3 7 ∷ []) ≡ true
unfolding has_twins add_sents add_sent
equal_below = refl

pub one_apart : has_twins (props 3 7 ∷ props 3 8 ∷ []) ≡ false
unfolding has_twins add_sents add_sent
one_apart = refl

-- equal revisions of two layers
pub two_layers : has_twins (props 3 7 ∷ props 4 7 ∷ []) ≡ false
unfolding has_twins add_sents add_sent
two_layers = refl

-- ---- number 4

pub id_at_the_limit : is_good (sends 2097151 0 0 15) ≡ true
unfolding is_good
id_at_the_limit = refl

pub id_past_the_limit : is_good (sends 2097152 0 0 0) ≡ false
unfolding is_good
id_past_the_limit = refl

pub withdrawn_past_the_limit : is_good (sends 2097152 0 1 0) ≡ false
unfolding is_good
withdrawn_past_the_limit = refl

pub mode_16 : is_good (sends 1 0 0 16) ≡ false
unfolding is_good
mode_16 = refl

pub withdrawn_mode_99 : is_good (sends 1 0 1 99) ≡ true
unfolding is_good
withdrawn_mode_99 = refl

pub kind_2 : is_good (sends 1 0 2 0) ≡ false
unfolding is_good
kind_2 = refl

-- ---- the order: 4, then 15, then 1

pub four_before_fifteen : verdict_on (props 2097152 1 ∷ props 1 2 ∷ props 1 2 ∷ []) [] [] ≡ refuse 4
unfolding is_good has_twins
four_before_fifteen = refl

pub fifteen_before_one : verdict_on (props 1 2 ∷ props 1 2 ∷ []) [] [] ≡ refuse 15
unfolding is_good has_twins
fifteen_before_one = refl

-- an entry of a table
abbrev words : List ℕ
words = 0 ∷ 0 ∷ 0 ∷ 0 ∷ 0 ∷ 0 ∷ 0 ∷ 0 ∷ []

abbrev floats : List Float
floats = nan ∷ nan ∷ nan ∷ nan ∷ []

pub two_in_one : verdict_on (props 4 0 ∷ props 9 0 ∷ []) words floats ≡ refuse 1
unfolding is_good has_twins standing_of add_sents add_sent is_table_short
two_in_one = refl

-- a withdrawn layer takes no room
pub one_in_one : verdict_on (props 4 0 ∷ props 9 0 ∷ withdraws 9 1 ∷ []) words floats ≡ pass
unfolding is_good has_twins standing_of add_sents add_sent is_table_short
one_in_one = refl

pub none_in_none : verdict_on (withdraws 7 0 ∷ []) [] [] ≡ pass
unfolding is_good has_twins standing_of add_sents add_sent is_table_short
none_in_none = refl

-- ---- which records the lent memory holds

-- a part of a record plays no part, nor do ten words without a colour
pub nine_words : sent_room (7 ∷ 0 ∷ 0 ∷ 0 ∷ 0 ∷ 0 ∷ 0 ∷ 0 ∷ 0 ∷ []) floats ≡ 0
nine_words = refl

pub no_colour : sent_room (7 ∷ 0 ∷ 0 ∷ 0 ∷ 0 ∷ 0 ∷ 0 ∷ 0 ∷ 0 ∷ 0 ∷ []) (nan ∷ nan ∷ nan ∷ []) ≡ 0
no_colour = refl

pub one_record : stand_verdict (7 ∷ 0 ∷ 0 ∷ 0 ∷ 0 ∷ 0 ∷ 0 ∷ 0 ∷ 0 ∷ 0 ∷ 9 ∷ []) floats [] [] ≡ refuse 1
unfolding stand_verdict first_sent sent_at is_good has_twins standing_of add_sents add_sent is_table_short
one_record = refl
