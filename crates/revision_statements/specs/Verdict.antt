-- What the operation answers and leaves: 'it refuses two records of one layer with equal revisions with 15, an out-of-range id, code or span with
-- 4, and a lent table too short for the standing layers with 1; 4 is judged first, then 15, then 1' (document 02, W-212). So this judge does
-- not answer the lowest number that applies.
use Rattle.refusals.specs.declared.Refusal.{Refusal}
use Rattle.std.specs.Prelude.{◌≡◌, ◌&&◌, ◌||◌, ◌∷◌, Result, Ok, Err}
use Rattle.laws.specs.Prelude.{Bool, false, not, List, [], ℕ, eqb, Float, length, Answer, refused, given, over, all, any}
use Rattle.refusals.specs.Refusal.{Judgement, pass, refuse, unless, number_of}
use Rattle.layer_table.specs.Table.{is_table_short}
use Rattle.revision_statements.specs.Sent.{Sent, id_of, is_good, sent_of}
use Rattle.revision_statements.specs.Standing.{standing_of}

-- ---- the judge

abbrev pub is_twin : Sent → Sent → Bool
is_twin s t = eqb (id_of t) (id_of s) && eqb t.revision s.revision

-- number 15: two records of one layer have equal revisions, the highest or not, properties or withdrawals
unfoldable pub has_twins : List Sent → Bool
has_twins [] = false
has_twins (s ∷ ss) = any (is_twin s) ss || has_twins ss

-- 4, then 15, then 1: the table is too short for the standing layers
abbrev pub verdict_on : List Sent → List ℕ → List Float → Judgement
verdict_on ss words floats =
    unless (not (all is_good ss)) 4 (unless (has_twins ss) 15 (unless (is_table_short words floats (length (standing_of ss))) 1 pass))

unfoldable pub stand_verdict : List ℕ → List Float → List ℕ → List Float → Judgement
stand_verdict records colors words floats = verdict_on (sent_of records colors) words floats

-- ---- the answer: how many layers stand

abbrev pub stand_answer : Judgement → List Sent → Answer ℕ
stand_answer pass ss = given (length (standing_of ss))
stand_answer (refuse number) ss = refused number

-- ---- the table: the eight words and four floats of each standing record, as they were sent; past them what it held

unfoldable pub words_in : List Sent → List ℕ
words_in [] = []
words_in (s ∷ ss) =
    s.words.id ∷ s.words.rule ∷ s.words.func ∷ s.words.span ∷ s.words.clipped ∷ s.words.fill ∷ s.words.mode ∷ s.words.unchanged ∷ words_in ss

unfoldable pub floats_in : List Sent → List Float
floats_in [] = []
floats_in (s ∷ ss) = s.color.r ∷ s.color.g ∷ s.color.b ∷ s.color.a ∷ floats_in ss

abbrev pub stand_written {ℓ} : {A : Type ℓ} → Judgement → List A → List A → List A
stand_written pass new old = over new old
stand_written (refuse number) new old = old

pub record Stands (v : Judgement) (ss : List Sent) (oldWords : List ℕ) (oldFloats : List Float) (r : Answer ℕ) (words : List ℕ) (floats : List Float) : Type 0 where
  pub answer : r ≡ stand_answer v ss
  pub words_are : words ≡ stand_written v (words_in (standing_of ss)) oldWords
  pub floats_are : floats ≡ stand_written v (floats_in (standing_of ss)) oldFloats
