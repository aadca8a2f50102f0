-- Which layer record stands, without the steps of adding. Stands for W-212: of each layer the highest revision; a withdrawal that stands leaves the layer
-- out; every entry is one of the records given; ids ascend; order carries no meaning; rows begin from that table.
use Rattle.std.specs.Prelude.{◌≡◌, ◌∷◌, ◌++◌, ◌<◌}
use Rattle.laws.specs.Prelude.{true, false, List, ℕ, Float, given}
use Rattle.styling.specs.Ascending.{strictly_ascends}
use Rattle.revision_statements.specs.Sent.{Sent, sent_of, has_properties, id_of}
use Rattle.revision_statements.specs.Standing.{sent_ids, standing_of}
use Rattle.revision_statements.specs.Laws.{Among, Given, Highest, Stood, Reordered, Begins}
use Rattle.revision_statements.specs.Verdict.{has_twins, Stands, stand_verdict}

pub record Revisions : Type 0 where
  pub ascending : (ss : List Sent) → strictly_ascends (sent_ids (standing_of ss)) ≡ true
  pub given_one : (records : List ℕ) (floats : List Float) (s : Sent) → Among s (standing_of (sent_of records floats)) → Given records floats s
  pub highest : (s : Sent) (ss : List Sent) → Among s (standing_of ss) → Highest s ss
  pub nothing_lost : (s : Sent) (ss : List Sent) → has_twins ss ≡ false → Among s ss → Highest s ss → has_properties s ≡ true → Among s (standing_of ss)
  pub withdrawn : (s : Sent) (ss : List Sent) → has_twins ss ≡ false → Among s ss → Highest s ss → has_properties s ≡ false → (t : Sent) →
      Among t (standing_of ss) → id_of t ≡ id_of s → ⊥
  -- a list that says the same is the table
  pub only_one : (ss ts : List Sent) → has_twins ss ≡ false → strictly_ascends (sent_ids ts) ≡ true → ((s : Sent) → Among s ts → Stood s ss) →
      ((s : Sent) → Stood s ss → Among s ts) → ts ≡ standing_of ss
  -- records in another order give the same table; one of a lower revision than one that is there changes nothing
  pub any_order : {ss ts : List Sent} → Reordered ss ts → has_twins ss ≡ false → standing_of ts ≡ standing_of ss
  pub sent_again : (s t : Sent) (xs ys : List Sent) → has_twins (xs ++ (s ∷ ys)) ≡ false → Among t (xs ++ ys) → id_of t ≡ id_of s →
      s.revision < t.revision → standing_of (xs ++ (s ∷ ys)) ≡ standing_of (xs ++ ys)
  -- 1 and 4 don't apply to the table at its count, and its layers are those of the standing records
  pub is_table_lem : (records : List ℕ) (colors : List Float) {n : ℕ} {oldWords words : List ℕ} {oldFloats floats : List Float} →
      Stands (stand_verdict records colors oldWords oldFloats) (sent_of records colors) oldWords oldFloats (given n) words floats →
      Begins (sent_of records colors) n words floats
