-- What the laws of standing records say (proofs/Laws, Tables), without the steps of `add_sent`.
use Rattle.std.specs.Prelude.{◌≡◌, ◌⊎◌, ◌∷◌, ◌≤◌, ◌<◌}
use Rattle.laws.specs.Prelude.{true, List, [], map, ℕ, Float}
use Rattle.styling.specs.declared.Layer.{Layer}
use Rattle.layer_table.specs.Record.{layer_of}
use Rattle.layer_table.specs.Table.{table_of, is_table}
use Rattle.revision_statements.specs.Sent.{Sent, id_of, has_properties, sent_at, sent_room}
use Rattle.revision_statements.specs.Standing.{standing_of}

-- a record is one of a list
abbrev pub Among : Sent → List Sent → Type 0
Among s [] = ⊥
Among s (t ∷ ts) = (t ≡ s) ⊎ Among s ts

-- it is one of those that the lent memory holds, by its place
pub data Given (records : List ℕ) (floats : List Float) (s : Sent) : Type 0 where
  sent : (i : ℕ) → i < sent_room records floats → sent_at records floats i ≡ s → Given records floats s

-- no record of its layer has a higher revision
abbrev pub Highest : Sent → List Sent → Type 0
Highest s ss = (t : Sent) → Among t ss → id_of t ≡ id_of s → t.revision ≤ s.revision

-- it is one of those given, the highest of its layer, and no withdrawal
pub record Stood (s : Sent) (ss : List Sent) : Type 0 where
  pub among : Among s ss
  pub highest : Highest s ss
  pub properties : has_properties s ≡ true

-- the same records in another order
pub data Reordered : List Sent → List Sent → Type 0 where
  none : Reordered [] []
  keep : {s : Sent} {ss ts : List Sent} → Reordered ss ts → Reordered (s ∷ ss) (s ∷ ts)
  swap : {s t : Sent} {ss : List Sent} → Reordered (s ∷ (t ∷ ss)) (t ∷ (s ∷ ss))
  both : {ss ts us : List Sent} → Reordered ss ts → Reordered ts us → Reordered ss us

-- the layer that a record's properties say
abbrev pub sent_layer : Sent → Layer
sent_layer s = layer_of s.words s.color

-- rows can begin from a table: 1 and 4 don't apply to its n records, and its layers are those of the records that stand
pub record Begins (ss : List Sent) (n : ℕ) (words : List ℕ) (floats : List Float) : Type 0 where
  pub table : is_table words floats n ≡ true
  pub layers : table_of words floats n ≡ map sent_layer (standing_of ss)
