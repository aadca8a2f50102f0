-- Looking a layer up in a table by its id: the first with that id, or refusal 8, 'a listed or painted layer is not in the table'.
use Rattle.std.specs.Prelude.{◌≡◌, ◌∷◌, ◌<◌, Option, Some, None}
use Rattle.laws.specs.Prelude.{cond, List, [], ℕ, suc, eqb, Float, Answer, refused, given}
use Rattle.styling.specs.declared.Layer.{Layer}
use Rattle.layer_table.specs.Table.{id_at, layer_at, table_of}

-- the layer with an id
unfoldable pub lookup : List Layer → ℕ → Answer Layer
lookup [] id = refused 8
lookup (l ∷ ls) id = cond (eqb l.id id) (given l) (lookup ls id)

-- the place of an id, counted from i
unfoldable pub place_from : ℕ → List ℕ → ℕ → Answer ℕ
place_from i [] id = refused 8
place_from i (x ∷ xs) id = cond (eqb x id) (given i) (place_from (suc i) xs id)

abbrev pub record_place : List ℕ → ℕ → Answer ℕ
record_place ids id = place_from 0 ids id

-- the cases of the code's answer
abbrev pub found_of : Option ℕ → Answer ℕ
found_of (Some i) = given i
found_of None = refused 8

-- a place of the lent table that holds the id; and that none does
pub record Place (words : List ℕ) (floats : List Float) (count id i : ℕ) : Type 0 where
  pub within : i < count
  pub holds : id_at words i ≡ id
  pub looked : lookup (table_of words floats count) id ≡ given (layer_at words floats i)

pub record Missing (words : List ℕ) (floats : List Float) (count id : ℕ) : Type 0 where
  pub nowhere : (i : ℕ) → i < count → id_at words i ≡ id → ⊥
  pub looked : lookup (table_of words floats count) id ≡ refused 8
