-- The lists that a table is: their lengths and elements. Assumes nothing.
use Rattle.std.specs.Prelude.{◌≡◌, ◌∷◌, ◌<◌}
use Rattle.laws.proofs.Prelude.{refl, ap, ◌∙◌, true, List, map, ℕ, zero, suc, arith, length, get_or, drop, drop-cons, Float, tabulate}
use Rattle.laws.proofs.Prelude.{length_tabulate, get_d_tabulate}
use Rattle.styling.specs.declared.Layer.{Layer}
use Rattle.styling.specs.Ascending.{strictly_ascends}
use Rattle.layer_table.specs.Table.{id_at, layer_at, table_of, table_ids}
use Rattle.styling.proofs.Ascents.{ascends_lt}

-- what is left of a list that is given by its elements, one element at a time: how a loop over places goes
pub drop_tabulate {ℓ} : {A : Type ℓ} (n : ℕ) (f : ℕ → A) (i : ℕ) → i < n → drop i (tabulate n f) ≡ f i ∷ drop (suc i) (tabulate n f)
drop_tabulate {A} n f i h =
    drop-cons (tabulate n f) i (f i) (rw (length_tabulate n f) h)
    ∙ ap (λ (x : A). x ∷ drop (suc i) (tabulate n f)) (get_d_tabulate n f (f i) i h)

pub map_tabulate {ℓ κ} : {A : Type ℓ} {B : Type κ} (g : A → B) (n : ℕ) (f : ℕ → A) → map g (tabulate n f) ≡ tabulate n (λ i. g (f i))
map_tabulate {B} g zero f = refl
map_tabulate {B} g (suc n) f = ap (λ (xs : List B). g (f 0) ∷ xs) (map_tabulate g n (λ i. f (suc i)))

pub length_ids : (words : List ℕ) (count : ℕ) → length (table_ids words count) ≡ count
unfolding table_ids
length_ids words count = length_tabulate count (id_at words)

pub get_d_ids : (words : List ℕ) (count i : ℕ) → i < count → get_or (table_ids words count) i 0 ≡ id_at words i
unfolding table_ids
get_d_ids words count i h = get_d_tabulate count (id_at words) 0 i h

pub length_table : (words : List ℕ) (floats : List Float) (count : ℕ) → length (table_of words floats count) ≡ count
unfolding table_of
length_table words floats count = length_tabulate count (layer_at words floats)

pub get_d_table : (words : List ℕ) (floats : List Float) (count : ℕ) (d : Layer) (i : ℕ) → i < count → get_or (table_of words floats count) i d ≡ layer_at words floats i
unfolding table_of
get_d_table words floats count d i h = get_d_tabulate count (layer_at words floats) d i h

-- a layer has the id of its record
pub layer_id : (words : List ℕ) (floats : List Float) (i : ℕ) → (layer_at words floats i).id ≡ id_at words i
unfolding layer_at
layer_id words floats i = refl

-- the ids of the layers are the ids of the records
pub ids_table : (words : List ℕ) (floats : List Float) (count : ℕ) → map (λ (l : Layer). l.id) (table_of words floats count) ≡ table_ids words count
unfolding table_of table_ids layer_at
ids_table words floats count = map_tabulate (λ (l : Layer). l.id) count (layer_at words floats)

-- in an ascending table a later record has a greater id
pub ids_lt : (words : List ℕ) (count : ℕ) → strictly_ascends (table_ids words count) ≡ true → (i j : ℕ) → i < j → j < count → id_at words i < id_at words j
ids_lt words count h i j p q =
    omega (arith, ascends_lt 0 (table_ids words count) h i j p (rw (length_ids words count) q), get_d_ids words count i (omega arith), get_d_ids words count j q)
