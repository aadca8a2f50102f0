-- A tile lists at most as many layers as the table has records: the ids of both ascend strictly, and each listed one is in the table. So the layers that
-- are shown, painted or mixed are at most as many as the planes that must be free before the tile. Assumes nothing.
use Rattle.std.specs.Prelude.{◌≡◌, ◌∷◌, ◌≤◌}
use Rattle.laws.proofs.Prelude.{ap, sym, ◌∙◌, Bool, true, ⊎_elim, List, [], map, ℕ, suc, min, arith, leb, length}
use Rattle.laws.proofs.Prelude.{length-map, le-leb, is_given, all, both, left, right, eq_or_ne}
use Rattle.styling.specs.Ascending.{strictly_ascends_from, strictly_ascends}
use Rattle.styling.specs.declared.Layer.{Layer}
use Rattle.styling.proofs.Ascents.{ascends_head, ascends_tail, ascends_weaken}
use Rattle.layer_table.specs.Lookup.{lookup}
use Rattle.layer_table.proofs.Judging.{table}
use Rattle.layer_table.proofs.Listed.{length_table, ids_table}
use Rattle.layer_table.proofs.Looking.{id_of, lookup_pass}
use Rattle.tile_layers.specs.Listing.{Listed, are_known}
use Rattle.tile_layers.proofs.Ordering.{listed_ids}
use Rattle.row_statements.specs.Lent.{LentTable, is_lent_table, layers_of}
use Rattle.row_statements.proofs.Works.{Listable}

abbrev known : List Layer → List ℕ → Bool
known ts ids = all (λ id. is_given (lookup ts id)) ids

-- what is found in an ascending table is not below it
found_low : (low : ℕ) (ts : List Layer) (id : ℕ) → strictly_ascends_from low (map id_of ts) ≡ true → is_given (lookup ts id) ≡ true → low ≤ id
unfolding lookup
found_low low [] id up e = absurd (let z : ◌≡◌ {A = ℕ} 0 1 = cc in omega arith)
found_low low (t ∷ ts) id up e =
    let head = ascends_head low t.id (map id_of ts) up in
    ⊎_elim
    (λ (same : t.id ≡ id). omega (arith, head, same))
    (λ (other : t.id ≡ id → ⊥).
    let rest = found_low (suc t.id) ts id (ascends_tail low t.id (map id_of ts) up) (ap is_given (sym (lookup_pass t ts id other)) ∙ e) in
    omega (arith, head, rest))
    (eq_or_ne t.id id)

-- ids above a record are found behind it
found_past : (t : Layer) (ts : List Layer) (ids : List ℕ) → strictly_ascends_from (suc t.id) ids ≡ true → known (t ∷ ts) ids ≡ true → known ts ids ≡ true
found_past t ts [] up e = e
found_past t ts (id ∷ ids) up e =
    let above = ascends_head (suc t.id) id ids up in
    let here = left (is_given (lookup (t ∷ ts) id)) (known (t ∷ ts) ids) e in
    let rest = right (is_given (lookup (t ∷ ts) id)) (known (t ∷ ts) ids) e in
    both (is_given (lookup ts id)) (known ts ids)
    (ap is_given (sym (lookup_pass t ts id (λ q. omega (arith, above, q)))) ∙ here)
    (found_past t ts ids (ascends_weaken (suc id) (suc t.id) ids (omega (arith, above)) (ascends_tail (suc t.id) id ids up)) rest)

-- an id that is above a bound, and the ones behind it
above_all : (low low' id : ℕ) (ids : List ℕ) → low ≤ id → strictly_ascends_from low' (id ∷ ids) ≡ true → strictly_ascends_from low (id ∷ ids) ≡ true
unfolding strictly_ascends_from
above_all low low' id ids p up = both (leb low id) (strictly_ascends_from (suc id) ids) (le-leb low id p) (ascends_tail low' id ids up)

few_found : (low low' : ℕ) (ts : List Layer) (ids : List ℕ) → strictly_ascends_from low (map id_of ts) ≡ true → strictly_ascends_from low' ids ≡ true → known ts ids ≡ true → length ids ≤ length ts
unfolding lookup
few_found low low' [] [] up_t up e = omega arith
few_found low low' [] (id ∷ ids) up_t up e = absurd (let z : ◌≡◌ {A = ℕ} 0 1 = cc in omega arith)
few_found low low' (t ∷ ts) [] up_t up e = omega arith
few_found low low' (t ∷ ts) (id ∷ ids) up_t up e =
    let upTs = ascends_tail low t.id (map id_of ts) up_t in
    let here = left (is_given (lookup (t ∷ ts) id)) (known (t ∷ ts) ids) e in
    let rest = right (is_given (lookup (t ∷ ts) id)) (known (t ∷ ts) ids) e in
    ⊎_elim
    (λ (same : t.id ≡ id).
    let up' : strictly_ascends_from (suc t.id) ids ≡ true = ap (λ (n : ℕ). strictly_ascends_from (suc n) ids) same ∙ ascends_tail low' id ids up in
    let h = few_found (suc t.id) (suc t.id) ts ids upTs up' (found_past t ts ids up' rest) in
    omega (arith, h))
    (λ (other : t.id ≡ id → ⊥).
    let above = found_low (suc t.id) ts id upTs (ap is_given (sym (lookup_pass t ts id other)) ∙ here) in
    let up' : strictly_ascends_from (suc t.id) (id ∷ ids) ≡ true = above_all (suc t.id) low' id ids above up in
    let h = few_found (suc t.id) (suc t.id) ts (id ∷ ids) upTs up' (found_past t ts (id ∷ ids) up' e) in
    omega (arith, h))
    (eq_or_ne t.id id)

-- the ids of layers that the table knows are found there
known_ids : (ts : List Layer) (ls : List Listed) → are_known ts ls ≡ true → known ts (listed_ids ls) ≡ true
known_ids ts [] e = e
known_ids ts (l ∷ ls) e =
    both (is_given (lookup ts l.id)) (known ts (listed_ids ls)) (left (is_given (lookup ts l.id)) (are_known ts ls) e) (known_ids ts ls (right (is_given (lookup ts l.id)) (are_known ts ls) e))

pub listed_few : (t : LentTable) (ls : List Listed) → is_lent_table t ≡ true → strictly_ascends (listed_ids ls) ≡ true → Listable (layers_of t) ls → length ls ≤ min 256 t.count
listed_few t ls is_table_lem up l =
    let ascending = ap strictly_ascends (ids_table t.words t.floats t.count) ∙ (table is_table_lem).ascending in
    let h = few_found 0 0 (layers_of t) (listed_ids ls) ascending up (known_ids (layers_of t) ls l.known) in
    omega (arith, h, length-map ls (λ (x : Listed). x.id), length_table t.words t.floats t.count, l.few)
