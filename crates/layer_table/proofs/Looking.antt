-- What is looked up in a table, by its records: a layer is given where its id stands, and refused only where no record has the id.
-- `at_place` and `at_none` are for whoever calls `find`; `Walk` is for whoever goes through the table in step with ascending ids.
-- Assumes nothing.
use Rattle.std.specs.Prelude.{◌≡◌, ◌∷◌, ◌+◌, ◌≤◌, ◌<◌, Option, Some, None}
use Rattle.laws.proofs.Prelude.{refl, sym, ap, ◌∙◌, true, ⊎_elim, List, [], map, ℕ, zero, suc, not-suc-le-zero}
use Rattle.laws.proofs.Prelude.{le_of_suc-le-suc, eq-or-lt_of_le, zero-add, arith, eq-eqb, ne_eqb, Float, length, get_or, length-map, refused, given}
use Rattle.laws.proofs.Prelude.{le_or_lt, eq_or_ne}
use Rattle.styling.specs.declared.Layer.{Layer}
use Rattle.styling.specs.Ascending.{strictly_ascends_from, strictly_ascends}
use Rattle.layer_table.specs.Table.{id_at, layer_at, table_of, table_ids}
use Rattle.layer_table.specs.Lookup.{lookup, record_place, found_of, Place, Missing}
use Rattle.styling.proofs.Ascents.{ascends_tail, ascends_low}
use Rattle.layer_table.proofs.Listed.{length_ids, get_d_ids, length_table, get_d_table, layer_id, ids_table, ids_lt}
use Rattle.layer_table.proofs.Places.{Sought, held, missed, sought}

-- ---- over any list of layers

abbrev pub id_of : Layer → ℕ
id_of l = l.id

pub lookup_hit : (l : Layer) (ls : List Layer) (id : ℕ) → l.id ≡ id → lookup (l ∷ ls) id ≡ given l
unfolding lookup
lookup_hit l ls id e = rw (eq-eqb l.id id e)

pub lookup_pass : (l : Layer) (ls : List Layer) (id : ℕ) → (l.id ≡ id → ⊥) → lookup (l ∷ ls) id ≡ lookup ls id
unfolding lookup
lookup_pass l ls id e = rw (ne_eqb l.id id e)

-- the id of a layer, in the list of the ids
pub id_at_lem : (ls : List Layer) (d : Layer) (i : ℕ) → i < length ls → get_or (map id_of ls) i 0 ≡ (get_or ls i d).id
id_at_lem [] d i p = absurd (not-suc-le-zero p)
id_at_lem (l ∷ ls) d zero p = refl
id_at_lem (l ∷ ls) d (suc i) p = id_at_lem ls d i (le_of_suc-le-suc p)

-- in an ascending list, a layer that has the id is the one that is given
pub lookup_at : (low : ℕ) (ls : List Layer) (d : Layer) (i id : ℕ) → strictly_ascends_from low (map id_of ls) ≡ true → i < length ls → (get_or ls i d).id ≡ id → lookup ls id ≡ given (get_or ls i d)
lookup_at low [] d i id h p e = absurd (not-suc-le-zero p)
lookup_at low (l ∷ ls) d zero id h p e = lookup_hit l ls id e
lookup_at low (l ∷ ls) d (suc i) id h p e =
    let tail : strictly_ascends_from (suc l.id) (map id_of ls) ≡ true = ascends_tail low l.id (map id_of ls) h in
    let more : i < length ls = le_of_suc-le-suc p in
    let above : l.id < get_or (map id_of ls) i 0 = ascends_low (suc l.id) (map id_of ls) tail i (rw length-map more) in
    lookup_pass l ls id (λ q. omega (arith, above, id_at_lem ls d i more, e, q))
    ∙ lookup_at (suc l.id) ls d i id tail more e

-- where no layer has the id, none is given
pub lookup_none : (ls : List Layer) (d : Layer) (id : ℕ) → ((i : ℕ) → i < length ls → (get_or ls i d).id ≡ id → ⊥) → lookup ls id ≡ refused 8
unfolding lookup
lookup_none [] d id h = refl
lookup_none (l ∷ ls) d id h = lookup_pass l ls id (h 0 (omega arith)) ∙ lookup_none ls d id (λ i p. h (suc i) (omega arith))

-- the layer that is given has the id
pub lookup_id : (ls : List Layer) (id : ℕ) (l : Layer) → lookup ls id ≡ given l → l.id ≡ id
unfolding lookup
lookup_id [] id l e = let clash : ◌≡◌ {A = ℕ} 0 1 = cc in absurd (omega arith)
lookup_id (x ∷ ls) id l e = ⊎_elim (λ q. let same : x ≡ l = cc (lookup_hit x ls id q) in ap id_of (sym same) ∙ q) (λ q. lookup_id ls id l (sym (lookup_pass x ls id q) ∙ e)) (eq_or_ne x.id id)

-- ---- over the lent table

module _ {words : List ℕ} {floats : List Float} {count id : ℕ} where
  pub place : {i : ℕ} → strictly_ascends (table_ids words count) ≡ true → i < count → id_at words i ≡ id → Place words floats count id i
  place {i} h p e =
      let table = table_of words floats count in
      let d = layer_at words floats i in
      let at : get_or table i d ≡ d = get_d_table words floats count d i p in
      record {
        within = p;
        holds = e;
        looked =
            lookup_at 0 table d i id (rw ids_table h) (rw (length_table words floats count) p) (ap id_of at ∙ layer_id words floats i ∙ e) ∙ ap given at;
      }

  pub missing : ((i : ℕ) → i < count → id_at words i ≡ id → ⊥) → Missing words floats count id
  missing h =
      let table = table_of words floats count in
      let d = layer_at words floats 0 in
      record {
        nowhere = h;
        looked =
            lookup_none table d id
            (λ i p e. let q : i < count = rw (length_table words floats count) at p in h i q (sym (ap id_of (get_d_table words floats count d i q) ∙ layer_id words floats i) ∙ e));
      }

  -- ---- what `find` answers

  pub at_place : {r : Option ℕ} {i : ℕ} → r ≡ Some i → found_of r ≡ record_place (table_ids words count) id → strictly_ascends (table_ids words count) ≡ true → Place words floats count id i
  at_place {r} {i} e f h = by (sought 0 (table_ids words count) id)
    where
      by : Sought 0 (table_ids words count) id → Place words floats count id i
      by (held j p q g) =
          let same : 0 + j ≡ i = cc in
          let at : i < count = omega (arith, p, length_ids words count) in
          place h at (sym (get_d_ids words count i at) ∙ rw (← same, zero-add) q)
      by (missed n g) = let clash : ◌≡◌ {A = ℕ} 0 1 = cc in absurd (omega arith)

  pub at_none : {r : Option ℕ} → r ≡ None → found_of r ≡ record_place (table_ids words count) id → Missing words floats count id
  at_none {r} e f = by (sought 0 (table_ids words count) id)
    where
      by : Sought 0 (table_ids words count) id → Missing words floats count id
      by (held j p q g) = let clash : ◌≡◌ {A = ℕ} 0 1 = cc in absurd (omega arith)
      by (missed n g) = missing (λ i p q. n i (rw (length_ids words count) p) (get_d_ids words count i p ∙ q))

-- ---- going through the table in step with ascending ids: no record before place p has an id that is still to come

pub record Walk (words : List ℕ) (count id p : ℕ) : Type 0 where
  pub within : p ≤ count
  pub passed : (i : ℕ) → i < p → id_at words i < id

pub walk_start : (words : List ℕ) (count id : ℕ) → Walk words count id 0
walk_start words count id = record { within = omega arith; passed = λ i q. absurd (not-suc-le-zero q) }

module _ {words : List ℕ} {count id p : ℕ} (walk : Walk words count id p) where
  -- the next id
  pub walk_on : {id' : ℕ} → id ≤ id' → Walk words count id' p
  walk_on h = record { within = walk.within; passed = λ i q. omega (arith, walk.passed i q) }

  -- the next record
  pub walk_past : p < count → id_at words p < id → Walk words count id (p + 1)
  walk_past h e = record { within = omega arith; passed = λ i q. ⊎_elim (λ s. omega (arith, ap (id_at words) s)) (walk.passed i) (eq-or-lt_of_le {n = i} {m = p} (omega arith)) }

  -- a record with a greater id, or the end: the id is missing
  pub walk_missed : {floats : List Float} → strictly_ascends (table_ids words count) ≡ true → (p < count → id < id_at words p) → Missing words floats count id
  walk_missed h e = missing not_at
    where
      not_at : (i : ℕ) → i < count → id_at words i ≡ id → ⊥
      not_at i q s =
          ⊎_elim
          (λ a. ⊎_elim (λ t. omega (arith, e (omega arith), ap (id_at words) t)) (λ t. omega (arith, e (omega arith), ids_lt words count h p i t q)) (eq-or-lt_of_le a))
          (λ b. omega (arith, walk.passed i b))
          (le_or_lt p i)
