-- Which of ascending ids a table has, by going through its records once: each record is held against the first id that no record before it had.
-- Assumes nothing.
use Rattle.std.specs.Prelude.{◌≡◌, ◌&&◌, ◌+◌, ◌≤◌, ◌<◌}
use Rattle.laws.proofs.Prelude.{refl, sym, ap, subst, ◌∙◌, Bool, true, false, cond, List, ⊎_elim, ℕ, eq-or-lt_of_le, arith}
use Rattle.laws.proofs.Prelude.{ltb-true, lt-ltb, eqb-true, eq-eqb, ne_eqb, eqb, ltb, Float, length, get_or, take, length-take, get_or-take}
use Rattle.laws.proofs.Prelude.{is_given, both, left, right, clash, all_at, all_intro}
use Rattle.laws.proofs.Bools.{not-true}
use Rattle.styling.specs.Ascending.{strictly_ascends}
use Rattle.styling.proofs.Ascents.{ascends_lt}
use Rattle.layer_table.specs.Lookup.{lookup}
use Rattle.layer_table.specs.Table.{id_at, table_of, table_ids}
use Rattle.layer_table.proofs.Listed.{ids_lt}
use Rattle.layer_table.proofs.Looking.{place, missing}
use Rattle.listing_statements.specs.Deciding.{are_in_table}

module _ (words : List ℕ) (floats : List Float) (count : ℕ) (ids : List ℕ) (n : ℕ) where
  abbrev known : ℕ → Bool
  known id = is_given (lookup (table_of words floats count) id)

  -- of the first p records: i ids stand there, the next one does not
  pub record Meeting (i p : ℕ) : Type 0 where
    pub within : i ≤ n
    pub past : p ≤ count
    pub met : (j : ℕ) → j < i → known (get_or ids j 0) ≡ true
    pub apart : (q : ℕ) → q < p → i < n → id_at words q ≡ get_or ids i 0 → ⊥

-- ids that follow each other
above : (ids : List ℕ) (n : ℕ) → strictly_ascends (take n ids) ≡ true → n ≤ length ids → (i : ℕ) → i + 1 < n → get_or ids i 0 < get_or ids (i + 1) 0
above ids n ascends long i h =
    let l : i + 1 < length (take n ids) = omega (arith, length-take n ids) in
    let up = ascends_lt 0 (take n ids) ascends i (i + 1) (omega arith) l in
    rw (get_or-take n ids i 0 (omega arith), get_or-take n ids (i + 1) 0 h) at up

module _ {words : List ℕ} {floats : List Float} {count : ℕ} {ids : List ℕ} {n : ℕ} (table : strictly_ascends (table_ids words count) ≡ true) (ascends : strictly_ascends (take n ids) ≡ true) (long : n ≤ length ids) where
  -- the next record has the id
  hit : {i p : ℕ} → Meeting words floats count ids n i p → p < count → i < n → get_or ids i 0 ≡ id_at words p → Meeting words floats count ids n (i + 1) (p + 1)
  hit {i} {p} m h l e =
      record {
        within = omega arith;
        past = omega arith;
        met =
            λ j k.
            ⊎_elim
            (λ (s : j ≡ i). ap (λ (a : ℕ). known words floats count ids n (get_or ids a 0)) s ∙ ap is_given (place {floats = floats} table h (sym e)).looked)
            (m.met j)
            (eq-or-lt_of_le {n = j} {m = i} (omega arith));
        apart =
            λ q k r s.
            ⊎_elim
            (λ (t : q ≡ p). omega (arith, above ids n ascends long i r, e, s, ap (id_at words) t))
            (λ (t : q < p). omega (arith, above ids n ascends long i r, e, s, ids_lt words count table q p t h))
            (eq-or-lt_of_le {n = q} {m = p} (omega arith));
      }

  -- it has not
  miss : {i p : ℕ} → Meeting words floats count ids n i p → p < count → (i < n → get_or ids i 0 ≡ id_at words p → ⊥) → Meeting words floats count ids n i (p + 1)
  miss {i} {p} m h e =
      record {
        within = m.within;
        past = omega arith;
        met = m.met;
        apart =
            λ q k l s.
            ⊎_elim (λ (t : q ≡ p). e l (sym s ∙ ap (id_at words) t)) (λ (t : q < p). m.apart q t l s) (eq-or-lt_of_le {n = q} {m = p} (omega arith));
      }

  pub meet_next : {i p r : ℕ} → Meeting words floats count ids n i p → p < count → r ≡ cond (ltb i n && eqb (get_or ids i 0) (id_at words p)) (i + 1) i → Meeting words floats count ids n r (p + 1)
  meet_next {i} {p} {r} m h e =
      subst (λ (a : ℕ). Meeting words floats count ids n a (p + 1)) (sym e) (by (ltb i n && eqb (get_or ids i 0) (id_at words p)) refl)
    where
      by : (t : Bool) → (ltb i n && eqb (get_or ids i 0) (id_at words p)) ≡ t → Meeting words floats count ids n (cond t (i + 1) i) (p + 1)
      by true q = hit m h (ltb-true i n (left (ltb i n) (eqb (get_or ids i 0) (id_at words p)) q)) (eqb-true (get_or ids i 0) (id_at words p) (right (ltb i n) (eqb (get_or ids i 0) (id_at words p)) q))
      by false q = miss m h (λ l s. clash (both (ltb i n) (eqb (get_or ids i 0) (id_at words p)) (lt-ltb i n l) (eq-eqb (get_or ids i 0) (id_at words p) s)) q)

  -- past the last record: all were met, or the next one is missing
  pub meet_end : {i p : ℕ} → Meeting words floats count ids n i p → count ≤ p → eqb i n ≡ are_in_table (table_of words floats count) (take n ids)
  meet_end {i} {p} m h =
      ⊎_elim
      (λ (e : i ≡ n). eq-eqb i n e ∙ sym (all_intro (known words floats count ids n) (take n ids) 0 (λ j k. let l : j < n = omega (arith, k, length-take n ids) in rw (get_or-take n ids j 0 l) (m.met j (omega arith)))))
      (λ (l : i < n). ne_eqb i n (λ e. omega arith) ∙ sym (not-true (are_in_table (table_of words floats count) (take n ids)) (none l)))
      (eq-or-lt_of_le {n = i} {m = n} m.within)
    where
      none : i < n → are_in_table (table_of words floats count) (take n ids) ≡ true → ⊥
      none l a =
          let there : i < length (take n ids) = omega (arith, length-take n ids) in
          let is = rw (get_or-take n ids i 0 l) at (all_at (known words floats count ids n) (take n ids) a i 0 there) in
          clash is (ap is_given (missing {words = words} {floats = floats} {count = count} {id = get_or ids i 0} (λ q k s. m.apart q (omega (arith, m.past)) l s)).looked)
