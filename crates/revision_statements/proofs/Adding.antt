-- Laws of a record added to an ascending list. Assumes nothing.
use Rattle.std.specs.Prelude.{◌≡◌, ◌&&◌, ◌∷◌, ◌≤◌, ◌<◌}
use Rattle.laws.proofs.Prelude.{refl, sym, Bool, true, false, ⊎_elim, List, [], ℕ, suc, arith, lt-ltb, le-ltb, eq-eqb}
use Rattle.laws.proofs.Prelude.{ne_eqb, le-leb, ltb-true, ltb-false, ltb, leb, both, le_or_lt, eq_or_ne}
use Rattle.styling.specs.Ascending.{strictly_ascends_from, strictly_ascends}
use Rattle.styling.proofs.Ascents.{ascends_head, ascends_tail}
use Rattle.revision_statements.specs.Sent.{Sent, id_of}
use Rattle.revision_statements.specs.Standing.{higher_of, add_sent, add_sents, latest_in, sent_ids}

-- ---- two numbers, and two records of one layer, as cases

pub data Order (a b : ℕ) : Type 0 where
  equal : a ≡ b → Order a b
  less : a < b → Order a b
  more : b < a → Order a b

pub order : (a b : ℕ) → Order a b
order a b =
    ⊎_elim (λ (e : a ≡ b). equal e) (λ (n : a ≡ b → ⊥). ⊎_elim (λ (h : a ≤ b). less (omega arith)) (λ (h : b < a). more h) (le_or_lt a b))
    (eq_or_ne a b)

pub data Higher (t s : Sent) : Type 0 where
  stays : s.revision ≤ t.revision → higher_of t s ≡ t → Higher t s
  yields : t.revision < s.revision → higher_of t s ≡ s → Higher t s

pub higher : (t s : Sent) → Higher t s
higher t s = by (ltb t.revision s.revision) refl
  where
    by : (b : Bool) → ltb t.revision s.revision ≡ b → Higher t s
    by true e = yields (ltb-true t.revision s.revision e) (rw e refl)
    by false e = stays (ltb-false t.revision s.revision e) (rw e refl)

-- either has the id of both
pub higher_id : (t s : Sent) → id_of t ≡ id_of s → id_of (higher_of t s) ≡ id_of t
higher_id t s e = by (higher t s)
  where
    by : Higher t s → id_of (higher_of t s) ≡ id_of t
    by (stays h q) = rw q refl
    by (yields h q) = rw q (sym e)

-- ---- a step past a record

module _ (s t : Sent) (ts : List Sent) where
  pub add_there : id_of t ≡ id_of s → add_sent s (t ∷ ts) ≡ higher_of t s ∷ ts
  unfolding add_sent
  add_there e = rw (eq-eqb (id_of t) (id_of s) e)

  pub add_before : id_of s < id_of t → add_sent s (t ∷ ts) ≡ s ∷ (t ∷ ts)
  unfolding add_sent
  add_before h = rw (ne_eqb (id_of t) (id_of s) (λ e. omega (arith, e)), lt-ltb (id_of s) (id_of t) h)

  pub add_after : id_of t < id_of s → add_sent s (t ∷ ts) ≡ t ∷ add_sent s ts
  unfolding add_sent
  add_after h = rw (ne_eqb (id_of t) (id_of s) (λ e. omega (arith, e)), le-ltb (id_of s) (id_of t) (omega arith))

-- ---- the ids ascend

pub ascends_add : (low : ℕ) (s : Sent) (ts : List Sent) → low ≤ id_of s → strictly_ascends_from low (sent_ids ts) ≡ true → strictly_ascends_from low (sent_ids (add_sent s ts)) ≡ true
unfolding add_sent strictly_ascends_from
ascends_add low s [] p h = both (leb low (id_of s)) true (le-leb low (id_of s) p) refl
ascends_add low s (t ∷ ts) p h = by (λ l. ascends_add (suc (id_of t)) s ts l (ascends_tail low (id_of t) (sent_ids ts) h)) (order (id_of t) (id_of s))
  where
    tail : strictly_ascends_from (suc (id_of t)) (sent_ids ts) ≡ true
    tail = ascends_tail low (id_of t) (sent_ids ts) h

    by : (suc (id_of t) ≤ id_of s → strictly_ascends_from (suc (id_of t)) (sent_ids (add_sent s ts)) ≡ true) → Order (id_of t) (id_of s) → strictly_ascends_from low (sent_ids (add_sent s (t ∷ ts))) ≡ true
    by rest (equal e) = rw (add_there s t ts e, higher_id t s e) h
    by rest (more l) =
        rw (add_before s t ts l)
        (both (leb low (id_of s)) (leb (suc (id_of s)) (id_of t) && strictly_ascends_from (suc (id_of t)) (sent_ids ts)) (le-leb low (id_of s) p)
        (both (leb (suc (id_of s)) (id_of t)) (strictly_ascends_from (suc (id_of t)) (sent_ids ts)) (le-leb (suc (id_of s)) (id_of t) l) tail))
    by rest (less l) =
        rw (add_after s t ts l)
        (both (leb low (id_of t)) (strictly_ascends_from (suc (id_of t)) (sent_ids (add_sent s ts))) (le-leb low (id_of t) (ascends_head low (id_of t) (sent_ids ts) h))
        (rest l))

ascends_all : (ss ts : List Sent) → strictly_ascends (sent_ids ts) ≡ true → strictly_ascends (sent_ids (add_sents ss ts)) ≡ true
unfolding add_sents
ascends_all [] ts h = h
ascends_all (s ∷ ss) ts h = ascends_all ss (add_sent s ts) (ascends_add 0 s ts (omega arith) h)

pub latest_ascends : (ss : List Sent) → strictly_ascends (sent_ids (latest_in ss)) ≡ true
unfolding strictly_ascends_from
latest_ascends ss = ascends_all ss [] refl
