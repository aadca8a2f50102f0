-- Laws of looking up. Over any list: a place that is given holds the id, and where none is given no element has it. Over an ascending
-- list: the place that holds the id is given. Assumes nothing.
use Rattle.std.specs.Prelude.{◌≡◌, ◌∷◌, ◌+◌, ◌<◌}
use Rattle.laws.proofs.Prelude.{refl, sym, ap, ◌∙◌, true, ⊎_elim, List, [], ℕ, zero, suc, not-suc-le-zero, le_of_suc-le-suc}
use Rattle.laws.proofs.Prelude.{add-zero, add-suc, suc-add, arith, eq-eqb, ne_eqb, length, get_or, refused, given, eq_or_ne}
use Rattle.styling.specs.Ascending.{strictly_ascends_from}
use Rattle.layer_table.specs.Lookup.{place_from}
use Rattle.styling.proofs.Ascents.{ascends_tail, ascends_low}

-- ---- a step past an element

pub place_here : (k x : ℕ) (xs : List ℕ) (id : ℕ) → x ≡ id → place_from k (x ∷ xs) id ≡ given k
unfolding place_from
place_here k x xs id e = rw (eq-eqb x id e)

pub place_past : (k x : ℕ) (xs : List ℕ) (id : ℕ) → (x ≡ id → ⊥) → place_from k (x ∷ xs) id ≡ place_from (suc k) xs id
unfolding place_from
place_past k x xs id e = rw (ne_eqb x id e)

-- ---- what is looked for is found

pub place_at : (low k : ℕ) (xs : List ℕ) (i id : ℕ) → strictly_ascends_from low xs ≡ true → i < length xs → get_or xs i 0 ≡ id → place_from k xs id ≡ given (k + i)
place_at low k [] i id h p e = absurd (not-suc-le-zero p)
place_at low k (x ∷ xs) zero id h p e = place_here k x xs id e ∙ ap given (sym (add-zero k))
place_at low k (x ∷ xs) (suc i) id h p e =
    let tail : strictly_ascends_from (suc x) xs ≡ true = ascends_tail low x xs h in
    let more : i < length xs = le_of_suc-le-suc p in
    place_past k x xs id (λ q. omega (arith, ascends_low (suc x) xs tail i more, e, q))
    ∙ place_at (suc x) (suc k) xs i id tail more e
    ∙ ap given (suc-add k i ∙ sym (add-suc k i))

pub place_none : (k : ℕ) (xs : List ℕ) (id : ℕ) → ((i : ℕ) → i < length xs → get_or xs i 0 ≡ id → ⊥) → place_from k xs id ≡ refused 8
unfolding place_from
place_none k [] id h = refl
place_none k (x ∷ xs) id h = place_past k x xs id (h 0 (omega arith)) ∙ place_none (suc k) xs id (λ i p. h (suc i) (omega arith))

-- ---- where an answer comes from, in any list

pub data Sought (k : ℕ) (xs : List ℕ) (id : ℕ) : Type 0 where
  held : (i : ℕ) → i < length xs → get_or xs i 0 ≡ id → place_from k xs id ≡ given (k + i) → Sought k xs id
  missed : ((i : ℕ) → i < length xs → get_or xs i 0 ≡ id → ⊥) → place_from k xs id ≡ refused 8 → Sought k xs id

pub sought : (k : ℕ) (xs : List ℕ) (id : ℕ) → Sought k xs id
unfolding place_from
sought k [] id = missed (λ i p e. not-suc-le-zero p) refl
sought k (x ∷ xs) id = ⊎_elim here (λ n. later n (sought (suc k) xs id)) (eq_or_ne x id)
  where
    here : x ≡ id → Sought k (x ∷ xs) id
    here e = held 0 (omega arith) e (place_here k x xs id e ∙ ap given (sym (add-zero k)))

    later : (x ≡ id → ⊥) → Sought (suc k) xs id → Sought k (x ∷ xs) id
    later n (held i p e q) = held (suc i) (omega arith) e (place_past k x xs id n ∙ q ∙ ap given (suc-add k i ∙ sym (add-suc k i)))
    later n (missed h q) = missed nowhere (place_past k x xs id n ∙ q)
      where
        nowhere : (i : ℕ) → i < length (x ∷ xs) → get_or (x ∷ xs) i 0 ≡ id → ⊥
        nowhere zero p e = n e
        nowhere (suc i) p e = h i (le_of_suc-le-suc p) e
