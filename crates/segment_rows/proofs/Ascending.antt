-- Laws of ascending lists: how a loop over one goes, and what it says of any two elements. Assumes nothing.
use Rattle.std.specs.Prelude.{◌≡◌, ◌&&◌, ◌∷◌, ◌+◌, ◌-◌, ◌/◌, ◌≤◌, ◌<◌}
use Rattle.laws.proofs.Prelude.{refl, ap, sym, ◌∙◌, Bool, true, false, and_assoc, and-true, List, [], ⊎_elim, ℕ, zero, suc}
use Rattle.laws.proofs.Prelude.{not-suc-le-zero, le_of_suc-le-suc, div-eq_of_lt, add-one, arith, leb-true, le-leb, lt-leb, ne_eqb, leb}
use Rattle.laws.proofs.Prelude.{eqb, length, get_or, drop, drop_of_length-le, drop-cons, left, right, both, not_right, le_or_lt}
use native.Mathlib.Nat.{div-eq_of_lt-le}
use Rattle.segment_rows.specs.Rows.{ascends_from, ascends}

-- the key before plus the highest key minus a key reaches the bound exactly where the key is lower
no_descent : (bound previous key : ℕ) → previous < bound → previous ≤ key → (previous + (bound - 1) - key) / bound ≡ 0
no_descent bound previous key p up = div-eq_of_lt (omega arith)

one_descent : (bound previous key : ℕ) → previous < bound → key < previous → (previous + (bound - 1) - key) / bound ≡ 1
one_descent bound previous key p down = div-eq_of_lt-le {k = 1} bound (omega arith) (omega arith)

descent_le : (bound previous key : ℕ) → previous < bound → (previous + (bound - 1) - key) / bound ≤ 1
descent_le bound previous key p =
    ⊎_elim
    (λ (up : previous ≤ key). omega (arith, no_descent bound previous key p up))
    (λ (down : key < previous). omega (arith, one_descent bound previous key p down))
    (le_or_lt previous key)

counted_one : (bound descents previous key : ℕ) → previous < bound → key < bound → eqb (descents + (previous + (bound - 1) - key) / bound) 0 ≡ (eqb descents 0 && leb previous key)
counted_one bound descents previous key p k =
    ⊎_elim
    (λ (up : previous ≤ key).
    let none : descents + (previous + (bound - 1) - key) / bound ≡ descents = omega (arith, no_descent bound previous key p up) in
    rw (none, le-leb previous key up, and-true))
    (λ (down : key < previous).
    let one : descents + (previous + (bound - 1) - key) / bound ≡ descents + 1 = omega (arith, one_descent bound previous key p down) in
    rw (one, lt-leb previous key down) (ne_eqb (descents + 1) 0 (λ e. omega arith) ∙ sym (not_right (eqb descents 0) false refl)))
    (le_or_lt previous key)

module _ (f : ℕ → ℕ) where
  pub ascends_step : (k : ℕ) (l : List ℕ) (i : ℕ) → i < length l → ascends_from f k (drop i l) ≡ (leb k (f (get_or l i 0)) && ascends_from f (f (get_or l i 0)) (drop (i + 1) l))
  unfolding ascends_from
  ascends_step k l i h = rw add-one (ap (ascends_from f k) (drop-cons l i 0 h))

  pub ascends_end : (k : ℕ) (l : List ℕ) (i : ℕ) → length l ≤ i → ascends_from f k (drop i l) ≡ true
  unfolding ascends_from
  ascends_end k l i h = ap (ascends_from f k) (drop_of_length-le l h)

  -- a turn of a loop over the list: what is found so far and what is left make the whole
  pub ascends_again : (ok whole : Bool) (k : ℕ) (l : List ℕ) (i next : ℕ) → i < length l → next ≡ f (get_or l i 0) → (ok && ascends_from f k (drop i l)) ≡ whole → (ok && leb k next && ascends_from f next (drop (i + 1) l)) ≡ whole
  ascends_again ok whole k l i next h e p =
      rw e
      (and_assoc ok (leb k (f (get_or l i 0))) (ascends_from f (f (get_or l i 0)) (drop (i + 1) l))
      ∙ ap (λ (t : Bool). ok && t) (sym (ascends_step k l i h))
      ∙ p)

  -- ---- a loop over keys below a bound that counts the descents

  -- what holds after i elements
  pub record Counted (bound : ℕ) (l : List ℕ) (descents previous i : ℕ) : Type 0 where
    pub within : i ≤ length l
    pub most : descents ≤ i
    pub small : previous < bound
    pub whole : (eqb descents 0 && ascends_from f previous (drop i l)) ≡ ascends f l

  pub counted_next : {bound : ℕ} {l : List ℕ} {descents previous i : ℕ} (key : ℕ) → Counted bound l descents previous i → i < length l → key ≡ f (get_or l i 0) → key < bound
      → Counted bound l (descents + (previous + (bound - 1) - key) / bound) key (i + 1)
  counted_next {bound} {l} {descents} {previous} {i} key c h e k =
      record {
        within = omega arith;
        most = omega (arith, descent_le bound previous key c.small);
        small = k;
        whole =
            rw (counted_one bound descents previous key c.small k)
            (ascends_again (eqb descents 0) (ascends f l) previous l i key h e c.whole);
      }

  pub counted_end : {bound : ℕ} {l : List ℕ} {descents previous i : ℕ} → Counted bound l descents previous i → length l ≤ i → eqb descents 0 ≡ ascends f l
  counted_end {bound} {l} {descents} {previous} {i} c h =
      sym (and-true (eqb descents 0)) ∙ ap (λ (t : Bool). eqb descents 0 && t) (sym (ascends_end previous l i h)) ∙ c.whole

  -- every element is at least the start
  pub from_le : (k : ℕ) (l : List ℕ) → ascends_from f k l ≡ true → (i : ℕ) → i < length l → k ≤ f (get_or l i 0)
  unfolding ascends_from
  from_le k [] e i h = absurd (not-suc-le-zero h)
  from_le k (w ∷ ws) e zero h = leb-true k (f w) (left (leb k (f w)) (ascends_from f (f w) ws) e)
  from_le k (w ∷ ws) e (suc i) h =
      let a : k ≤ f w = leb-true k (f w) (left (leb k (f w)) (ascends_from f (f w) ws) e) in
      let b : f w ≤ f (get_or ws i 0) = from_le (f w) ws (right (leb k (f w)) (ascends_from f (f w) ws) e) i (le_of_suc-le-suc h) in
      omega arith

  -- an earlier element is at most a later one
  pub from_ordered : (k : ℕ) (l : List ℕ) → ascends_from f k l ≡ true → (i j : ℕ) → i ≤ j → j < length l → f (get_or l i 0) ≤ f (get_or l j 0)
  unfolding ascends_from
  from_ordered k [] e i j h g = absurd (not-suc-le-zero g)
  from_ordered k (w ∷ ws) e zero zero h g = omega arith
  from_ordered k (w ∷ ws) e zero (suc j) h g = from_le (f w) ws (right (leb k (f w)) (ascends_from f (f w) ws) e) j (le_of_suc-le-suc g)
  from_ordered k (w ∷ ws) e (suc i) zero h g = absurd (not-suc-le-zero h)
  from_ordered k (w ∷ ws) e (suc i) (suc j) h g =
      from_ordered (f w) ws (right (leb k (f w)) (ascends_from f (f w) ws) e) i j (le_of_suc-le-suc h) (le_of_suc-le-suc g)

  -- the other way: a list whose earlier elements are at most the later ones ascends
  pub from_intro : (k : ℕ) (l : List ℕ) → ((i : ℕ) → i < length l → k ≤ f (get_or l i 0)) → ((i j : ℕ) → i ≤ j → j < length l → f (get_or l i 0) ≤ f (get_or l j 0)) → ascends_from f k l ≡ true
  unfolding ascends_from
  from_intro k [] low h = refl
  from_intro k (w ∷ ws) low h =
      both (leb k (f w)) (ascends_from f (f w) ws) (le-leb k (f w) (low 0 (omega arith)))
      (from_intro (f w) ws (λ i p. h 0 (suc i) (omega arith) (omega arith)) (λ i j p q. h (suc i) (suc j) (omega arith) (omega arith)))
