-- Laws of ranks: a rank by the numbers around it, and the halving that finds it in an ascending list. Assumes nothing.
use Rattle.std.specs.Prelude.{◌≡◌, ◌∷◌, ◌+◌, ◌≤◌, ◌<◌}
use Rattle.laws.proofs.Prelude.{sym, ap, ◌∙◌, true, false, ⊎_elim, List, [], ℕ, zero, suc, not-suc-le-zero, le_of_suc-le-suc}
use Rattle.laws.proofs.Prelude.{eq-or-lt_of_le, arith, lt-ltb, le-ltb, ltb-true, eqb-true, eq-eqb, eqb, ltb, length, get_or, take, get_or-take}
use Rattle.laws.proofs.Prelude.{length-take-le, left, right, both, clash, le_or_lt}
use Rattle.styling.specs.Ascending.{strictly_ascends}
use Rattle.styling.proofs.Ascents.{ascends_lt}
use Rattle.queue_statements.specs.Rank.{rank_of, holds_at}

-- ---- a step past a number

pub rank_more : (x y : ℕ) (ys : List ℕ) → y < x → rank_of x (y ∷ ys) ≡ suc (rank_of x ys)
unfolding rank_of
rank_more x y ys h = rw (lt-ltb y x h)

pub rank_stop : (x y : ℕ) (ys : List ℕ) → x ≤ y → rank_of x (y ∷ ys) ≡ 0
unfolding rank_of
rank_stop x y ys h = rw (le-ltb y x h)

-- ---- what a rank says: the numbers before it are below x, and the one at it is not

pub record Ranked (x : ℕ) (ys : List ℕ) (r : ℕ) : Type 0 where
  pub within : r ≤ length ys
  pub below : (i : ℕ) → i < r → get_or ys i 0 < x
  pub reached : r < length ys → x ≤ get_or ys r 0

pub ranked : (x : ℕ) (ys : List ℕ) → Ranked x ys (rank_of x ys)
unfolding rank_of
ranked x [] = record { within = omega arith; below = λ i h. absurd (not-suc-le-zero h); reached = λ h. absurd (not-suc-le-zero h) }
ranked x (y ∷ ys) = ⊎_elim stop (λ h. more h (ranked x ys)) (le_or_lt x y)
  where
    stop : x ≤ y → Ranked x (y ∷ ys) (rank_of x (y ∷ ys))
    stop h = rw (rank_stop x y ys h) (record { within = omega arith; below = λ i p. absurd (not-suc-le-zero p); reached = λ p. h })

    more : y < x → Ranked x ys (rank_of x ys) → Ranked x (y ∷ ys) (rank_of x (y ∷ ys))
    more h t = rw (rank_more x y ys h) (record { within = omega arith; below = under; reached = λ p. t.reached (le_of_suc-le-suc p) })
      where
        under : (i : ℕ) → i < suc (rank_of x ys) → get_or (y ∷ ys) i 0 < x
        under zero p = h
        under (suc i) p = t.below i (le_of_suc-le-suc p)

-- nothing else is said of any other number
pub rank_is : (x : ℕ) (ys : List ℕ) (r : ℕ) → Ranked x ys r → r ≡ rank_of x ys
unfolding rank_of
rank_is x [] r c = omega (arith, c.within)
rank_is x (y ∷ ys) zero c = sym (rank_stop x y ys (c.reached (omega arith)))
rank_is x (y ∷ ys) (suc r) c = ap suc (rank_is x ys r tail) ∙ sym (rank_more x y ys (c.below 0 (omega arith)))
  where
    tail : Ranked x ys r
    tail = record { within = omega (arith, c.within); below = λ i p. c.below (suc i) (omega arith); reached = λ p. c.reached (omega arith) }

-- ---- halving: the places from `low` up to `high` are left

pub record Halving (ids : List ℕ) (n x low high : ℕ) : Type 0 where
  pub long : n ≤ length ids
  pub ascending : strictly_ascends (take n ids) ≡ true
  pub order : low ≤ high
  pub within : high ≤ n
  pub below : (i : ℕ) → i < low → get_or ids i 0 < x
  pub above : (i : ℕ) → high ≤ i → i < n → x ≤ get_or ids i 0

pub begin : {ids : List ℕ} {n : ℕ} (x : ℕ) → n ≤ length ids → strictly_ascends (take n ids) ≡ true → Halving ids n x 0 n
begin x h a =
    record {
      long = h;
      ascending = a;
      order = omega arith;
      within = omega arith;
      below = λ i p. absurd (not-suc-le-zero p);
      above = λ i p q. absurd (omega arith);
    }

module _ {ids : List ℕ} {n x low high : ℕ} (left : Halving ids n x low high) where
  -- a later id is greater
  later : (i j : ℕ) → i < j → j < n → get_or ids i 0 < get_or ids j 0
  later i j p q =
      let e = length-take-le n ids left.long in
      omega (
        arith,
        ascends_lt 0 (take n ids) left.ascending i j p (omega arith),
        get_or-take n ids i 0 (omega arith),
        get_or-take n ids j 0 q,
      )

  pub upper : {middle : ℕ} → low ≤ middle → middle < high → get_or ids middle 0 < x → Halving ids n x (middle + 1) high
  upper {middle} p q h =
      record {
        long = left.long;
        ascending = left.ascending;
        order = omega arith;
        within = left.within;
        below = λ i s. ⊎_elim (λ e. omega (arith, ap (λ (k : ℕ). get_or ids k 0) e)) (λ l. omega (arith, later i middle l (omega (arith, left.within)))) (eq-or-lt_of_le {n = i} {m = middle} (omega arith));
        above = left.above;
      }

  pub lower : {middle : ℕ} → low ≤ middle → middle < high → x ≤ get_or ids middle 0 → Halving ids n x low middle
  lower {middle} p q h =
      record {
        long = left.long;
        ascending = left.ascending;
        order = p;
        within = omega (arith, left.within);
        below = left.below;
        above = λ i s t. ⊎_elim (λ e. omega (arith, ap (λ (k : ℕ). get_or ids k 0) e)) (λ l. omega (arith, later middle i l t)) (eq-or-lt_of_le s);
      }

  pub end : high ≤ low → low ≡ rank_of x (take n ids)
  end h =
      rank_is x (take n ids) low
      (record {
        within = omega (arith, length-take-le n ids left.long, left.order, left.within);
        below = λ i p. rw (get_or-take n ids i 0 (omega (arith, left.order, left.within))) (left.below i p);
        reached = λ p. let q : low < n = omega (arith, length-take-le n ids left.long) in rw (get_or-take n ids low 0 q) (left.above low h q);
      })

  -- a place that holds x is its rank
  pub hit : {place : ℕ} → place < n → get_or ids place 0 ≡ x → place ≡ rank_of x (take n ids)
  hit {place} p e =
      rank_is x (take n ids) place
      (record {
        within = omega (arith, length-take-le n ids left.long);
        below = λ i q. rw (get_or-take n ids i 0 (omega arith)) (omega (arith, later i place q p, e));
        reached = λ q. rw (get_or-take n ids place 0 p) (omega (arith, e));
      })

-- ---- the id at a place

module _ (x place n : ℕ) (ids : List ℕ) (long : n ≤ length ids) where
  pub holds_is : place < n → eqb (get_or ids place 0) x ≡ holds_at x place (take n ids)
  unfolding holds_at
  holds_is p = rw (length-take-le n ids long, lt-ltb place n p, get_or-take n ids place 0 p)

  pub holds_not : n ≤ place → false ≡ holds_at x place (take n ids)
  unfolding holds_at
  holds_not p = rw (length-take-le n ids long, le-ltb place n p)

pub stands : (x : ℕ) (ys : List ℕ) (place : ℕ) → place < length ys → get_or ys place 0 ≡ x → holds_at x place ys ≡ true
unfolding holds_at
stands x ys place p e = both (ltb place (length ys)) (eqb (get_or ys place 0) x) (lt-ltb place (length ys) p) (eq-eqb (get_or ys place 0) x e)

pub record Held (x place : ℕ) (ys : List ℕ) : Type 0 where
  pub within : place < length ys
  pub same : get_or ys place 0 ≡ x

pub held : {x place : ℕ} {ys : List ℕ} → holds_at x place ys ≡ true → Held x place ys
unfolding holds_at
held {x} {place} {ys} h =
    record {
      within = ltb-true place (length ys) (left (ltb place (length ys)) (eqb (get_or ys place 0) x) h);
      same = eqb-true (get_or ys place 0) x (right (ltb place (length ys)) (eqb (get_or ys place 0) x) h);
    }

-- in an ascending list, what does not stand at its rank stands nowhere
pub missed : (x : ℕ) (ys : List ℕ) {r : ℕ} → strictly_ascends ys ≡ true → r ≡ rank_of x ys → holds_at x r ys ≡ false → (i : ℕ) → i < length ys → get_or ys i 0 ≡ x → ⊥
missed x ys {r} a e h i p s =
    let k : Ranked x ys r = rw e (ranked x ys) in
    ⊎_elim
    (λ (q : r ≤ i). ⊎_elim (λ (t : r ≡ i). clash (rw t (stands x ys i p s)) h) (λ (t : r < i). omega (arith, ascends_lt 0 ys a r i t p, k.reached (omega arith), s)) (eq-or-lt_of_le q))
    (λ (q : i < r). omega (arith, k.below i q, s))
    (le_or_lt r i)
