-- The search in a slice that the key sorts: found exactly where an element has the key, at the last one; else absent, with the number of
-- elements below it. One law over the key serves every search. Assumes nothing.
use Rattle.std.specs.Prelude.{◌≡◌, ◌∷◌, ◌+◌, ◌-◌, ◌/◌, ◌≤◌, ◌<◌}
use Rattle.laws.proofs.Prelude.{refl, sym, ap, ap₂, ◌∙◌, Bool, true, false, cond, false≢true, ⊎_elim, List, [], ℕ, zero, suc}
use Rattle.laws.proofs.Prelude.{arith, length, get_or, count_by, le_or_lt, either}
use Rattle.pixel_segment.specs.Order.{is_lt, is_eq, is_gt}
use Rattle.segment_rows.specs.Rows.{Ordered}
use Rattle.segment_rows.specs.Search.{found, absent, halved, ended, search_of, last_place}
use Rattle.segment_rows.proofs.Halving.{halved_left, halved_right, halved_end, search_is, search_empty}

-- what the ranks tell
told_above : (r : ℕ) → is_gt r ≡ true → 1 < r
told_above zero e = absurd (false≢true e)
told_above (suc zero) e = absurd (false≢true e)
told_above (suc (suc r)) e = omega arith

told_not_above : (r : ℕ) → is_gt r ≡ false → r ≤ 1
told_not_above zero e = omega arith
told_not_above (suc zero) e = omega arith
told_not_above (suc (suc r)) e = absurd (false≢true (sym e))

ended_above : (r i : ℕ) → 1 < r → ended r i ≡ absent i
ended_above zero i h = absurd (omega arith)
ended_above (suc zero) i h = absurd (omega arith)
ended_above (suc (suc r)) i h = refl

module _ (at : ℕ → ℕ) where
  below : List ℕ → ℕ
  below l = count_by (λ w. is_lt (at w)) l

  having : List ℕ → ℕ
  having l = count_by (λ w. is_eq (at w)) l

  -- nothing in the list is below a rank
  abbrev AtLeast : ℕ → List ℕ → Type 0
  AtLeast r l = (i : ℕ) → i < length l → r ≤ at (get_or l i 0)

  none_below : (l : List ℕ) → AtLeast 1 l → below l ≡ 0
  unfolding below
  none_below [] h = refl
  none_below (w ∷ ws) h = ap₂ ◌+◌ (by (at w) (h 0 (omega arith))) (none_below ws (λ i p. h (suc i) (omega arith)))
    where
      by : (r : ℕ) → 1 ≤ r → ◌≡◌ {A = ℕ} (cond (is_lt r) 1 0) 0
      by zero q = absurd (omega arith)
      by (suc r) q = refl

  none_having : (l : List ℕ) → AtLeast 2 l → having l ≡ 0
  unfolding having
  none_having [] h = refl
  none_having (w ∷ ws) h = ap₂ ◌+◌ (by (at w) (h 0 (omega arith))) (none_having ws (λ i p. h (suc i) (omega arith)))
    where
      by : (r : ℕ) → 2 ≤ r → ◌≡◌ {A = ℕ} (cond (is_eq r) 1 0) 0
      by zero q = absurd (omega arith)
      by (suc zero) q = absurd (omega arith)
      by (suc (suc r)) q = refl

  -- a elements are below the key, and the next b have it
  pub record Split (l : List ℕ) (a b : ℕ) : Type 0 where
    pub within : a + b ≤ length l
    pub low : (i : ℕ) → i < a → at (get_or l i 0) ≡ 0
    pub mid : (i : ℕ) → a ≤ i → i < a + b → at (get_or l i 0) ≡ 1
    pub high : (i : ℕ) → a + b ≤ i → i < length l → 1 < at (get_or l i 0)

  -- one more element in front
  more : (w : ℕ) (ws : List ℕ) (r : ℕ) → at w ≡ r → AtLeast r ws → Split ws (below ws) (having ws) → Split (w ∷ ws) (cond (is_lt r) 1 0 + below ws) (cond (is_eq r) 1 0 + having ws)
  more w ws zero e h s = record { within = omega (arith, s.within); low = low; mid = mid; high = high }
    where
      low : (i : ℕ) → i < 1 + below ws → at (get_or (w ∷ ws) i 0) ≡ 0
      low zero p = e
      low (suc i) p = s.low i (omega arith)

      mid : (i : ℕ) → 1 + below ws ≤ i → i < 1 + below ws + (0 + having ws) → at (get_or (w ∷ ws) i 0) ≡ 1
      mid zero p q = absurd (omega arith)
      mid (suc i) p q = s.mid i (omega arith) (omega arith)

      high : (i : ℕ) → 1 + below ws + (0 + having ws) ≤ i → i < length (w ∷ ws) → 1 < at (get_or (w ∷ ws) i 0)
      high zero p q = absurd (omega arith)
      high (suc i) p q = s.high i (omega arith) (omega arith)
  more w ws (suc zero) e h s = record { within = omega (arith, s.within); low = λ i p. absurd (omega (arith, none)); mid = mid; high = high }
    where
      none : below ws ≡ 0
      none = none_below ws h

      mid : (i : ℕ) → 0 + below ws ≤ i → i < 0 + below ws + (1 + having ws) → at (get_or (w ∷ ws) i 0) ≡ 1
      mid zero p q = e
      mid (suc i) p q = s.mid i (omega (arith, none)) (omega arith)

      high : (i : ℕ) → 0 + below ws + (1 + having ws) ≤ i → i < length (w ∷ ws) → 1 < at (get_or (w ∷ ws) i 0)
      high zero p q = absurd (omega arith)
      high (suc i) p q = s.high i (omega arith) (omega arith)
  more w ws (suc (suc r)) e h s = record { within = omega (arith, s.within); low = λ i p. absurd (omega (arith, none)); mid = λ i p q. absurd (omega (arith, none, no_more)); high = high }
    where
      above : AtLeast 2 ws
      above i p = let q : suc (suc r) ≤ at (get_or ws i 0) = h i p in omega arith

      none : below ws ≡ 0
      none = none_below ws (λ i p. let q : 2 ≤ at (get_or ws i 0) = above i p in omega arith)

      no_more : having ws ≡ 0
      no_more = none_having ws above

      high : (i : ℕ) → 0 + below ws + (0 + having ws) ≤ i → i < length (w ∷ ws) → 1 < at (get_or (w ∷ ws) i 0)
      high zero p q = omega (arith, e)
      high (suc i) p q = s.high i (omega (arith, none, no_more)) (omega arith)

  -- a sorted list is split by the key
  pub splits : (l : List ℕ) → Ordered at l → Split l (count_by (λ w. is_lt (at w)) l) (count_by (λ w. is_eq (at w)) l)
  unfolding below having
  splits [] s =
      record {
        within = omega arith;
        low = λ i p. absurd (omega arith);
        mid = λ i p q. absurd (omega arith);
        high = λ i p q. absurd (omega arith);
      }
  splits (w ∷ ws) s =
      more w ws (at w) refl (λ i p. s.up 0 (suc i) (omega arith) (omega arith))
      (splits ws (record { up = λ i j p q. s.up (suc i) (suc j) (omega arith) (omega arith) }))

  -- ---- where the halving ends: n elements are not above the key

  -- the place is the last one below n, or the first
  pub record Ends (l : List ℕ) (n s : ℕ) : Type 0 where
    pub inside : s < length l
    pub not_past : s ≤ n - 1
    pub not_before : n ≤ s + 1

  pub above_from : (l : List ℕ) (a b i : ℕ) → Split l a b → i < length l → is_gt (at (get_or l i 0)) ≡ true → a + b ≤ i
  above_from l a b i s h e =
      let g : 1 < at (get_or l i 0) = told_above (at (get_or l i 0)) e in
      ⊎_elim (λ p. p)
      (λ (p : i < a + b).
      absurd
      (⊎_elim (λ (q : a ≤ i). omega (arith, s.mid i q p)) (λ (q : i < a). omega (arith, s.low i q)) (le_or_lt a i)))
      (le_or_lt (a + b) i)

  pub below_to : (l : List ℕ) (a b i : ℕ) → Split l a b → i < length l → is_gt (at (get_or l i 0)) ≡ false → i < a + b
  below_to l a b i s h e =
      let g : at (get_or l i 0) ≤ 1 = told_not_above (at (get_or l i 0)) e in
      ⊎_elim (λ (p : a + b ≤ i). absurd (omega (arith, s.high i p h))) (λ p. p) (le_or_lt (a + b) i)

  is_above : ℕ → Bool
  is_above w = is_gt (at w)

  ends : (l : List ℕ) (a b turns start len : ℕ) → Split l a b → len ≤ turns → 1 ≤ len → start + len ≤ length l → start ≤ a + b - 1 → a + b ≤ start + len → Ends l (a + b) (halved (λ w. is_gt (at w)) l len start len)
  unfolding is_above
  ends l a b zero start len s t p q lo hi = absurd (omega arith)
  ends l a b (suc turns) start len s t p q lo hi =
      let left = ends l a b turns start (len / 2) s in
      let right = ends l a b turns (start + len / 2) (len - len / 2) s in
      ⊎_elim
      (λ (one : len ≤ 1).
      rw (halved_end is_above l len start len one)
      (record { inside = omega arith; not_past = lo; not_before = omega arith }))
      (λ (many : 1 < len).
      ⊎_elim
      (λ (g : is_gt (at (get_or l (start + len / 2) 0)) ≡ true).
      let m = above_from l a b (start + len / 2) s (omega arith) g in
      rw (halved_left is_above l start len many g)
      (left (omega arith) (omega arith) (omega arith) lo (omega arith)))
      (λ (g : is_gt (at (get_or l (start + len / 2) 0)) ≡ false).
      let m = below_to l a b (start + len / 2) s (omega arith) g in
      rw (halved_right is_above l start len many g)
      (right (omega arith) (omega arith) (omega arith) (omega arith) (omega arith)))
      (either (is_gt (at (get_or l (start + len / 2) 0)))))
      (le_or_lt len 1)

  -- the answer at the place where the halving ends
  answered : (l : List ℕ) (a b i : ℕ) → Split l a b → Ends l (a + b) i → ended (at (get_or l i 0)) i ≡ last_place a b
  answered l zero zero i s e =
      let z : i ≡ 0 = omega (arith, e.not_past) in
      ended_above (at (get_or l i 0)) i (s.high i (omega arith) e.inside) ∙ ap absent z
  answered l (suc a) zero i s e =
      let z : i + 1 ≡ suc a = omega (arith, e.not_past, e.not_before) in
      rw (s.low i (omega arith)) (ap absent z)
  answered l a (suc b) i s e =
      let z : i ≡ a + b = omega (arith, e.not_past, e.not_before) in
      rw (s.mid i (omega arith) (omega arith)) (ap found z)

  pub sorted_search : (l : List ℕ) → Ordered at l → search_of at l ≡ last_place (count_by (λ w. is_lt (at w)) l) (count_by (λ w. is_eq (at w)) l)
  sorted_search l s =
      let a = count_by (λ w. is_lt (at w)) l in
      let b = count_by (λ w. is_eq (at w)) l in
      let t = splits l s in
      ⊎_elim
      (λ (none : length l ≤ 0). sym (search_empty at l (omega arith)) ∙ nothing a b (omega (arith, t.within)) (omega (arith, t.within)))
      (λ (some : 0 < length l).
      search_is at l some
      ∙ answered l a b _ t (ends l a b (length l) 0 (length l) t (omega arith) some (omega arith) (omega arith) (omega (arith, t.within))))
      (le_or_lt (length l) 0)
    where
      nothing : (a b : ℕ) → a ≡ 0 → b ≡ 0 → absent 0 ≡ last_place a b
      nothing zero zero p q = refl
      nothing (suc a) zero p q = absurd (omega arith)
      nothing a (suc b) p q = absurd (omega arith)

  -- on a sorted slice a key is called absent only if no element has it
  pub absent_only : (l : List ℕ) (i : ℕ) → Ordered at l → search_of at l ≡ absent i → (j : ℕ) → j < length l → at (get_or l j 0) ≡ 1 → ⊥
  absent_only l i o e j h k = by (count_by (λ w. is_lt (at w)) l) (count_by (λ w. is_eq (at w)) l) (splits l o) (sym (sorted_search l o) ∙ e)
    where
      by : (a b : ℕ) → Split l a b → last_place a b ≡ absent i → ⊥
      by a zero s p =
          ⊎_elim (λ (q : a ≤ j). omega (arith, s.high j (omega arith) h)) (λ (q : j < a). omega (arith, s.low j q)) (le_or_lt a j)
      by a (suc b) s p = let z : ◌≡◌ {A = ℕ} 0 1 = cc in omega arith
