-- Two lists of members that ascend: the walk over today's that meets the others in their order. Assumes nothing.
use Rattle.std.specs.Prelude.{◌≡◌, ◌&&◌, ◌||◌, ◌∷◌, ◌+◌, ◌≤◌, ◌<◌}
use Rattle.laws.proofs.Prelude.{refl, sym, ap, ◌∙◌, Bool, true, false, cond, List, [], map, ⊎_elim, ℕ, zero, suc}
use Rattle.laws.proofs.Prelude.{add-one, arith, eq-eqb, ne_eqb, eqb-true, ltb-true, ltb-false, le-leb, eqb, ltb, leb, length, drop, drop_of_length-le}
use Rattle.laws.proofs.Prelude.{all, both, left, not_left, either, nil_le, cons_lt, cons_rest}
use Rattle.styling.specs.Ascending.{strictly_ascends_from}
use Rattle.styling.proofs.Ascents.{ascends_head, ascends_tail, ascends_weaken}
use Rattle.kept_frames.specs.Stays.{Member, same_member, is_still, stays}
use Rattle.kept_count.specs.InnerKeeping.{is_next, met_by}

abbrev pub ids_of : List Member → List ℕ
ids_of ms = map (λ m. m.id) ms

abbrev pub Ascend : ℕ → List Member → Type 0
Ascend low ms = strictly_ascends_from low (ids_of ms) ≡ true

other : (m n : Member) → (m.id ≡ n.id → ⊥) → same_member m n ≡ false
other m n h = not_left (eqb m.id n.id) (eqb m.kind n.kind) (ne_eqb m.id n.id h)

-- none of a list above m is m
below : (m : Member) (ns : List Member) (low : ℕ) → Ascend low ns → m.id < low → is_still ns m ≡ false
below m [] low a h = refl
below m (n ∷ ns) low a h =
    let head = ascends_head low n.id (ids_of ns) a in
    ap (λ (b : Bool). b || is_still ns m) (other m n (λ e. omega (arith, h, head, e)))
    ∙ below m ns (suc n.id) (ascends_tail low n.id (ids_of ns) a) (omega (arith, h, head))

-- and n has no part in what is said of a list above it
above : (ms ns : List Member) (n : Member) (low : ℕ) → Ascend low ms → n.id < low → all (is_still (n ∷ ns)) ms ≡ all (is_still ns) ms
above [] ns n low a h = refl
above (m ∷ ms) ns n low a h =
    let head = ascends_head low m.id (ids_of ms) a in
    ap (λ (b : Bool). (b || is_still ns m) && all (is_still (n ∷ ns)) ms) (other m n (λ e. omega (arith, h, head, e)))
    ∙ ap (λ (b : Bool). is_still ns m && b) (above ms ns n (suc m.id) (ascends_tail low m.id (ids_of ms) a) (omega (arith, h, head)))

-- a list ascends from its first id on
at_head : (m : Member) (ms : List Member) (low : ℕ) → Ascend low (m ∷ ms) → Ascend m.id (m ∷ ms)
unfolding strictly_ascends_from
at_head m ms low a = both (leb m.id m.id) (strictly_ascends_from (suc m.id) (ids_of ms)) (le-leb m.id m.id (omega arith)) (ascends_tail low m.id (ids_of ms) a)

module _ (m n : Member) (ms ns : List Member) (low low' : ℕ) (a : Ascend low (m ∷ ms)) (b : Ascend low' (n ∷ ns)) where
  found : same_member m n ≡ true → stays ms ns ≡ stays (m ∷ ms) (n ∷ ns)
  found e =
      let same = eqb-true m.id n.id (left (eqb m.id n.id) (eqb m.kind n.kind) e) in
      sym (ap (λ (t : Bool). (t || is_still ns m) && all (is_still (n ∷ ns)) ms) e
      ∙ above ms ns n (suc m.id) (ascends_tail low m.id (ids_of ms) a) (omega (arith, same)))

  passed : same_member m n ≡ false → stays (m ∷ ms) ns ≡ stays (m ∷ ms) (n ∷ ns)
  passed e =
      ⊎_elim
      (λ l. sym (above (m ∷ ms) ns n m.id (at_head m ms low a) (ltb-true n.id m.id l)))
      (λ l.
      let gone = below m ns (suc n.id) (ascends_tail low' n.id (ids_of ns) b) (omega (arith, ltb-false n.id m.id l)) in
      ap (λ (t : Bool). t && all (is_still ns) ms) gone
      ∙ sym (ap (λ (t : Bool). (t || is_still ns m) && all (is_still (n ∷ ns)) ms) e ∙ ap (λ (t : Bool). t && all (is_still (n ∷ ns)) ms) gone))
      (either (ltb n.id m.id))

-- ---- the walk

ascend_drop : (ms : List Member) (k low : ℕ) → Ascend low ms → Ascend low (drop k ms)
ascend_drop ms zero low a = a
ascend_drop [] (suc k) low a = a
ascend_drop (m ∷ ms) (suc k) low a =
    ascend_drop ms k low (ascends_weaken (suc m.id) low (ids_of ms) (omega (arith, ascends_head low m.id (ids_of ms) a)) (ascends_tail low m.id (ids_of ms) a))

pub record Walking (ms ns : List Member) (met i : ℕ) : Type 0 where
  pub within : met ≤ length ms
  pub rest : stays (drop met ms) (drop i ns) ≡ stays ms ns

pub start : (ms ns : List Member) → Walking ms ns 0 0
start ms ns = record { within = omega arith; rest = refl }

module _ (ms ns : List Member) (a : Ascend 0 ms) (b : Ascend 0 ns) where
  -- one layer of today's list
  step : (met : ℕ) (n : Member) (rest : List Member) → Ascend 0 (n ∷ rest) → met ≤ length ms → (left : List Member) → drop met ms ≡ left
      → (cond (is_next left n) (met + 1) met ≤ length ms) × (stays (drop (cond (is_next left n) (met + 1) met) ms) rest ≡ stays (drop met ms) (n ∷ rest))
  step met n rest up h [] e = (h, ap (λ (l : List Member). stays l rest) e ∙ sym (ap (λ (l : List Member). stays l (n ∷ rest)) e))
  step met n rest up h (m ∷ more) e = by (same_member m n) refl
    where
      asc : Ascend 0 (m ∷ more)
      asc = ap (λ (l : List Member). strictly_ascends_from 0 (ids_of l)) (sym e) ∙ ascend_drop ms met 0 a

      by : (t : Bool) → same_member m n ≡ t → (cond t (met + 1) met ≤ length ms) × (stays (drop (cond t (met + 1) met) ms) rest ≡ stays (drop met ms) (n ∷ rest))
      by true s = (
        omega (arith, cons_lt ms met e),
        ap (λ (l : List Member). stays l rest) (cons_rest ms met e) ∙ found m n more rest 0 0 asc up s ∙ sym (ap (λ (l : List Member). stays l (n ∷ rest)) e),
      )
      by false s =
          (h, ap (λ (l : List Member). stays l rest) e ∙ passed m n more rest 0 0 asc up s ∙ sym (ap (λ (l : List Member). stays l (n ∷ rest)) e))

  pub next : {met i : ℕ} → Walking ms ns met i → (n : Member) → drop i ns ≡ n ∷ drop (suc i) ns → Walking ms ns (met_by ms met n) (i + 1)
  next {met} {i} w n e =
      let up : Ascend 0 (n ∷ drop (suc i) ns) = ap (λ (l : List Member). strictly_ascends_from 0 (ids_of l)) (sym e) ∙ ascend_drop ns i 0 b in
      let (inside, same) = step met n (drop (suc i) ns) up w.within (drop met ms) refl in
      record {
        within = inside;
        rest = rw (add-one i) (same ∙ sym (ap (stays (drop met ms)) e) ∙ w.rest);
      }

-- at its end, all are met or one is not
none_left : (ms : List Member) (met : ℕ) → met ≤ length ms → (left : List Member) → drop met ms ≡ left → eqb met (length ms) ≡ stays left []
none_left ms met h [] e = eq-eqb met (length ms) (omega (arith, h, nil_le ms met e))
none_left ms met h (m ∷ more) e = ne_eqb met (length ms) (λ q. omega (arith, q, cons_lt ms met e))

pub end : {ms ns : List Member} {met i : ℕ} → Walking ms ns met i → length ns ≤ i → eqb met (length ms) ≡ stays ms ns
end {ms} {ns} {met} {i} w h = none_left ms met w.within (drop met ms) refl ∙ ap (stays (drop met ms)) (sym (drop_of_length-le ns h)) ∙ w.rest
