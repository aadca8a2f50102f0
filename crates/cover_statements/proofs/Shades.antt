-- A column's double areas become its doubled areas, one pixel row after another, over any height. Assumes nothing.
use Rattle.std.specs.Prelude.{◌≡◌, ◌&&◌, ◌+◌, ◌*◌, ◌/◌, ◌%◌, ◌<◌, ◌+ℤ◌, ◌*ℤ◌}
use Rattle.laws.proofs.Prelude.{refl, sym, ap, ap₂, ◌∙◌, Bool, false, List, ⊎_elim, ℕ, div-add-mod', arith}
use Rattle.laws.proofs.Prelude.{eqb-true, ltb-true, eq-eqb, lt-ltb, le-ltb, digits_lt, digits_div, digits_mod, eqb, ltb, ℤ, pos, length}
use Rattle.laws.proofs.Prelude.{set, length-set, get_or-set_same, get_or-set_other, both, left, right, same, not_right, eq_or_ne}
use native.Mathlib.Nat.{le_refl}
use Rattle.cover_statements.specs.InnerCell.{Shaded}
use Rattle.cover_statements.specs.Cover.{cover_at}
use Rattle.cover_statements.proofs.Areas.{below_next}

-- pixel k has been shaded once the first rows of the column are
abbrev is_shaded : ℕ → ℕ → ℕ → ℕ → Bool
is_shaded n column rows k = eqb (k / n) column && ltb (k % n) rows

-- with one row more that is pixel column × n + row besides
shaded_other : (n column y k : ℕ) → (k ≡ column * n + y → ⊥) → is_shaded n column (y + 1) k ≡ is_shaded n column y k
shaded_other n column y k d =
    same (is_shaded n column (y + 1) k) (is_shaded n column y k)
    (λ e.
    let q = eqb-true (k / n) column (left (eqb (k / n) column) (ltb (k % n) (y + 1)) e) in
    let r = ltb-true (k % n) (y + 1) (right (eqb (k / n) column) (ltb (k % n) (y + 1)) e) in
    both (eqb (k / n) column) (ltb (k % n) y) (eq-eqb (k / n) column q) (lt-ltb (k % n) y (below (k % n) q r refl)))
    (λ e.
    let q = eqb-true (k / n) column (left (eqb (k / n) column) (ltb (k % n) y) e) in
    let r = ltb-true (k % n) y (right (eqb (k / n) column) (ltb (k % n) y) e) in
    both (eqb (k / n) column) (ltb (k % n) (y + 1)) (eq-eqb (k / n) column q) (lt-ltb (k % n) (y + 1) (omega arith)))
  where
    below : (m : ℕ) → k / n ≡ column → m < y + 1 → m ≡ k % n → m < y
    below m q r e =
        ⊎_elim
        (λ (s : m ≡ y). absurd (d (sym (div-add-mod' k n) ∙ ap₂ (λ (a b : ℕ). a * n + b) q (sym e ∙ s))))
        (λ (s : m ≡ y → ⊥). omega arith)
        (eq_or_ne m y)

module _ {n column : ℕ} {areas₀ covers sums : List ℤ} where
  pub shade_start : length areas₀ ≡ 16 * n → length sums ≡ n → Shaded n column 0 areas₀ covers sums areas₀ sums
  shade_start e h =
      record {
        long = e;
        area = λ k p. rw (le-ltb (k % n) 0 (omega arith), not_right (eqb (k / n) column) false refl);
        sums_long = h;
        sum = λ y p. rw (le-ltb y 0 (omega arith));
      }

  module _ {y : ℕ} {areas next : List ℤ} (c : Shaded n column y areas₀ covers sums areas next) (low : column < 16) (h : y < n) where
    -- row y is still as it was
    pub shade_area : cover_at areas (column * n + y) ≡ cover_at areas₀ (column * n + y)
    shade_area =
        let k = column * n + y in
        c.area k (digits_lt low h) ∙ rw (le-ltb (k % n) y (rw (digits_mod column h) (le_refl y)), not_right (eqb (k / n) column) false refl)

    -- row y, shaded
    pub shade_next : {k : ℕ} {v u : ℤ} → k ≡ column * n + y → v ≡ pos 32 *ℤ cover_at sums y +ℤ cover_at areas k → u ≡ cover_at sums y +ℤ cover_at covers k
        → Shaded n column (y + 1) areas₀ covers sums (set areas k v) (set next y u)
    shade_next {k} {v} {u} p ev eu =
        record {
          long = length-set areas k v ∙ c.long;
          area =
              λ j q.
              ⊎_elim
              (λ (s : j ≡ k).
              let d : j / n ≡ column = ap (λ (i : ℕ). i / n) (s ∙ p) ∙ digits_div column h in
              let m : j % n ≡ y = ap (λ (i : ℕ). i % n) (s ∙ p) ∙ digits_mod column h in
              rw (
                eq-eqb (j / n) column d,
                m,
                lt-ltb y (y + 1) (omega arith),
                s,
                get_or-set_same areas k v (pos 0) (rw (c.long, p) (digits_lt low h)),
                ev,
                p,
                shade_area,
              ))
              (λ (s : j ≡ k → ⊥).
              rw (get_or-set_other areas k j v (pos 0) s, shaded_other n column y j (λ t. s (t ∙ sym p))) (c.area j q))
              (eq_or_ne j k);
          sums_long = length-set next y u ∙ c.sums_long;
          sum =
              λ r q.
              ⊎_elim
              (λ (s : r ≡ y).
              rw (s, lt-ltb y (y + 1) (omega arith), get_or-set_same next y u (pos 0) (omega (arith, c.sums_long)), eu, p))
              (λ (s : r ≡ y → ⊥).
              rw (get_or-set_other next y r u (pos 0) s, below_next r y s) (c.sum r q))
              (eq_or_ne r y);
        }
