-- The loop that changes d in one pixel row, one column after another: the columns passed are changed, all else is as it was. Assumes nothing.
use Rattle.std.specs.Prelude.{◌≡◌, ◌&&◌, ◌+◌, ◌*◌, ◌/◌, ◌%◌, ◌≤◌, ◌<◌, ◌+ℤ◌, ◌*ℤ◌}
use Rattle.laws.proofs.Prelude.{refl, sym, ap, ap₂, ◌∙◌, Bool, true, false, cond, List, ⊎_elim, ℕ, arith}
use Rattle.laws.proofs.Prelude.{le-leb, lt-ltb, le-ltb, eq-eqb, ne_eqb, eqb, leb, ltb, ℤ, pos, length, set, length-set, ext_get_or}
use Rattle.laws.proofs.Prelude.{get_or-set_same, get_or-set_other, eq_or_ne, le_or_lt, length_tabulate, get_d_tabulate, length_over, tabulate, over}
use Rattle.pixel_segment.specs.Field.{local_x_of, local_y_of, cover_of, double_area_of}
use Rattle.cover_statements.specs.Cover.{cover_at}
use Rattle.cover_statements.proofs.Areas.{and-false, below_next}
use Rattle.cover_statements.proofs.Testing.{and-true}
use Rattle.segment_set_statements.specs.Effect.{wrap, effect_of, is_reached, areas_after}
use Rattle.segment_set_statements.specs.InnerSpread.{spread_by}
use Rattle.segment_set_statements.proofs.Effects.{effect_reached}
use Rattle.segment_set_statements.proofs.Lists.{tabulate_ext, over_front, over_back}

-- a pixel of row y from column x on, and its d changed
abbrev is_in : ℕ → ℕ → ℕ → Bool
is_in x y k = eqb y (k % 16) && leb x (k / 16)

abbrev changed : ℕ → ℤ → ℤ → List ℤ → ℕ → ℤ
changed x own past old k = wrap 16 (cover_at old k +ℤ cond (eqb x (k / 16)) own past)

pub record Spreading (x y : ℕ) (own past : ℤ) (old : List ℤ) (column : ℕ) (areas : List ℤ) : Type 0 where
  pub from : x ≤ column
  pub reached : column ≤ 16
  pub low : y < 16
  pub room : 256 ≤ length old
  pub long : length areas ≡ length old
  pub at : (k : ℕ) → cover_at areas k ≡ cond (is_in x y k && ltb (k / 16) column) (changed x own past old k) (cover_at old k)

module _ {x y : ℕ} {own past : ℤ} {old : List ℤ} where
  -- one column more: its own amount in the first, the other right of it
  module _ {column : ℕ} {areas : List ℤ} (s : Spreading x y own past old column areas) (h : column < 16) where
    here : cover_at areas (column * 16 + y) ≡ cover_at old (column * 16 + y)
    here =
        let k = column * 16 + y in
        let l = s.low in
        let d : k / 16 ≡ column = omega arith in
        s.at k ∙ rw (le-ltb (k / 16) column (omega arith), and-false (is_in x y k))

    same_test : (k : ℕ) → (k ≡ column * 16 + y → ⊥) → (is_in x y k && ltb (k / 16) (column + 1)) ≡ (is_in x y k && ltb (k / 16) column)
    same_test k n =
        ⊎_elim
        (λ (q : k / 16 ≡ column).
        rw (ne_eqb y (k % 16) (λ e. n (omega arith))))
        (λ (q : k / 16 ≡ column → ⊥). rw (below_next (k / 16) column q))
        (eq_or_ne (k / 16) column)

    pub spread_next : {v : ℤ} → v ≡ wrap 16 (cover_at areas (column * 16 + y) +ℤ cond (eqb x column) own past) → Spreading x y own past old (column + 1) (set areas (column * 16 + y) v)
    spread_next {v} e =
        let p = column * 16 + y in
        let l = s.low in
        let f = s.from in
        let inside : p < length areas = omega (arith, s.long, s.room) in
        record {
          from = omega arith;
          reached = omega arith;
          low = l;
          room = s.room;
          long = length-set areas p v ∙ s.long;
          at =
              λ k.
              ⊎_elim
              (λ (q : k ≡ p).
              let d : k / 16 ≡ column = omega arith in
              let m : y ≡ k % 16 = omega arith in
              rw (eq-eqb y (k % 16) m, le-leb x (k / 16) (omega arith), lt-ltb (k / 16) (column + 1) (omega arith))
              (ap (λ (n : ℕ). cover_at (set areas p v) n) q
              ∙ get_or-set_same areas p v (pos 0) inside
              ∙ e
              ∙ ap₂ (λ (z : ℤ) (n : ℕ). wrap 16 (z +ℤ cond (eqb x n) own past)) (here ∙ ap (cover_at old) (sym q)) (sym d)))
              (λ (q : k ≡ p → ⊥).
              get_or-set_other areas p k v (pos 0) q
              ∙ s.at k
              ∙ ap (λ (t : Bool). cond t (changed x own past old k) (cover_at old k)) (sym (same_test k q)))
              (eq_or_ne k p);
        }

  pub spread_end : {column : ℕ} {areas : List ℤ} → Spreading x y own past old column areas → 16 ≤ column → areas ≡ spread_by 16 x y own past old
  unfolding spread_by
  spread_end {column} {areas} s h =
      let f : ℕ → ℤ = λ k. cond (is_in x y k) (changed x own past old k) (cover_at old k) in
      let long = length_tabulate 256 f in
      ext_get_or (pos 0) areas (over (tabulate 256 f) old) (s.long ∙ sym (length_over old (tabulate 256 f) (omega (arith, long, s.room))))
      (λ k l.
      ⊎_elim
      (λ (q : 256 ≤ k).
      s.at k
      ∙ rw (le-ltb (k / 16) column (omega (arith, s.reached)), and-false (is_in x y k)) (sym (over_back (tabulate 256 f) old (pos 0) k (omega (arith, long)))))
      (λ (q : k < 256).
      s.at k
      ∙ rw (lt-ltb (k / 16) column (omega arith), and-true (is_in x y k)) refl
      ∙ sym (get_d_tabulate 256 f (pos 0) k q)
      ∙ sym (over_front (tabulate 256 f) old (pos 0) k (omega (arith, long))))
      (le_or_lt 256 k))

-- ---- the amounts of a segment, or their opposites

pub spread_is : (sign : ℤ → ℤ) (ws : List ℕ) (n w : ℕ) (areas : List ℤ)
    → spread_by n (local_x_of ws w) (local_y_of ws w) (sign (double_area_of ws w)) (sign (pos 32 *ℤ cover_of ws w)) areas ≡ areas_after (λ a b. a +ℤ sign b) ws n w areas
unfolding spread_by areas_after
spread_is sign ws n w areas =
    ap (λ (l : List ℤ). over l areas)
    (tabulate_ext (16 * n) _ _
    (λ k h. by (is_reached ws w (k / n) (k % n)) (k / n) (k % n) refl (cover_at areas k)))
  where
    out : (t : Bool) (a b : ℤ) → cond t (sign a) (sign b) ≡ sign (cond t a b)
    out true a b = refl
    out false a b = refl

    by : (t : Bool) (c y : ℕ) → is_reached ws w c y ≡ t → (d : ℤ)
        → cond t (wrap 16 (d +ℤ cond (eqb (local_x_of ws w) c) (sign (double_area_of ws w)) (sign (pos 32 *ℤ cover_of ws w)))) d ≡ cond t (wrap 16 (d +ℤ sign (effect_of ws w c y))) d
    by true c y e d =
        ap (λ (z : ℤ). wrap 16 (d +ℤ z))
        (out (eqb (local_x_of ws w) c) (double_area_of ws w) (pos 32 *ℤ cover_of ws w) ∙ ap sign (sym (effect_reached ws w c y e)))
    by false c y e d = refl
