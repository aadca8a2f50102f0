-- Laws of the doubled area, over any widths. Assumes nothing.
use Rattle.std.specs.Prelude.{◌≡◌, ◌&&◌, ◌∷◌, ◌+◌, ◌*◌, ◌^◌, ◌/◌, ◌≤◌, ◌<◌, ◌+ℤ◌, ◌*ℤ◌}
use Rattle.laws.proofs.Prelude.{refl, sym, ap, ◌∙◌, Bool, true, false, cond, List, [], ⊎_elim, ℕ}
use Rattle.laws.proofs.Prelude.{mul-le-mul_right, mod-lt, arith, ltb-true, eqb-true, eq-eqb, ne_eqb, lt-ltb, le-ltb, eqb, ltb, lit<, ℤ, pos, nat_abs}
use Rattle.laws.proofs.Prelude.{+ℤ_idl, +ℤ_idr, get_or, left, all_intro, le_or_lt, eq_or_ne, added, times, abs_times, abs_add, sumℤ}
use Rattle.laws.proofs.Sums.{sum_abs, sum_none, sumℕ_le, sumℤ_split}
use Rattle.pixel_segment.specs.Field.{local_x_of, cover_of, multiplier_of, double_area_of, width_of, shift_of}
use Rattle.cover_statements.specs.Area.{is_before, is_own, cover_before, own_area, doubled_area}
use Rattle.cover_statements.specs.Carry.{in_row, abs_cover, load_in}

-- ---- from one column to the next

pub and-false : (a : Bool) → (a && false) ≡ false
and-false true = refl
and-false false = refl

-- nothing lies left of column 0
pub before_none : (ws : List ℕ) (y : ℕ) (part : List ℕ) → cover_before ws 0 y part ≡ pos 0
before_none ws y part =
    sum_none ◌+ℤ◌ (pos 0) +ℤ_idl (is_before ws 0 y) (cover_of ws) part
    (all_intro (λ w. cond (is_before ws 0 y w) false true) part 0
    (λ i h. rw (le-ltb (local_x_of ws (get_or part i 0)) 0 (omega arith), and-false (in_row ws y (get_or part i 0)))))

-- below c + 1 is below c, or c
pub below_next : (x c : ℕ) → (x ≡ c → ⊥) → ltb x (c + 1) ≡ ltb x c
below_next x c n =
    ⊎_elim
    (λ (h : c ≤ x). le-ltb x (c + 1) (omega arith) ∙ sym (le-ltb x c h))
    (λ (h : x < c). lt-ltb x (c + 1) (omega arith) ∙ sym (lt-ltb x c h))
    (le_or_lt c x)

pub split : (a : Bool) (x c : ℕ) (z : ℤ) → cond (a && ltb x (c + 1)) z (pos 0) ≡ cond (a && ltb x c) z (pos 0) +ℤ cond (a && eqb x c) z (pos 0)
split a x c z =
    ⊎_elim
    (λ (q : x ≡ c).
    rw (lt-ltb x (c + 1) (omega arith), le-ltb x c (omega arith), eq-eqb x c q, and-false a)
    (sym (+ℤ_idl (cond (a && true) z (pos 0)))))
    (λ (q : x ≡ c → ⊥).
    rw (below_next x c q, ne_eqb x c q, and-false a)
    (sym (+ℤ_idr (cond (a && ltb x c) z (pos 0)))))
    (eq_or_ne x c)

-- what lies left of the next column lies left of this one or in it
pub before_next : (ws : List ℕ) (c y : ℕ) (part : List ℕ) → cover_before ws (c + 1) y part ≡ cover_before ws c y part +ℤ sumℤ (is_own ws c y) (cover_of ws) part
before_next ws c y part =
    sumℤ_split (is_before ws (c + 1) y) (is_before ws c y) (is_own ws c y) (cover_of ws) part
    (λ w. split (in_row ws y w) (local_x_of ws w) c (cover_of ws w))

-- ---- bounds

-- the covers left of a column are within the row's load
pub before_bound : (ws : List ℕ) (c y : ℕ) (part : List ℕ) → nat_abs (cover_before ws c y part) ≤ load_in ws y part
before_bound ws c y part =
    omega (
      arith,
      sum_abs (is_before ws c y) (cover_of ws) part,
      sumℕ_le (is_before ws c y) (in_row ws y) (abs_cover ws) part (λ w e. left (in_row ws y w) (ltb (local_x_of ws w) c) e),
    )

-- what one segment adds on the left and of its own, by its place: at most 63 times what it adds to the row's load
weighed : (a b e : Bool) (v s : ℤ) → nat_abs v ≤ 63 * nat_abs s → (b ≡ true → e ≡ true → ⊥)
    → nat_abs (cond (a && e) v (pos 0)) + 63 * nat_abs (cond (a && b) s (pos 0)) ≤ 63 * cond a (nat_abs s) 0
weighed true true true v s h x = absurd (x refl refl)
weighed true true false v s h x = omega arith
weighed true false true v s h x = omega arith
weighed true false false v s h x = omega arith
weighed false b e v s h x = omega arith

apart : (x c : ℕ) → ltb x c ≡ true → eqb x c ≡ true → ⊥
apart x c p q = omega (arith, ltb-true x c p, eqb-true x c q)

-- where the multiplier has six bits, a double area is at most 63 covers
module _ (ws : List ℕ) (six : width_of ws 5 ≡ 6) where
  pub area_weight : (w : ℕ) → nat_abs (double_area_of ws w) ≤ 63 * abs_cover ws w
  unfolding double_area_of
  area_weight w =
      let h : multiplier_of ws w < 2 ^ width_of ws 5 = mod-lt (w / 2 ^ shift_of ws 5) (rw six (lit< tt)) in
      let l : multiplier_of ws w ≤ 63 = omega (arith, ap (λ (k : ℕ). 2 ^ k) six) in
      rw abs_times (mul-le-mul_right (abs_cover ws w) l)

  -- own areas, and 63 times the covers on the left, are within 63 times the row's load
  pub pixel_bound : (c y : ℕ) (part : List ℕ) → nat_abs (own_area ws c y part) + 63 * nat_abs (cover_before ws c y part) ≤ 63 * load_in ws y part
  pixel_bound c y [] = omega arith
  pixel_bound c y (w ∷ part) =
      omega (
        arith,
        pixel_bound c y part,
        abs_add (cond (is_before ws c y w) (cover_of ws w) (pos 0)) (cover_before ws c y part),
        abs_add (cond (is_own ws c y w) (double_area_of ws w) (pos 0)) (own_area ws c y part),
        weighed (in_row ws y w) (ltb (local_x_of ws w) c) (eqb (local_x_of ws w) c) (double_area_of ws w) (cover_of ws w) (area_weight w) (apart (local_x_of ws w) c),
      )

  -- where number 9 does not apply, |d| is at most 8,001
  pub area_bound : (incoming : ℕ → ℤ) (part : List ℕ) (c y : ℕ) → nat_abs (incoming y) + load_in ws y part ≤ 127 → nat_abs (doubled_area ws incoming part c y) ≤ 8001
  unfolding doubled_area
  area_bound incoming part c y h =
      let s = incoming y +ℤ cover_before ws c y part in
      omega (
        arith,
        pixel_bound c y part,
        abs_add (incoming y) (cover_before ws c y part),
        times 32 s,
        added (pos 32 *ℤ s) (own_area ws c y part),
      )
