-- Laws of what one segment adds, over any widths: to d of a pixel, to the covers and to the load of a pixel row. Assumes nothing.
use Rattle.std.specs.Prelude.{◌≡◌, ◌&&◌, ◌∷◌, ◌+◌, ◌≤◌, ◌<◌, ◌+ℤ◌, ◌*ℤ◌}
use Rattle.laws.proofs.Prelude.{refl, Bool, true, false, cond, List, ⊎_elim, ℕ, arith, ltb-true, eqb-true, leb-true}
use Rattle.laws.proofs.Prelude.{leb-false, lt-ltb, le-ltb, eq-eqb, ne_eqb, eqb, leb, ltb, ℤ, pos, right, eq_or_ne, le_or_lt, equal, added}
use Rattle.laws.proofs.Prelude.{times}
use lib.IntN.{+ℤ_comm}
use Rattle.pixel_segment.specs.Field.{local_x_of, cover_of, double_area_of}
use Rattle.cover_statements.specs.Area.{is_before, is_own, cover_before, own_area, doubled_area}
use Rattle.cover_statements.specs.Carry.{in_row, abs_cover, cover_in, load_in}
use Rattle.segment_set_statements.specs.Effect.{effect_of, is_reached}

-- ---- where a segment adds something

-- in its own column its double area, and right of it 32 times its cover
split_reached : (r : Bool) (x c : ℕ) (own past : ℤ) → (r && leb x c) ≡ true → cond (r && eqb x c) own (cond (r && ltb x c) past (pos 0)) ≡ cond (eqb x c) own past
split_reached true x c own past e =
    ⊎_elim
    (λ (q : x ≡ c). rw (eq-eqb x c q))
    (λ (q : x ≡ c → ⊥).
    let l : x ≤ c = leb-true x c e in
    rw (ne_eqb x c q, lt-ltb x c (⊎_elim (λ (h : c ≤ x). absurd (q (omega arith))) (λ (h : x < c). h) (le_or_lt c x))))
    (eq_or_ne x c)
split_reached false x c own past e = absurd (let z : ◌≡◌ {A = ℕ} 0 1 = cc in omega arith)

pub effect_reached : (ws : List ℕ) (w c y : ℕ) → is_reached ws w c y ≡ true → effect_of ws w c y ≡ cond (eqb (local_x_of ws w) c) (double_area_of ws w) (pos 32 *ℤ cover_of ws w)
unfolding effect_of
effect_reached ws w c y e = split_reached (in_row ws y w) (local_x_of ws w) c (double_area_of ws w) (pos 32 *ℤ cover_of ws w) e

-- elsewhere nothing
split_missed : (r : Bool) (x c : ℕ) (own past : ℤ) → (r && leb x c) ≡ false → cond (r && eqb x c) own (cond (r && ltb x c) past (pos 0)) ≡ pos 0
split_missed true x c own past e =
    let l : c < x = leb-false x c e in
    rw (ne_eqb x c (λ q. omega arith), le-ltb x c (omega arith))
split_missed false x c own past e = refl

pub effect_missed : (ws : List ℕ) (w c y : ℕ) → is_reached ws w c y ≡ false → effect_of ws w c y ≡ pos 0
unfolding effect_of
effect_missed ws w c y e = split_missed (in_row ws y w) (local_x_of ws w) c (double_area_of ws w) (pos 32 *ℤ cover_of ws w) e

-- ---- one segment more

more : (before own : Bool) (a b o cover area : ℤ) → (before ≡ true → own ≡ true → ⊥)
    → pos 32 *ℤ (a +ℤ (cond before cover (pos 0) +ℤ b)) +ℤ (cond own area (pos 0) +ℤ o) ≡ pos 32 *ℤ (a +ℤ b) +ℤ o +ℤ cond own area (cond before (pos 32 *ℤ cover) (pos 0))
more true true a b o cover area apart = absurd (apart refl refl)
more true false a b o cover area apart =
    let s = cover +ℤ b in
    equal (pos 32 *ℤ (a +ℤ s) +ℤ (pos 0 +ℤ o)) (pos 32 *ℤ (a +ℤ b) +ℤ o +ℤ pos 32 *ℤ cover)
    (omega (arith, added cover b, added a s, times 32 (a +ℤ s), added (pos 0) o, added (pos 32 *ℤ (a +ℤ s)) (pos 0 +ℤ o), added a b, times 32 (a +ℤ b), times 32 cover, added (pos 32 *ℤ (a +ℤ b)) o, added (pos 32 *ℤ (a +ℤ b) +ℤ o) (pos 32 *ℤ cover)))
more false own a b o cover area apart =
    let s = pos 0 +ℤ b in
    let p = cond own area (pos 0) in
    equal (pos 32 *ℤ (a +ℤ s) +ℤ (p +ℤ o)) (pos 32 *ℤ (a +ℤ b) +ℤ o +ℤ p)
    (omega (arith, added (pos 0) b, added a s, times 32 (a +ℤ s), added p o, added (pos 32 *ℤ (a +ℤ s)) (p +ℤ o), added a b, times 32 (a +ℤ b), added (pos 32 *ℤ (a +ℤ b)) o, added (pos 32 *ℤ (a +ℤ b) +ℤ o) p))

module _ (ws : List ℕ) (w : ℕ) (part : List ℕ) where
  pub effect_more : (incoming : ℕ → ℤ) (c y : ℕ) → doubled_area ws incoming (w ∷ part) c y ≡ doubled_area ws incoming part c y +ℤ effect_of ws w c y
  unfolding doubled_area effect_of
  effect_more incoming c y =
      more (is_before ws c y w) (is_own ws c y w) (incoming y) (cover_before ws c y part) (own_area ws c y part) (cover_of ws w) (double_area_of ws w)
      (λ p q.
      omega (
        arith,
        ltb-true (local_x_of ws w) c (right (in_row ws y w) (ltb (local_x_of ws w) c) p),
        eqb-true (local_x_of ws w) c (right (in_row ws y w) (eqb (local_x_of ws w) c) q),
      ))

  pub cover_more : (y : ℕ) → cover_in ws y (w ∷ part) ≡ cover_in ws y part +ℤ cond (in_row ws y w) (cover_of ws w) (pos 0)
  cover_more y = +ℤ_comm (cond (in_row ws y w) (cover_of ws w) (pos 0)) (cover_in ws y part)

  pub load_more : (y : ℕ) → load_in ws y (w ∷ part) ≡ load_in ws y part + cond (in_row ws y w) (abs_cover ws w) 0
  load_more y = omega arith
