-- Laws of wrapped numbers, over half the number of values that a width has. Assumes nothing.
use Rattle.std.specs.Prelude.{◌≡◌, ◌+◌, ◌*◌, ◌^◌, ◌≤◌, ◌<◌, ◌+ℤ◌, ◌-ℤ◌}
use Rattle.std.specs.Int.{int_wrap, int_wrapping_add}
use Rattle.std.proofs.lemmas.Int.{int_wrap-add_right, int_wrap_fits, wrapping_add_is}
use Rattle.laws.proofs.Prelude.{refl, sym, ap, ◌∙◌, ℕ, arith, ℤ, pos, nat_abs, sub_ℕ, w8, w16, SFits, ⊎_elim, le_or_lt}
use Rattle.laws.proofs.Prelude.{plus, minus, modℤ, within, sfits, small, unique, whole, equal, added, taken, difference}
use mir.Syntax.{Width}
use mir.Val.{hbits}
use Rattle.segment_set_statements.specs.Effect.{wrap}

-- z brought into -h to h - 1
abbrev pub wrap_by : ℕ → ℤ → ℤ
wrap_by h z = sub_ℕ (modℤ (h + h) (z +ℤ pos h)) h

-- a number of the range that differs from z by turns is what is left of z
wrap_to : (h : ℕ) (z y : ℤ) (up down : ℕ) → plus y < h → minus y ≤ h → plus z + minus y + up * (h + h) ≡ minus z + plus y + down * (h + h) → wrap_by h z ≡ y
wrap_to h z y up down a b e =
    let s = added z (pos h) in
    let t = added y (pos h) in
    let m : modℤ (h + h) (z +ℤ pos h) ≡ plus (y +ℤ pos h) = unique (h + h) (z +ℤ pos h) up down (omega (arith, s, t)) (omega (arith, t)) in
    ap (λ (n : ℕ). sub_ℕ n h) m ∙ equal (sub_ℕ (plus (y +ℤ pos h)) h) y (omega (arith, t, difference (plus (y +ℤ pos h)) h))

-- a number that is there stays
wrap_kept : (h : ℕ) (z : ℤ) → plus z < h → minus z ≤ h → wrap_by h z ≡ z
wrap_kept h z a b = wrap_to h z z 0 0 a b (omega arith)

pub wrap_16 : (z : ℤ) → nat_abs z < 32768 → wrap 16 z ≡ z
unfolding wrap
wrap_16 z h = wrap_kept 32768 z (omega (arith, whole z)) (omega (arith, whole z))

pub wrap_8 : (z : ℤ) → nat_abs z < 128 → wrap 8 z ≡ z
unfolding wrap
wrap_8 z h = wrap_kept 128 z (omega (arith, whole z)) (omega (arith, whole z))

-- ---- how the library wraps

module _ (w : Width) (h : ℕ) (half : 2 ^ hbits w ≡ h) (turn : int_wrap w (pos (h + h)) ≡ pos 0) where
  -- a number raised by all values of the width wraps as it does
  raised : (z : ℤ) → int_wrap w (z +ℤ pos (h + h)) ≡ int_wrap w z
  raised z =
      sym (int_wrap-add_right w z (pos (h + h)))
      ∙ ap (λ (t : ℤ). int_wrap w (z +ℤ t)) turn
      ∙ ap (int_wrap w) (equal (z +ℤ pos 0) z (omega (arith, added z (pos 0))))

  fits : (y : ℤ) → plus y < h → minus y ≤ h → SFits w y
  fits y a b = sfits w y (record { above = omega arith; below = omega arith })

  -- within twice the range
  wrap_is : (z : ℤ) → plus z < h + h → minus z ≤ h + h → int_wrap w z ≡ wrap_by h z
  wrap_is z a b =
      ⊎_elim
      (λ (p : h ≤ plus z).
      let y = z -ℤ pos (h + h) in
      let t = taken z (pos (h + h)) in
      let e : z ≡ y +ℤ pos (h + h) = equal z (y +ℤ pos (h + h)) (omega (arith, t, added y (pos (h + h)))) in
      ap (int_wrap w) e ∙ raised y ∙ int_wrap_fits w y (fits y (omega (arith, t)) (omega (arith, t)))
      ∙ sym (wrap_to h z y 0 1 (omega (arith, t)) (omega (arith, t)) (omega (arith, t))))
      (λ (p : plus z < h).
      ⊎_elim
      (λ (q : minus z ≤ h). int_wrap_fits w z (fits z p q) ∙ sym (wrap_kept h z p q))
      (λ (q : h < minus z).
      let y = z +ℤ pos (h + h) in
      let t = added z (pos (h + h)) in
      sym (raised z) ∙ int_wrap_fits w y (fits y (omega (arith, t)) (omega (arith, t)))
      ∙ sym (wrap_to h z y 1 0 (omega (arith, t)) (omega (arith, t)) (omega (arith, t))))
      (le_or_lt (minus z) h))
      (le_or_lt h (plus z))

turn_16 : int_wrap w16 (pos 65536) ≡ pos 0
unfolding int_wrap
turn_16 = refl

turn_8 : int_wrap w8 (pos 256) ≡ pos 0
unfolding int_wrap
turn_8 = refl

-- the sum of two numbers of a width
pub wrapped_16 : (a b : ℤ) → SFits w16 a → SFits w16 b → int_wrapping_add w16 a b ≡ wrap 16 (a +ℤ b)
unfolding wrap
wrapped_16 a b f g =
    let s = added a b in
    let x = within w16 a f in
    let y = within w16 b g in
    wrapping_add_is w16 a b f g ∙ wrap_is w16 32768 refl turn_16 (a +ℤ b) (omega (arith, s, x, y)) (omega (arith, s, x, y))

pub wrapped_8 : (a b : ℤ) → SFits w8 a → SFits w8 b → int_wrapping_add w8 a b ≡ wrap 8 (a +ℤ b)
unfolding wrap
wrapped_8 a b f g =
    let s = added a b in
    let x = within w8 a f in
    let y = within w8 b g in
    wrapping_add_is w8 a b f g ∙ wrap_is w8 128 refl turn_8 (a +ℤ b) (omega (arith, s, x, y)) (omega (arith, s, x, y))

-- ---- the opposite, as the code takes it

pub opposite_fits : (w : Width) (z : ℤ) → nat_abs z < 2 ^ hbits w → SFits w (pos 0 -ℤ z)
opposite_fits w z h = small w (pos 0 -ℤ z) (omega (arith, taken (pos 0) z))
