-- Cases of the scope on colours, as theorems over the definitions: NaN equals nothing, both zeros agree, and how 1 is stored. Assumes
-- nothing.
use Rattle.std.specs.Prelude.{◌≡◌, ◌&&◌, ◌⊎◌}
use Rattle.laws.proofs.Prelude.{refl, true, false, ⊎_elim, Float, nan, inf, fin, eq, of_bits, of_int, binary32, pos, not_left}
use Rattle.laws.proofs.Prelude.{not_right}
use Rattle.styling.specs.declared.Color.{Color}
use Rattle.styling.specs.Color.{same_color}

-- on either side
pub nan_equals : (x y : Float) → (x ≡ nan) ⊎ (y ≡ nan) → eq x y ≡ false
unfolding eq
nan_equals x y h = ⊎_elim (λ e. rw e refl) (λ e. rw e (right x)) h
  where
    right : (x : Float) → eq x nan ≡ false
    right nan = refl
    right (inf s) = refl
    right (fin s m e) = refl

-- in whichever field it stands
module _ (c d : Color) where
  pub nan_red : (c.r ≡ nan) ⊎ (d.r ≡ nan) → same_color c d ≡ false
  nan_red h = rw (nan_equals c.r d.r h) refl

  pub nan_green : (c.g ≡ nan) ⊎ (d.g ≡ nan) → same_color c d ≡ false
  nan_green h = rw (nan_equals c.g d.g h) (not_left _ (eq c.a d.a) (not_left _ (eq c.b d.b) (not_right (eq c.r d.r) false refl)))

  pub nan_blue : (c.b ≡ nan) ⊎ (d.b ≡ nan) → same_color c d ≡ false
  nan_blue h = rw (nan_equals c.b d.b h) (not_left _ (eq c.a d.a) (not_right (eq c.r d.r && eq c.g d.g) false refl))

  pub nan_alpha : (c.a ≡ nan) ⊎ (d.a ≡ nan) → same_color c d ≡ false
  nan_alpha h = rw (nan_equals c.a d.a h) (not_right (eq c.r d.r && eq c.g d.g && eq c.b d.b) false refl)

-- 0 and -0, by their bit patterns
pub zeros_agree : eq (of_bits binary32 0) (of_bits binary32 0x80000000) ≡ true
unfolding eq of_bits
zeros_agree = refl

-- 0x3F800000 is 1
pub one_is : of_bits binary32 0x3F800000 ≡ of_int binary32 (pos 1)
unfolding of_bits of_int
one_is = refl
