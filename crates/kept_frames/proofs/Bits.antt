-- Colours of the same bits are the same, and the other way. Assumes nothing.
use Rattle.std.specs.Prelude.{◌≡◌, ◌&&◌}
use Rattle.laws.proofs.Prelude.{refl, sym, ap, ◌∙◌, Bool, true, false, Bool·beq, false≢true, eqb-true, eq-eqb, eqb, Float, nan, inf}
use Rattle.laws.proofs.Prelude.{fin, ℤ, pos, negsuc, both, left, right}
use Rattle.styling.specs.declared.Color.{Color}
use Rattle.kept_frames.specs.Alike.{same_int, same_float, same_bits}

pub same_bool : (a b : Bool) → Bool·beq a b ≡ true → a ≡ b
same_bool true true e = refl
same_bool true false e = sym e
same_bool false true e = e
same_bool false false e = refl

pub bool_self : (a : Bool) → Bool·beq a a ≡ true
bool_self true = refl
bool_self false = refl

same_int_lem : (a b : ℤ) → same_int a b ≡ true → a ≡ b
same_int_lem (pos m) (pos n) e = ap pos (eqb-true m n e)
same_int_lem (pos m) (negsuc n) e = absurd (false≢true e)
same_int_lem (negsuc m) (pos n) e = absurd (false≢true e)
same_int_lem (negsuc m) (negsuc n) e = ap negsuc (eqb-true m n e)

int_self : (a : ℤ) → same_int a a ≡ true
int_self (pos m) = eq-eqb m m refl
int_self (negsuc m) = eq-eqb m m refl

pub same_float_lem : (a b : Float) → same_float a b ≡ true → a ≡ b
same_float_lem nan nan e = refl
same_float_lem nan (inf t) e = absurd (false≢true e)
same_float_lem nan (fin t n f) e = absurd (false≢true e)
same_float_lem (inf s) nan e = absurd (false≢true e)
same_float_lem (inf s) (inf t) e = ap inf (same_bool s t e)
same_float_lem (inf s) (fin t n f) e = absurd (false≢true e)
same_float_lem (fin s m e) nan h = absurd (false≢true h)
same_float_lem (fin s m e) (inf t) h = absurd (false≢true h)
same_float_lem (fin s m e) (fin t n f) h =
    let sign = same_bool s t (left (Bool·beq s t) (eqb m n && same_int e f) h) in
    let rest = right (Bool·beq s t) (eqb m n && same_int e f) h in
    let digits = eqb-true m n (left (eqb m n) (same_int e f) rest) in
    let scale = same_int_lem e f (right (eqb m n) (same_int e f) rest) in
    λ i. fin (sign i) (digits i) (scale i)

float_self : (a : Float) → same_float a a ≡ true
float_self nan = refl
float_self (inf s) = bool_self s
float_self (fin s m e) = both (Bool·beq s s) (eqb m m && same_int e e) (bool_self s) (both (eqb m m) (same_int e e) (eq-eqb m m refl) (int_self e))

pub same_bits_lem : (c d : Color) → same_bits c d ≡ true → c ≡ d
same_bits_lem c d h =
    let red = same_float c.r d.r in
    let green = same_float c.g d.g in
    let blue = same_float c.b d.b in
    let alpha = same_float c.a d.a in
    let h1 = right red (green && (blue && alpha)) h in
    let h2 = right green (blue && alpha) h1 in
    let r = same_float_lem c.r d.r (left red (green && (blue && alpha)) h) in
    let g = same_float_lem c.g d.g (left green (blue && alpha) h1) in
    let b = same_float_lem c.b d.b (left blue alpha h2) in
    let a = same_float_lem c.a d.a (right blue alpha h2) in
    λ i. record { r = r i; g = g i; b = b i; a = a i }

bits_self : (c : Color) → same_bits c c ≡ true
bits_self c =
    let green = same_float c.g c.g in
    let blue = same_float c.b c.b in
    let alpha = same_float c.a c.a in
    both (same_float c.r c.r) (green && (blue && alpha)) (float_self c.r)
    (both green (blue && alpha) (float_self c.g) (both blue alpha (float_self c.b) (float_self c.a)))

pub bits_same : (c d : Color) → c ≡ d → same_bits c d ≡ true
bits_same c d e = ap (λ (x : Color). same_bits c x) (sym e) ∙ bits_self c
