-- A test of two floats that they are the same data, for tests that antt computes: IEEE 754's == would not tell the two zeros apart.
-- Assumes nothing.
use Rattle.std.specs.Prelude.{◌≡◌, ◌&&◌}
use Rattle.laws.proofs.Prelude.{refl, ap, Bool, true, false, Bool·beq, false≢true, eqb-true, eqb, Float, nan, inf, fin, ℤ, pos, negsuc}
use Rattle.laws.proofs.Prelude.{left, right}

abbrev same_int : ℤ → ℤ → Bool
same_int (pos m) (pos n) = eqb m n
same_int (pos m) (negsuc n) = false
same_int (negsuc m) (pos n) = false
same_int (negsuc m) (negsuc n) = eqb m n

int_is : (a b : ℤ) → same_int a b ≡ true → a ≡ b
int_is (pos m) (pos n) t = ap pos (eqb-true m n t)
int_is (pos m) (negsuc n) t = absurd (false≢true t)
int_is (negsuc m) (pos n) t = absurd (false≢true t)
int_is (negsuc m) (negsuc n) t = ap negsuc (eqb-true m n t)

pub bool_is : (a b : Bool) → Bool·beq a b ≡ true → a ≡ b
bool_is true true t = refl
bool_is true false t = absurd (false≢true t)
bool_is false true t = absurd (false≢true t)
bool_is false false t = refl

abbrev pub same_float : Float → Float → Bool
same_float nan nan = true
same_float nan (inf t) = false
same_float nan (fin t n d) = false
same_float (inf s) nan = false
same_float (inf s) (inf t) = Bool·beq s t
same_float (inf s) (fin t n d) = false
same_float (fin s m e) nan = false
same_float (fin s m e) (inf t) = false
same_float (fin s m e) (fin t n d) = Bool·beq s t && (eqb m n && same_int e d)

pub float_is : (x y : Float) → same_float x y ≡ true → x ≡ y
float_is nan nan t = refl
float_is nan (inf s) t = absurd (false≢true t)
float_is nan (fin s m e) t = absurd (false≢true t)
float_is (inf s) nan t = absurd (false≢true t)
float_is (inf s) (inf u) t = ap inf (bool_is s u t)
float_is (inf s) (fin u m e) t = absurd (false≢true t)
float_is (fin s m e) nan t = absurd (false≢true t)
float_is (fin s m e) (inf u) t = absurd (false≢true t)
float_is (fin s m e) (fin u n d) t =
    let p = bool_is s u (left (Bool·beq s u) (eqb m n && same_int e d) t) in
    let r = right (Bool·beq s u) (eqb m n && same_int e d) t in
    let q = eqb-true m n (left (eqb m n) (same_int e d) r) in
    let z = int_is e d (right (eqb m n) (same_int e d) r) in
    cc
