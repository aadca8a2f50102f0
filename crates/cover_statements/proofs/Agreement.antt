-- Covers that agree by a rule: sums of them agree, they are empty or full together, and an empty one agrees with 0. Assumes nothing.
use Rattle.std.specs.Prelude.{◌≡◌, ◌+ℤ◌}
use Rattle.laws.proofs.Prelude.{refl, sym, ap, ◌∙◌, true, ℕ, arith, eqb-true, eqb, lit<, ℤ, pos, nat_abs, whole, equal, modℤ}
use Rattle.laws.proofs.Mod.{agree_add}
use Rattle.styling.specs.declared.FillRule.{FillRule}
use Rattle.styling.specs.declared.FillRule.TheVariants.{NonZero, EvenOdd}
use Rattle.cover_statements.specs.Cover.{empty_at, full_at, Agrees}

pub agrees_refl : (rule : FillRule) (a : ℤ) → Agrees rule a a
agrees_refl NonZero a = refl
agrees_refl EvenOdd a = refl

pub agrees_sym : (rule : FillRule) (a b : ℤ) → Agrees rule a b → Agrees rule b a
agrees_sym NonZero a b h = sym h
agrees_sym EvenOdd a b h = sym h

pub agrees_trans : (rule : FillRule) (a b c : ℤ) → Agrees rule a b → Agrees rule b c → Agrees rule a c
agrees_trans NonZero a b c h k = h ∙ k
agrees_trans EvenOdd a b c h k = h ∙ k

pub agrees_add : (rule : FillRule) (a b x : ℤ) → Agrees rule a b → Agrees rule (a +ℤ x) (b +ℤ x)
agrees_add NonZero a b x h = ap (λ (z : ℤ). z +ℤ x) h
agrees_add EvenOdd a b x h = agree_add 32 a b x x (lit< tt) h refl

pub agrees_empty : (rule : FillRule) (a b : ℤ) → Agrees rule a b → empty_at rule a ≡ empty_at rule b
agrees_empty NonZero a b h = ap (empty_at NonZero) h
agrees_empty EvenOdd a b h = ap (λ (m : ℕ). eqb m 0) h

pub agrees_full : (rule : FillRule) (a b : ℤ) → Agrees rule a b → full_at rule a ≡ full_at rule b
agrees_full NonZero a b h = ap (full_at NonZero) h
agrees_full EvenOdd a b h = ap (λ (m : ℕ). eqb m 16) h

-- a dropped carry counts as zeros
pub empty_agrees : (rule : FillRule) (a : ℤ) → empty_at rule a ≡ true → Agrees rule (pos 0) a
empty_agrees NonZero a h =
    let z = eqb-true (nat_abs a) 0 h in
    equal (pos 0) a (omega (arith, whole a))
empty_agrees EvenOdd a h = sym (eqb-true (modℤ 32 a) 0 h)
