-- The first pass: a kept tile, by its two tests. Assumes nothing.
use Rattle.std.specs.Prelude.{◌≡◌, ◌&&◌, Option, Some}
use Rattle.laws.proofs.Prelude.{refl, sym, Bool, true, false, false≢true, List, ℕ, eqb, length}
use Rattle.pass_statements.specs.declared.item.Item.{Item}
use Rattle.pass_statements.specs.Unchanged.{all_unchanged, is_kept}

passed : (a b t : Bool) → (a && b) ≡ true → t ≡ (a && (b && t))
passed true true t e = refl
passed true false t e = absurd (false≢true e)
passed false b t e = absurd (false≢true e)

failed : (a b t : Bool) → (a && b) ≡ false → false ≡ (a && (b && t))
failed true true t e = absurd (false≢true (sym e))
failed true false t e = refl
failed false b t e = refl

module _ {previous : Option ℕ} {k n : ℕ} (unchanged : Bool) (items : List Item) (is : previous ≡ Some k) (long : length items ≡ n) where
  pub kept_all : {t : Bool} → (unchanged && eqb k n) ≡ true → t ≡ all_unchanged items → t ≡ is_kept unchanged previous items
  kept_all e p = rw (is, long, p) (passed unchanged (eqb k n) (all_unchanged items) e)

  pub kept_not : (unchanged && eqb k n) ≡ false → false ≡ is_kept unchanged previous items
  kept_not e = rw (is, long) (failed unchanged (eqb k n) (all_unchanged items) e)
