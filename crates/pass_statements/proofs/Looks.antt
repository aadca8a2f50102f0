-- A look of the third pass at one layer: each answer, from the test that leads to it. Assumes nothing.
use Rattle.std.specs.Prelude.{◌≡◌, ◌&&◌, Option}
use Rattle.laws.proofs.Prelude.{Bool, true, false, ℕ}
use Rattle.styling.specs.declared.Color.{Color}
use Rattle.styling.specs.Style.{is_opaque, solid_color}
use Rattle.pass_statements.specs.declared.Index.{Index}
use Rattle.pass_statements.specs.declared.item.Item.{Item}
use Rattle.pass_statements.specs.declared.covered.InterestingCover.{InterestingCover}
use Rattle.pass_statements.specs.declared.covered.InterestingCover.TheVariants.{Absent, Incomplete}
use Rattle.pass_statements.specs.declared.covered.Covered.{Covered}
use Rattle.pass_statements.specs.Covered.{first_of, opaque_of, is_partial, hides, tells, skip_to, look_at}

module _ (x : Item) (unclipped : Bool) where
  pub tells_partial : {p : Bool} → p ≡ is_partial x unclipped → p ≡ true → Incomplete ≡ tells x unclipped
  tells_partial e h = rw (← e, h)

  pub tells_opaque : {p o : Bool} (paint : Option Color) {r : InterestingCover} → p ≡ is_partial x unclipped → p ≡ false → o ≡ is_opaque x.func → o ≡ true → paint ≡ solid_color x.func → r ≡ opaque_of paint → r ≡ tells x unclipped
  tells_opaque paint e h f k s q = rw (← e, h, ← f, k, ← s) q

  pub tells_nothing : {p o : Bool} → p ≡ is_partial x unclipped → p ≡ false → o ≡ is_opaque x.func → o ≡ false → Absent ≡ tells x unclipped
  tells_nothing e h f k = rw (← e, h, ← f, k)

  pub looked : (i : ℕ) (found : Covered) {t f : InterestingCover} {h : Bool} {s : Index}
      → t ≡ tells x unclipped → f ≡ first_of found.first t → h ≡ hides x unclipped → s ≡ skip_to found.skipped (record { 0 = i }) h
      → record { first = f; unchanged = found.unchanged && x.unchanged; skipped = s } ≡ look_at x unclipped i found
  looked i found pt pf ph ps = rw (pf, pt, ps, ph)
