-- `rows::to_clip` meets its contract. Assumes nothing.
use Rattle.laws.proofs.Prelude.{refl, eq-eqb, ne_eqb}
use Rattle.ffi_numbers.proofs.rows.to_clip.Goals as goal

pub returns-then-flag-eq0 : goal.returns-then-flag-eq0
returns-then-flag-eq0 c = rw (eq-eqb _ _ c.if-flag-eq0.true) refl

pub returns-else-flag-eq0 : goal.returns-else-flag-eq0
returns-else-flag-eq0 c = rw (ne_eqb _ _ c.if-flag-eq0.false) refl
