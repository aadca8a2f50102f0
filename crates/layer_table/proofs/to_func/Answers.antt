-- `layer_table::to_func` meets its contract.
-- Assumes nothing.
use Rattle.laws.proofs.Prelude.{refl, eq-eqb, ne_eqb}
use Rattle.layer_table.proofs.to_func.Goals as goal

pub returns-then-words-eq0 : goal.returns-then-words-eq0
returns-then-words-eq0 c = rw (eq-eqb _ _ c.if-words-eq0.true, c.blend_mode-mode.ensures, c.fill-fill.ensures) refl

pub returns-else-words-eq0 : goal.returns-else-words-eq0
returns-else-words-eq0 c = rw (ne_eqb _ _ c.if-words-eq0.false) refl
