-- `layer_table::find` meets its contract. What holds of the places that are left is `Halving`.
-- Assumes nothing.
use Rattle.laws.proofs.Prelude.{sym, ◌∙◌, arith}
use Rattle.layer_table.proofs.Halving.{begin, upper, lower, found, absent, none}
use Rattle.layer_table.proofs.find.Goals as goal

pub returns-then-count-eq0 : goal.returns-then-count-eq0
returns-then-count-eq0 c = none _ _ c.if-count-eq0.true

pub loop-len-init : goal.loop-len-init
loop-len-init c = begin _ _ _ (omega arith)

pub loop-len-preserved-then-id_at-id : goal.loop-len-preserved-then-id_at-id
loop-len-preserved-then-id_at-id c =
    upper c.loop-len.invariant c.requires.1 (omega arith) (omega (arith, c.id_at.ensures))

pub loop-len-preserved : goal.loop-len-preserved
loop-len-preserved c =
    lower c.loop-len.invariant c.requires.1 (omega arith) (omega (arith, c.id_at.ensures))

pub returns-then-id_at-id-2 : goal.returns-then-id_at-id-2
returns-then-id_at-id-2 c =
    found c.loop-len.invariant c.requires.1 (sym c.id_at-2.ensures ∙ c.if-id_at-id-2.true)

pub returns-else-id_at-id-2 : goal.returns-else-id_at-id-2
returns-else-id_at-id-2 c =
    absent c.loop-len.invariant c.requires.1 (omega arith) (λ e. c.if-id_at-id-2.false (c.id_at-2.ensures ∙ e))
