-- `layer_table::is_table` meets its contract. What holds while the records are passed is `Judging`.
-- Assumes nothing.
use Rattle.std.specs.Prelude.{◌≡◌}
use Rattle.laws.proofs.Prelude.{sym, ◌∙◌, false, arith}
use Rattle.layer_table.specs.Table.{is_table_short}
use Rattle.layer_table.proofs.Judging.{begin, next, end, long, table_short, table_long}
use Rattle.layer_table.proofs.is_table.Goals as goal
use Rattle.layer_table.proofs.is_table.Goals.{In-loop-i}

-- the test at the front says that every record is there
fits : (c : In-loop-i) → is_table_short c.args.layers.now c.args.colors.now c.args.count ≡ false
fits c = sym c.is_short.ensures ∙ c.if-is_short.false

pub returns-then-is_short : goal.returns-then-is_short
returns-then-is_short c = sym (table_short _ _ _ (sym c.is_short.ensures ∙ c.if-is_short.true))

pub loop-i-init : goal.loop-i-init
loop-i-init c = begin _ _

pub words_at-words-requires : goal.words_at-words-requires
words_at-words-requires c = omega (arith, long (fits c))

pub loop-i-preserved : goal.loop-i-preserved
loop-i-preserved c =
    next c.loop-i.invariant c.loop-i-test.true c.words_at-words.ensures c.is_in_range.ensures

pub returns : goal.returns
returns c =
    end c.loop-i.invariant c.loop-i-test.false
    ∙ sym (table_long _ _ _ (sym c.is_short.ensures ∙ c.if-is_short.false))
