-- `judging::judge_deciding` meets its contract: a line for each condition, the lowest first. Assumes nothing.
use Rattle.laws.proofs.Prelude.{sym, ◌∙◌, arith, lt-ltb, le-ltb}
use Rattle.layer_table.proofs.Judging.{table}
use Rattle.listing_statements.specs.Deciding.{lines_for}
use Rattle.tile_deciding.proofs.judging.judge_deciding.Goals as goal

pub returns-then-short : goal.returns-then-short
unfolding lines_for
returns-then-short c = rw c.if-short.true

pub returns-then-not-is_table : goal.returns-then-not-is_table
unfolding lines_for
returns-then-not-is_table c = rw (c.if-short.false, ← c.is_table.ensures, c.if-not-is_table.true)

pub returns-then-not-do_ascend : goal.returns-then-not-do_ascend
unfolding lines_for
returns-then-not-do_ascend c = rw (c.if-short.false, ← c.is_table.ensures, c.if-not-is_table.false, ← c.do_ascend.ensures, c.if-not-do_ascend.true)

pub returns-then-is_tag_out_of_range : goal.returns-then-is_tag_out_of_range
unfolding lines_for
returns-then-is_tag_out_of_range c = rw (c.if-short.false, ← c.is_table.ensures, c.if-not-is_table.false, ← c.do_ascend.ensures, c.if-not-do_ascend.false, ← c.is_tag_out_of_range.ensures, c.if-is_tag_out_of_range.true)

pub returns-then-n-gt256 : goal.returns-then-n-gt256
unfolding lines_for
returns-then-n-gt256 c = rw (c.if-short.false, ← c.is_table.ensures, c.if-not-is_table.false, ← c.do_ascend.ensures, c.if-not-do_ascend.false, ← c.is_tag_out_of_range.ensures, c.if-is_tag_out_of_range.false, lt-ltb _ _ c.if-n-gt256.true)

pub are_known-requires : goal.are_known-requires
are_known-requires c = (table (sym c.is_table.ensures ∙ c.if-not-is_table.false), sym c.do_ascend.ensures ∙ c.if-not-do_ascend.false, omega (arith, c.requires c.if-short.false, c.if-n-gt256.false))

pub returns-then-not-are_known : goal.returns-then-not-are_known
unfolding lines_for
returns-then-not-are_known c = rw (c.if-short.false, ← c.is_table.ensures, c.if-not-is_table.false, ← c.do_ascend.ensures, c.if-not-do_ascend.false, ← c.is_tag_out_of_range.ensures, c.if-is_tag_out_of_range.false, le-ltb _ _ c.if-n-gt256.false, ← c.are_known.ensures, c.if-not-are_known.true)

pub returns : goal.returns
unfolding lines_for
returns c = rw (c.if-short.false, ← c.is_table.ensures, c.if-not-is_table.false, ← c.do_ascend.ensures, c.if-not-do_ascend.false, ← c.is_tag_out_of_range.ensures, c.if-is_tag_out_of_range.false, le-ltb _ _ c.if-n-gt256.false, ← c.are_known.ensures, c.if-not-are_known.false)
