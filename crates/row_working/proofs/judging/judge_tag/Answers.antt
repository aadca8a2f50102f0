-- `judging::judge_tag` meets its contract. Assumes nothing.
use Rattle.row_working.proofs.judging.judge_tag.Goals as goal

pub returns-then-is_tag_out_of_range : goal.returns-then-is_tag_out_of_range
returns-then-is_tag_out_of_range c = rw (← c.is_tag_out_of_range.ensures, c.if-is_tag_out_of_range.true)

pub returns : goal.returns
returns c = rw (← c.is_tag_out_of_range.ensures, c.if-is_tag_out_of_range.false)
