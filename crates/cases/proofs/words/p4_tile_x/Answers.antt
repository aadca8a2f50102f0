-- P4, from the contracts. Assumes nothing.
use Rattle.laws.proofs.Prelude.{◌∙◌, rules, pos}
use Rattle.pixel_segment.specs.Field.{tile_of}
use Rattle.cases.proofs.Table.{cases}
use Rattle.cases.proofs.words.p4_tile_x.Goals as goal

pub returns : goal.returns
unfolding tile_of
returns c = rw (
  c.tile_x-last_x.ensures,
  c.is_refused-past.ensures,
  c.new-2.ensures.answer ∙ cases.p4_past_x (pos 5) (pos 0) (pos 3) (pos 4) (pos 32) (pos 16),
  c.is_word-last.ensures,
  c.new.ensures.answer ∙ cases.p4_last_x_word,
)
