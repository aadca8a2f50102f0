-- P2, from the contracts. Assumes nothing.
use Rattle.laws.proofs.Prelude.{◌∙◌, rules}
use Rattle.pixel_segment.specs.Field.{double_area_of, cover_of}
use Rattle.cases.proofs.Table.{cases}
use Rattle.cases.proofs.words.p2.Goals as goal

pub returns : goal.returns
unfolding double_area_of cover_of
returns c = rw (c.is_word-packs.ensures, c.new.ensures.answer ∙ cases.p2_word, c.double_area.ensures)
