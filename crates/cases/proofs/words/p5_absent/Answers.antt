-- P5, from the contracts. Assumes nothing.
use Rattle.laws.proofs.Prelude.{rules}
use Rattle.segment_rows.specs.Search.{search_of, halved}
use Rattle.cases.proofs.words.p5_absent.Goals as goal

pub returns : goal.returns
unfolding search_of halved
returns c = rw (
  c.is_absent-last.ensures,
  c.search_last_by_layer_id-3.ensures,
  c.is_absent-inside.ensures,
  c.search_last_by_layer_id-2.ensures,
  c.is_absent-first.ensures,
  c.search_last_by_layer_id.ensures,
)
