-- `words_and_rows` meets its contract: the theorems, cited. Assumes nothing.
use Rattle.claims.proofs.Words.{packed_words}
use Rattle.claims.proofs.Rows.{rows_cut}
use Rattle.claims.proofs.Layers.{layer_records}
use Rattle.claims.proofs.words_and_rows.Goals as goal

pub returns : goal.returns
returns c = (packed_words, rows_cut, layer_records)
