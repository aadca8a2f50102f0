-- What a load's job is opened with: the row and the layer table that reading leaves of it.
use Rattle.laws.specs.Prelude.{List, ℕ, pos}
use Rattle.row_statements.specs.Lent.{LentTable, lent_table}
use Rattle.row_statements.specs.Opening.{OpenCall, open_call}
use Rattle.job_statements.specs.Table.{table_words, table_colors}
use Rattle.job_statements.specs.Row.{row_words}
use Rattle.load_statements.specs.declared.Asked.{Asked}
use Rattle.load_statements.specs.Load.{load_of}

abbrev pub load_row : Asked → List ℕ
load_row a = row_words (pos 0) (load_of a).segments

abbrev pub load_table : Asked → LentTable
load_table a = lent_table (table_words (load_of a).layers) (table_colors (load_of a).layers) 8

abbrev pub opening_of : Asked → OpenCall
opening_of a = open_call (pos 0) (pos 0) (pos a.tiles) (load_row a) (load_table a)
