-- `flags_along_rows` meets its contract: the theorems, cited. Assumes nothing.
use Rattle.kept_rows.proofs.Along.{rows_told}
use Rattle.kept_rows.proofs.Since.{marked_told, marked_table}
use Rattle.kept_rows.proofs.Walk.{walk_sound, walk_exact}
use Rattle.claims.proofs.flags_along_rows.Goals as goal

pub returns : goal.returns
returns c = (rows_told, marked_told, marked_table, walk_sound, walk_exact)
