-- `edges` meets its contract: the theorems, cited. Assumes nothing.
use Rattle.queue_statements.proofs.Examples.{opening_edges}
use Rattle.row_statements.proofs.RowCases.{row_edges}
use Rattle.row_statements.proofs.PaintCases.{paint_edges}
use Rattle.listing_statements.proofs.Cases.{deciding_edges}
use Rattle.layer_table.proofs.Cases.{table_edges}
use Rattle.segment_set_statements.proofs.Cases.{set_edges}
use Rattle.ffi_sets.proofs.Cases.{place_edges}
use Rattle.cover_bounds_statements.proofs.Verdicts.{verdicts}
use Rattle.claims.proofs.RevisionEdges.{revision_edges}
use Rattle.claims.proofs.edges.Goals as goal

pub returns : goal.returns
returns c = (opening_edges, row_edges, paint_edges, deciding_edges, table_edges, set_edges, place_edges, verdicts, revision_edges)
