-- The claims of specs/WholeRow, cited. Assumes nothing.
use Rattle.cover_statements.proofs.FromRow as fromRow
use Rattle.queue_statements.proofs.Openings as openings
use Rattle.tile_layers.proofs.Ordering as ordering
use Rattle.row_carries.proofs.Carried as carried
use Rattle.row_carries.proofs.Planes as planes
use Rattle.row_carries.proofs.Covered as covered
use Rattle.claims.specs.WholeRow.{FromWholeRow}

pub from_whole_row : FromWholeRow
from_whole_row =
    record {
      left_next = fromRow.left_next;
      plane_from_row = fromRow.plane_from_row;
      carry_from_row = fromRow.carry_from_row;
      dropped_from_row = fromRow.dropped_from_row;
      opening_held = openings.opening_held;
      opening_ascends = openings.opening_ascends;
      opening_has = openings.opening_has;
      list_ascends = ordering.list_ascends;
      queue_first = carried.queue_first;
      plane_is = carried.plane_is;
      held_from_row = carried.held_from_row;
      held_exact = carried.held_exact;
      held_modulo = carried.held_modulo;
      carry_from_row_at = carried.carry_from_row_at;
      unlisted_zeros = planes.unlisted_zeros;
      unknown_zeros = planes.unknown_zeros;
      full_ones = planes.full_ones;
      covered_under = covered.covered_under;
    }
