-- The claims of specs/Planes, cited. Assumes nothing.
use Rattle.cover_statements.proofs.Planes as planes
use Rattle.cover_statements.proofs.FromRow as fromRow
use Rattle.cover_statements.proofs.Marks as marks
use Rattle.painter.proofs.Exchanged as exchanged
use Rattle.claims.specs.Planes.{Planes}

pub planes_hold : Planes
planes_hold =
    record {
      place_lt = planes.place_lt;
      place_column = planes.place_column;
      place_row = planes.place_row;
      place_back = planes.place_back;
      pixel_at = planes.pixel_at;
      exchanged = planes.exchanged;
      exchanged_back = planes.exchanged_back;
      row_exchanged = fromRow.row_exchanged;
      row_exchanged_back = fromRow.row_exchanged_back;
      winding_plane = fromRow.winding_plane;
      full_plane = fromRow.full_plane;
      mark_bit = marks.mark_bit;
      ones_mark = marks.ones_mark;
      mark_exchanged = marks.mark_exchanged;
      layer_exchanged = exchanged.layer_exchanged;
      draw_exchanged = exchanged.draw_exchanged;
      clip_exchanged = exchanged.clip_exchanged;
    }
