-- The cases of specs/Edges, computed. Assumes nothing.
use Rattle.laws.proofs.Prelude.{refl}
use Rattle.cover_statements.specs.Carry.{is_light}
use Rattle.pixel_segment.specs.Field.{cover_of}
use Rattle.queue_statements.specs.Opening.{add_to, add_all, is_light_opening}
use Rattle.queue_statements.specs.Edges.{OpeningEdges}

pub opening_edges : OpeningEdges
unfolding add_all add_to cover_of is_light is_light_opening
opening_edges =
    record {
      zero_kept = refl;
      ascending = refl;
      within = refl;
      above = refl;
      seven_passes = refl;
      seven_past = refl;
      seven_first = refl;
    }
