-- The claims of specs/Words, cited. Assumes nothing.
use Rattle.pixel_segment.proofs.ReadBack as readBack
use Rattle.pixel_segment.proofs.Ranges as ranges
use Rattle.pixel_segment.proofs.Widths as widths
use Rattle.pixel_segment.proofs.Heights as heights
use Rattle.pixel_segment.proofs.Lexical as lexical
use Rattle.pixel_segment.proofs.Edges as edges
use Rattle.pixel_segment_gpu.proofs.Edges as pixelEdges
use Rattle.claims.specs.Words.{PackedWords}

pub packed_words : PackedWords
packed_words =
    record {
      field_back = readBack.field_back;
      fields_kept = readBack.kept;
      reads_back = readBack.reads_back;
      given_back = readBack.given_back;
      packs_apart = readBack.packs_apart;
      in_range_lem = ranges.in_range_lem;
      packable = ranges.packable;
      in_cover = λ w. ((widths.in_cover w).above, (widths.in_cover w).below);
      keyed_at = heights.keyed_at;
      upper_46 = heights.upper_46;
      key_lt = heights.key_lt;
      lexical = lexical.lexical;
      order_of_fields = lexical.order_of_fields;
      edges = edges.edges;
      gpu_edges = pixelEdges.edges;
    }
