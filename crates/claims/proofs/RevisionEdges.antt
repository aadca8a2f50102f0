-- The claims of specs/RevisionEdges, cited. Assumes nothing.
use Rattle.revision_statements.proofs.Cases as cases
use Rattle.claims.specs.RevisionEdges.{RevisionEdges}

pub revision_edges : RevisionEdges
revision_edges =
    record {
      two_stand = cases.two_stand;
      three_stand = cases.three_stand;
      withdrawn_alone = cases.withdrawn_alone;
      equal_highest = cases.equal_highest;
      equal_below = cases.equal_below;
      one_apart = cases.one_apart;
      two_layers = cases.two_layers;
      id_at_the_limit = cases.id_at_the_limit;
      id_past_the_limit = cases.id_past_the_limit;
      withdrawn_past_the_limit = cases.withdrawn_past_the_limit;
      mode_16 = cases.mode_16;
      withdrawn_mode_99 = cases.withdrawn_mode_99;
      kind_2 = cases.kind_2;
      four_before_fifteen = cases.four_before_fifteen;
      fifteen_before_one = cases.fifteen_before_one;
      two_in_one = cases.two_in_one;
      one_in_one = cases.one_in_one;
      none_in_none = cases.none_in_none;
      nine_words = cases.nine_words;
      no_colour = cases.no_colour;
      one_record = cases.one_record;
    }
