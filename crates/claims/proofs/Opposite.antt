-- The claims of specs/Opposite, cited. Assumes nothing.
use Rattle.pixel_segment.proofs.Covers as covers
use Rattle.pixel_segment.proofs.Opposite as opposite
use Rattle.claims.specs.Opposite.{OppositeWords}

pub opposite_words : OppositeWords
opposite_words =
    record {
      with_field = covers.with_field;
      with_cover_lem = covers.with_cover_lem;
      with_order = covers.with_order;
      with_lt = covers.with_lt;
      with_packed = covers.with_packed;
      opposite_field = opposite.opposite_field;
      opposite_cover = opposite.opposite_cover;
      opposite_is = opposite.opposite_is;
      opposite_twice = opposite.opposite_twice;
      opposite_packed = opposite.opposite_packed;
    }
