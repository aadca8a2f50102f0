-- `parts::of_layer_in` meets its contract. Assumes nothing.
use Rattle.laws.proofs.Prelude.{arith}
use Rattle.segment_rows.proofs.Halving.{told_le}
use Rattle.segment_rows.proofs.parts.of_layer_in.Goals as goal

pub end_of-start-requires : goal.end_of-start-requires
end_of-start-requires c = omega (arith, told_le _ _ c.search_last_by_layer_id_at_least_in.ensures)

pub end_of-end-requires : goal.end_of-end-requires
end_of-end-requires c = omega (arith, told_le _ _ c.search_last_by_layer_id_in.ensures)

pub slice_between-requires : goal.slice_between-requires
slice_between-requires c = omega (arith, c.end_of-end.ensures, told_le _ _ c.search_last_by_layer_id_in.ensures)

pub returns : goal.returns
returns c =
    rw (
      c.slice_between.ensures,
      c.end_of-end.ensures,
      c.search_last_by_layer_id_in.ensures,
      c.end_of-start.ensures,
      c.search_last_by_layer_id_at_least_in.ensures,
    )
