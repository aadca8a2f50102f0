-- `find_not_negative` meets its contract. Assumes nothing.
use Rattle.std.specs.Prelude.{◌≡◌}
use Rattle.laws.proofs.Prelude.{ap, sym, ◌∙◌, false, arith, add-one}
use Rattle.segment_rows.specs.Search.{found, place_in, search_of, order_at}
use Rattle.segment_rows.specs.declared.search.Key.TheVariants.{TileYNotNegative}
use Rattle.segment_rows.proofs.Halving.{found_lt}
use Rattle.plate.specs.Rows.{rows_start, past_of}
use Rattle.plate.proofs.find_not_negative.Goals as goal
use Rattle.plate.proofs.find_not_negative.Goals.{In-Ok}

-- the last segment with a negative tile y
at_last : (c : In-Ok) → search_of (order_at (TileYNotNegative false)) c.args.segments.now ≡ found c.in-Ok.last
at_last c =
    sym c.search_last_by_tile_y_not_negative.ensures ∙ ap place_in c.in-Ok.is

pub overflow_add-result : goal.overflow_add-result
overflow_add-result c =
    omega
    (arith, found_lt (order_at (TileYNotNegative false)) c.args.segments.now c.in-Ok.last (at_last c))

pub returns-in-Ok : goal.returns-in-Ok
unfolding rows_start
returns-in-Ok c = add-one c.in-Ok.last ∙ sym (ap past_of (at_last c))

pub returns-in-Err : goal.returns-in-Err
unfolding rows_start
returns-in-Err c = sym (ap past_of (sym c.search_last_by_tile_y_not_negative.ensures ∙ ap place_in c.in-Err.is))
