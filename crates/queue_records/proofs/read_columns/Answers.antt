-- `queue_records::read_columns` meets its contract. Assumes nothing.
use Rattle.std.specs.Prelude.{◌≡◌}
use Rattle.laws.proofs.Prelude.{arith, length}
use Rattle.queue_records.proofs.Reading.{columns_are}
use Rattle.queue_records.proofs.read_columns.Goals as goal

pub returns : goal.returns
returns c =
    let ids : length c.no_ids-ids.result ≡ 256 = omega (arith, c.no_ids-ids.type_inv) in
    let covers : length c.no_covers-covers.result ≡ 4096 = omega (arith, c.no_covers-covers.type_inv) in
    columns_are c.args.queue.now c.args.count c.read_queue.result _ _ _ _ c.columns_with.result c.no_ids-ids.ensures c.no_covers-covers.ensures ids covers c.read_queue.ensures
    c.columns_with.ensures
