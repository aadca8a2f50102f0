-- `closed` meets its contract. Assumes nothing.
use Rattle.layer_row_gpu.proofs.closed.Goals as goal

pub returns : goal.returns
returns c =
    λ i. record { tile_y = 0; from = 0; to = 0; next = 0; layer = c.args.layer_id; rule = c.fill_rule.ensures i; covers = c.default-cover.ensures i }
