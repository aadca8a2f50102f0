-- `open` meets its contract. Assumes nothing.
use Rattle.std.specs.Prelude.{◌≡◌}
use Rattle.laws.proofs.Prelude.{ap, ◌∙◌, arith, w16, SFits, to_z-of_z, plus, sfits}
use Rattle.pixel_segment.specs.Field.{gpu}
use Rattle.cover_statements.specs.Carry.{is_light, carry_of}
use Rattle.cover_statements.specs.Cover.{no_cover}
use Rattle.layer_row_gpu.specs.InnerCovers.{layer_within}
use Rattle.layer_row_gpu.specs.OpenLayer.{layer_left}
use Rattle.layer_row_gpu.proofs.Parts.{left_from}
use Rattle.layer_row_gpu.proofs.open.Goals as goal
use Rattle.layer_row_gpu.proofs.open.Goals.{After-left_of_tile}

first_fits : (c : After-left_of_tile) → SFits w16 c.args.from
first_fits c = sfits w16 c.args.from (record { above = omega (arith, c.requires.first.1); below = omega (arith, c.requires.first.0) })

-- the layer's segments in the part that was found are those of the whole row
left-told : (c : After-left_of_tile) → layer_within c.args.layer_id c.left_of_tile.result.now ≡ layer_left c.args.from c.args.layer_id c.args.row.now
left-told c =
    ap (layer_within c.args.layer_id) (rw (to_z-of_z c.ranges.from, to_z-of_z (first_fits c)) at c.left_of_tile.ensures)
    ∙ left_from _ (record { small = λ i. (c.type_inv.row i).fits }) c.requires.in_order c.args.from c.requires.first.0 c.args.layer_id

pub overflow_cast-from : goal.overflow_cast-from
overflow_cast-from c = rw (to_z-of_z c.ranges.from) (sfits w16 c.args.from (record { above = omega (arith, c.requires.first.1); below = omega (arith, c.requires.first.0) }))

pub sum-cover-requires : goal.sum-cover-requires
sum-cover-requires c = ap (is_light gpu 4 (no_cover 4)) (left-told (goal.at.sum-cover-requires c).After-left_of_tile) ∙ c.requires.light

pub returns : goal.returns
returns c =
    let row : c.natural.result ≡ plus c.args.tile_y = c.natural.ensures ∙ ap plus (to_z-of_z c.ranges.tile_y) in
    let first : c.natural-first.result ≡ plus c.args.from = c.natural-first.ensures ∙ ap plus (to_z-of_z c.ranges.from) in
    let last : c.natural-2.result ≡ plus c.args.to = c.natural-2.ensures ∙ ap plus (to_z-of_z c.ranges.to) in
    let covers = c.sum-cover.ensures ∙ ap (carry_of gpu 4 (no_cover 4)) (left-told (goal.at.returns c).After-left_of_tile) in
    λ i. record { tile_y = row i; from = first i; to = last i; next = first i; layer = c.args.layer_id; rule = c.fill_rule.ensures i; covers = covers i }
