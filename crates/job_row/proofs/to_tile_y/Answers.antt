-- `to_tile_y` meets its contract: packing the row number beside zeros judges it alone, and the word reads back as it. Assumes nothing.
use Rattle.std.specs.Prelude.{◌≡◌}
use Rattle.laws.proofs.Prelude.{ap, sym, ◌∙◌, true, false, pos, w16, w64, SFits, to_z-of_z, sfits_widen, kept}
use Rattle.pixel_segment.specs.Field.{cpu}
use Rattle.pixel_segment.specs.Pack.{packed_answer, Packs}
use Rattle.pixel_segment.proofs.Ranges.{cpu_layout}
use Rattle.pixel_segment.proofs.ReadBack.{given_word, refused_means}
use Rattle.job_statements.specs.Row.{is_tile_y}
use Rattle.job_statements.proofs.Packing.{row_taken, row_kept, row_dropped}
use Rattle.job_row.proofs.to_tile_y.Goals as goal
use Rattle.job_row.proofs.to_tile_y.Goals.{After-pack}

-- what packing says of the row number
judged : (c : After-pack) → Packs cpu (pos 0) (pos 0) c.args.row (pos 0) (pos 0) (pos 0) (pos 0) c.pack.result
judged c =
    let f : SFits w64 c.args.row = sfits_widen tt c.ranges.row in
    rw (to_z-of_z c.ranges.row, to_z-of_z f) at c.pack.ensures

pub overflow_cast-row : goal.overflow_cast-row
overflow_cast-row c = rw (to_z-of_z c.ranges.row) (sfits_widen tt c.ranges.row)

pub returns-in-Ok : goal.returns-in-Ok
returns-in-Ok c =
    let r = c.args.row in
    let is = ap packed_answer c.in-Ok.is in
    let taken : is_tile_y r ≡ true =
    sym (row_taken r) ∙ (given_word cpu cpu_layout (pos 0) (pos 0) r (pos 0) (pos 0) (pos 0) (pos 0) (sym (judged (goal.at.returns-in-Ok c).After-pack).answer ∙ is)).0 in
    kept w16 c.tile_y.result c.tile_y.type_inv ∙ c.tile_y.ensures ∙ ((judged (goal.at.returns-in-Ok c).After-pack).back _ is).tile_y ∙ sym (row_kept r taken)

pub returns-in-Err : goal.returns-in-Err
returns-in-Err c =
    let r = c.args.row in
    let is = ap packed_answer c.in-Err.is in
    let left : is_tile_y r ≡ false =
    sym (row_taken r) ∙ refused_means cpu cpu_layout (pos 0) (pos 0) r (pos 0) (pos 0) (pos 0) (pos 0) (sym (judged (goal.at.returns-in-Err c).After-pack).answer ∙ is) in
    sym (row_dropped r left)
