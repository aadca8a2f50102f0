-- The calls with a queue of carry records, as the program makes them: P11 as the work on tile 2, and the painting of P7's draw. What they give is
-- `work_of` and `paint_of` of these calls, with the columns that the records stand for.
use Rattle.std.specs.Prelude.{◌∷◌}
use Rattle.laws.specs.Prelude.{false, List, [], Some, None, ℕ, pos, replicate}
use Rattle.styling.specs.declared.Color.{Color}
use Rattle.cached_tile.specs.declared.kept.Kept.{Kept}
use Rattle.row_statements.specs.Lent.{columns, list_columns, lent_table}
use Rattle.row_statements.specs.State.{State}
use Rattle.row_statements.specs.TileWork.{WorkCall, WorkLent, work_call, work_lent}
use Rattle.row_statements.specs.Painting.{PaintCall, paint_call}
use Rattle.cases.specs.Inputs.{tagged_tile}
use Rattle.cases.specs.Numbers.{uncovered}

-- the word of P11: layer 5, tile x 2, tile y 0, local x 3, local y 0, multiplier 32, cover -16
abbrev pub p11_row : List ℕ
p11_row = 0x0020060000530830 ∷ []

-- ---- P11 worked: tile 2 is the next one, and one carry is left, with 16 in each row

abbrev pub before_tile2 : State
before_tile2 = record { tile_y = 0; from = 2; to = 3; next = 2; left = 1; taken = 0; clip = None }

abbrev pub no_kept : Kept
no_kept = record { given = false; tile = tagged_tile 0 (replicate 3 0) (replicate 4 0) }

abbrev pub no_color : Color
no_color = record { r = uncovered; g = uncovered; b = uncovered; a = uncovered }

abbrev pub p11_call : WorkCall
p11_call =
    work_call before_tile2 (pos 2) p11_row (lent_table (5 ∷ replicate 7 0) (replicate 4 uncovered) 1) no_kept no_color None
    (columns (replicate 256 5) (replicate 4096 (pos 16)))

abbrev pub p11_lent : WorkLent
p11_lent =
    work_lent (columns (replicate 256 0) (replicate 4096 (pos 0)))
    (list_columns (replicate 256 0) (replicate 4096 (pos 0)) (replicate 512 false) (replicate 256 false))

-- ---- the draw of P7 painted: tile 0 is the one just worked, and took in three carries, with 8 in each
-- row; a clip lives up to layer 2

abbrev pub after_tile0 : State
after_tile0 = record { tile_y = 0; from = 0; to = 1; next = 1; left = 0; taken = 3; clip = Some 2 }

abbrev pub three_records : List ℕ
three_records = 1 ∷ 0 ∷ 1 ∷ 1 ∷ 0 ∷ 0 ∷ 0 ∷ 0 ∷ 2 ∷ 0 ∷ 1 ∷ 5 ∷ 0 ∷ 0 ∷ 0 ∷ 0 ∷ 3 ∷ 0 ∷ 0 ∷ 0 ∷ 1 ∷ 1 ∷ 0 ∷ 0 ∷ []

abbrev pub p7_call : PaintCall
p7_call =
    paint_call after_tile0 (pos 0) 3 p11_row (lent_table three_records (replicate 12 uncovered) 3) (columns (1 ∷ 2 ∷ 3 ∷ replicate 253 0) (replicate 4096 (pos 8)))
