-- The two ways in which d is summed up in the cells of a part: a pixel row after the other, and a column after the other. Stands for W-213, 'facts
-- about fields and sums are shown over the tile height, with 4 and 16 as its uses'.
use Rattle.std.specs.Prelude.{◌≡◌, ◌+◌, ◌<◌}
use Rattle.laws.specs.Prelude.{List, ℕ, ℤ}
use Rattle.pixel_segment.specs.Field.{local_y_of, widths_of}
use Rattle.pixel_segment.specs.declared.consts.Layout.{Layout}
use Rattle.cover_statements.specs.Area.{areas_of}
use Rattle.cover_statements.specs.Cover.{cover_at}
use Rattle.cover_statements.specs.Height.{height_of}
use Rattle.cover_statements.specs.InnerCell.{Accumulated, Shaded}
use Rattle.cover_statements.specs.InnerRows.{RowShaded}

-- each of n rows done in its turn, from the cells of a part on, leaves d of all pixels
abbrev pub SumsByRows : List ℕ → ℕ → Type 0
SumsByRows ws n =
    (covers : List ℤ) (part : List ℕ) (cells : List ℤ) (areas : ℕ → List ℤ)
    → Accumulated ws n part (areas 0) cells
    → ((y : ℕ) → y < n → RowShaded ws n y (cover_at covers y) (areas y) cells (areas (y + 1)))
    → areas n ≡ areas_of ws n (cover_at covers) part

-- and so does each of 16 columns, with the rows' sums from the covers that come in
abbrev pub SumsByColumns : List ℕ → ℕ → Type 0
SumsByColumns ws n =
    (covers : List ℤ) (part : List ℕ) (cells : List ℤ) (areas sums : ℕ → List ℤ)
    → Accumulated ws n part (areas 0) cells
    → sums 0 ≡ covers
    → ((x : ℕ) → x < 16 → Shaded n x n (areas x) cells (sums x) (areas (x + 1)) (sums (x + 1)))
    → areas 16 ≡ areas_of ws n (cover_at covers) part

-- the claim, over any widths and height: wherever local y stays below the height
pub record SumsOver (ws : List ℕ) (n : ℕ) : Type 0 where
  pub by_rows : SumsByRows ws n
  pub by_columns : SumsByColumns ws n

abbrev pub SumsAnywhere : Type 0
SumsAnywhere = (ws : List ℕ) (n : ℕ) → ((w : ℕ) → local_y_of ws w < n) → SumsOver ws n

-- its uses: at 16 and at 4
abbrev pub SumsAtBoth : Type 0
SumsAtBoth = (layout : Layout) → SumsOver (widths_of layout) (height_of layout)
