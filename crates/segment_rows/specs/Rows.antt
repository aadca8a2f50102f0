-- A row in order. Stands for what refusal 3 asks of a row: its segments don't descend, and none has another tile y.
use Rattle.std.specs.Prelude.{◌&&◌, ◌∷◌, ◌^◌, ◌≤◌, ◌<◌}
use Rattle.laws.specs.Prelude.{Bool, true, List, [], ℕ, leb, eqb, length, get_or, all}
use Rattle.pixel_segment.specs.Field.{tile_y_of}
use Rattle.pixel_segment.specs.Order.{order_key}

-- the list doesn't descend by the key f: nothing below k, and nothing below what stands before it
unfoldable pub ascends_from : (ℕ → ℕ) → ℕ → List ℕ → Bool
ascends_from f k [] = true
ascends_from f k (w ∷ ws) = leb k (f w) && ascends_from f (f w) ws

abbrev pub ascends : (ℕ → ℕ) → List ℕ → Bool
ascends f l = ascends_from f 0 l

-- a row in order: its segments don't descend, and each has the tile y (as it is stored)
abbrev pub is_row : List ℕ → ℕ → List ℕ → Bool
is_row ws ty row = ascends (order_key ws) row && all (λ w. eqb (tile_y_of ws w) ty) row

-- ---- what functions over parts of a row in order ask

-- an earlier element has no greater number than a later one
pub record Ordered (f : ℕ → ℕ) (l : List ℕ) : Type 0 where
  pub up : (i j : ℕ) → i ≤ j → j < length l → f (get_or l i 0) ≤ f (get_or l j 0)

-- every word has 64 bits, as those of a lent row have
pub record Words (l : List ℕ) : Type 0 where
  pub small : (i : ℕ) → get_or l i 0 < 2 ^ 64
