-- Where a loop over the tiles of a row cuts it: it holds how many words are left of the next tile. Assumes nothing.
use Rattle.std.specs.Prelude.{◌≡◌, ◌+◌, ◌-◌, ◌^◌, ◌≤◌, ◌<◌}
use Rattle.laws.proofs.Prelude.{ap, ap₂, ◌∙◌, true, List, ℕ, arith, pos, length, take, drop, length-drop, take_all, w64}
use Rattle.laws.proofs.Prelude.{Fits}
use Rattle.pixel_segment.specs.Field.{cpu}
use Rattle.segment_rows.specs.Rows.{is_row, Words}
use Rattle.segment_rows.specs.Search.{left_part, tile_part, up_to_tile}
use Rattle.segment_rows.proofs.Cutting.{left_within, cut, cut_next}

module _ (ty m : ℕ) (row : List ℕ) (s : Words row) (h : is_row cpu ty row ≡ true) {start : ℕ} (at : start ≡ length (left_part (pos m) row)) where
  pub within_row : start ≤ length row
  within_row = rw at (left_within ty m row s h)

  -- what the search finds from there on is the tile's part
  pub own_part : {part : List ℕ} → part ≡ up_to_tile (pos m) (take (length row - start) (drop start row)) → part ≡ tile_part (pos m) row
  own_part e =
      e
      ∙ ap (up_to_tile (pos m)) (take_all (length row - start) (drop start row) (omega (arith, length-drop start row)))
      ∙ ap (λ (n : ℕ). up_to_tile (pos m) (drop n row)) at
      ∙ cut ty m row s h

  -- and the next tile is cut where it ends
  module _ {part : List ℕ} (own : part ≡ tile_part (pos m) row) where
    pub next_start : start + length part ≡ length (left_part (pos (m + 1)) row)
    next_start = ap₂ (λ (n : ℕ) (l : List ℕ). n + length l) at own ∙ cut_next ty m row s h

    pub end_within : start + length part ≤ length row
    end_within = rw next_start (left_within ty (m + 1) row s h)

-- a place inside a slice is a number of 64 bits
pub sum_fits : (start n end : ℕ) → start + n ≤ end → end < 2 ^ 64 → Fits w64 (start + n)
sum_fits start n end h k = omega arith
