-- Worked cases of the layer and the tile in lent memory: a set begun with nothing in one slot, the incoming cover 16 in each row. Stands for W-207.
use Rattle.std.specs.Prelude.{◌≡◌, ◌∷◌}
use Rattle.laws.specs.Prelude.{[], ℕ, ℤ, pos, negsuc, replicate}
use Rattle.refusals.specs.Refusal.{Judgement, pass, refuse}
use Rattle.segment_set_statements.specs.Set.{beginning, begin_verdict, begin_of, take_verdict}
use Rattle.ffi_sets.specs.Sets.{SetLent, set_place, set_numbers, set_lent, state_from, begun_lent}

-- layer 5, tile 2 of row 0; in layer 6; in tile 3; in row 1
abbrev a : ℕ
a = 0x0020060000530830

abbrev other : ℕ
other = 0x0020060000630830

abbrev right : ℕ
right = 0x0020080000530830

abbrev below : ℕ
below = 0x0040060000530830

-- memory of a layer and a tile
abbrev lent_of : ℕ → ℤ → ℤ → SetLent
lent_of layer x y =
    set_lent (set_place layer (x ∷ y ∷ [])) (set_numbers (replicate 16 (pos 16)) (replicate 16 16) 0) (7 ∷ []) (replicate 256 (pos 512))

abbrev taking : SetLent → ℕ → Judgement
taking k w = take_verdict (state_from k) w

-- a beginning with no words, in memory that had another layer and tile
abbrev begun : ℕ → ℤ → ℤ → SetLent
begun layer x y =
    let b = beginning layer x y (replicate 16 (pos 16)) [] in
    begun_lent (begin_verdict b (7 ∷ []) (replicate 256 (pos 7))) (begin_of b (7 ∷ []) (replicate 256 (pos 7))) (lent_of 6 (pos 3) (pos 1))

pub record PlaceEdges : Type 0 where
  -- what a beginning writes, and by it each edit is judged
  pub begun_place : (begun 5 (pos 2) (pos 0)).place ≡ set_place 5 (pos 2 ∷ pos 0 ∷ [])
  pub own : taking (begun 5 (pos 2) (pos 0)) a ≡ pass
  pub other_layer : taking (begun 5 (pos 2) (pos 0)) other ≡ refuse 3
  pub other_x : taking (begun 5 (pos 2) (pos 0)) right ≡ refuse 3
  pub other_y : taking (begun 5 (pos 2) (pos 0)) below ≡ refuse 3
  -- a layer, a tile and a row that no segment has: each is refused by 3
  pub no_layer : taking (lent_of 2097152 (pos 2) (pos 0)) a ≡ refuse 3
  pub no_tile : taking (lent_of 5 (negsuc 1) (pos 0)) a ≡ refuse 3
  pub no_row : taking (lent_of 5 (pos 2) (pos 32767)) a ≡ refuse 3
