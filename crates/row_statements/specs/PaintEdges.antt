-- Both sides of the edges of a painting's refusals. Stands for 'Turned down'.
use Rattle.std.specs.Prelude.{◌≡◌, ◌∷◌}
use Rattle.laws.specs.Prelude.{List, [], None, ℕ, nan, ℤ, pos, negsuc, replicate}
use Rattle.pixel_segment.specs.Field.{cpu}
use Rattle.pixel_segment.specs.Pack.{word_of}
use Rattle.refusals.specs.Refusal.{Judgement, pass, refuse}
use Rattle.row_statements.specs.Lent.{lent_table, columns}
use Rattle.row_statements.specs.State.{State}
use Rattle.row_statements.specs.Painting.{paint_call, paint_verdict}

-- row 0, tiles 0 to 4, of which the next is `next`; `taken` carries were taken in
abbrev after : ℕ → ℕ → State
after next taken = record { tile_y = 0; from = 0; to = 4; next = next; left = 0; taken = taken; clip = None }

-- a table of one draw, layer 5
abbrev words : List ℕ
words = 5 ∷ replicate 7 0

-- layer 5 has a cover of z in every row; ids past the second are 0
abbrev carries : ℤ → List ℤ
carries z = replicate 4096 z

abbrev verdict : State → ℤ → ℕ → List ℕ → ℕ → ℕ → ℤ → ℕ → Judgement
verdict s tile layer row first second z size =
    paint_verdict (paint_call s tile layer row (lent_table words (replicate 4 nan) 1) (columns (first ∷ second ∷ replicate 254 0) (carries z))) (replicate size nan)

-- a segment of layer 5 in tile 0 of row 0, with cover -8 in pixel row 0
abbrev segment : ℕ
segment = word_of cpu 5 (pos 0) (pos 0) 3 0 32 (negsuc 7)

pub record PaintEdges : Type 0 where
  -- a plane of 256 passes, one of 255 does not
  pub room_passes : verdict (after 1 0) (pos 0) 5 [] 0 0 (pos 0) 256 ≡ pass
  pub room_lacks : verdict (after 1 0) (pos 0) 5 [] 0 0 (pos 0) 255 ≡ refuse 1
  -- before the first work no tile was just worked, and after it tile 0 was, not tile 1
  pub before_work : verdict (after 0 0) (pos 0) 5 [] 0 0 (pos 0) 256 ≡ refuse 2
  pub next_tile : verdict (after 1 0) (pos 1) 5 [] 0 0 (pos 0) 256 ≡ refuse 2
  -- ids 4, 4 in the queue that was taken in
  pub equal_ids : verdict (after 1 2) (pos 0) 5 [] 4 4 (pos 0) 256 ≡ refuse 5
  -- layer 6 is not in the table
  pub not_in_table : verdict (after 1 0) (pos 0) 6 [] 0 0 (pos 0) 256 ≡ refuse 8
  -- 120 and -8 are refused, 119 and -8 pass
  pub too_large : verdict (after 1 1) (pos 0) 5 (segment ∷ []) 5 0 (pos 120) 256 ≡ refuse 9
  pub large : verdict (after 1 1) (pos 0) 5 (segment ∷ []) 5 0 (pos 119) 256 ≡ pass
