-- Where a caller stands in a row, and refusal 2 of a tile. The clip is none, or the last layer id that it lives up to. Stands for 'a state passed by
-- value' and for condition 2: 'tile not the next (in painting: not the one just worked) or outside from..to'.
use Rattle.std.specs.Prelude.{◌||◌, ◌+◌}
use Rattle.laws.specs.Prelude.{Bool, not, Option, None, ℕ, ltb, leb, eqb, ℤ, pos, lt_z, plus}
use Rattle.row_statements.specs.declared.RowState.{RowState}

pub record State : Type 0 where
  pub tile_y : ℕ
  pub from : ℕ
  pub to : ℕ
  pub next : ℕ
  -- how many carries are left in the queue, and how many the last tile took in
  pub left : ℕ
  pub taken : ℕ
  pub clip : Option ℕ

-- the code's state in these terms
abbrev pub state_in : RowState → State
state_in s = record { tile_y = s.tile_y; from = s.from; to = s.to; next = s.next; left = s.left; taken = s.taken; clip = s.clip }

-- past a tile that handed on n carries: the next one is due, and the painter has no clip
abbrev pub next_state : State → ℕ → State
next_state s n = record { tile_y = s.tile_y; from = s.from; to = s.to; next = s.next + 1; left = n; taken = s.left; clip = None }

-- after a painting: the painter's clip, and all else as it was
abbrev pub with_clip : State → Option ℕ → State
with_clip s clip = record { tile_y = s.tile_y; from = s.from; to = s.to; next = s.next; left = s.left; taken = s.taken; clip = clip }

-- ---- 2

-- a state past its ends: four comparisons of its numbers, all that 2 asks. Whatever else it says is taken at its word
abbrev pub is_stray : State → Bool
is_stray s = ltb 2046 s.tile_y || ltb 4095 s.to || ltb s.next s.from || ltb s.to s.next

-- the tile is not the next one, or none is left
abbrev pub is_not_next : State → ℤ → Bool
is_not_next s tile = leb s.to s.next || lt_z tile (pos 0) || not (eqb (plus tile) s.next)

-- the tile is not the one just worked; before the first work there is none
abbrev pub is_not_worked : State → ℤ → Bool
is_not_worked s tile = leb s.next s.from || lt_z tile (pos 0) || not (eqb (plus tile + 1) s.next)

-- 2 applies to a work, and to a painting
abbrev pub is_wrong_next : State → ℤ → Bool
is_wrong_next s tile = is_stray s || is_not_next s tile

abbrev pub is_wrong_worked : State → ℤ → Bool
is_wrong_worked s tile = is_stray s || is_not_worked s tile
