-- The covers of a part of a row, added to an incoming cover; and when that is refused. A part is a list of packed words: one layer's segments in
-- one tile. The field widths `ws` and the tile's height n are parameters. Stands for 'a carry is incoming cover plus segment covers' and for
-- number 9, 'a layer and pixel row with absolute incoming cover plus absolute segment covers above 127'.
use Rattle.std.specs.Prelude.{◌+◌, ◌+ℤ◌}
use Rattle.laws.specs.Prelude.{Bool, cond, List, ℕ, eqb, leb, ℤ, nat_abs, Answer, refused, given, tabulate, every, sumℤ, sumℕ}
use Rattle.pixel_segment.specs.Field.{local_y_of, cover_of}
use Rattle.cover_statements.specs.Cover.{cover_at}

-- segment w lies in pixel row y
abbrev pub in_row : List ℕ → ℕ → ℕ → Bool
in_row ws y w = eqb (local_y_of ws w) y

abbrev pub abs_cover : List ℕ → ℕ → ℕ
abs_cover ws w = nat_abs (cover_of ws w)

-- the covers of pixel row y, summed exactly
abbrev pub cover_in : List ℕ → ℕ → List ℕ → ℤ
cover_in ws y part = sumℤ (in_row ws y) (cover_of ws) part

-- their absolute values, summed
abbrev pub load_in : List ℕ → ℕ → List ℕ → ℕ
load_in ws y part = sumℕ (in_row ws y) (abs_cover ws) part

-- number 9 does not apply at pixel row y
abbrev pub light_at : List ℕ → List ℤ → List ℕ → ℕ → Bool
light_at ws covers part y = leb (nat_abs (cover_at covers y) + load_in ws y part) 127

-- nor at any
unfoldable pub is_light : List ℕ → ℕ → List ℤ → List ℕ → Bool
is_light ws n covers part = every n (light_at ws covers part)

-- the carry, a cover for each of the n pixel rows
unfoldable pub carry_of : List ℕ → ℕ → List ℤ → List ℕ → List ℤ
carry_of ws n covers part = tabulate n (λ y. cover_at covers y +ℤ cover_in ws y part)

-- what adding answers: the carry, or refused by 9
abbrev pub add_of : List ℕ → ℕ → List ℤ → List ℕ → Answer (List ℤ)
add_of ws n covers part = cond (is_light ws n covers part) (given (carry_of ws n covers part)) (refused 9)
