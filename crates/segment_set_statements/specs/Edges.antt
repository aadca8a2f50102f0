-- Worked cases of a kept set: layer 5 in tile 2 of row 0, each row of the incoming cover the same. Stands for W-207.
use Rattle.std.specs.Prelude.{◌≡◌, ◌∷◌, ◌++◌, ◌+ℤ◌}
use Rattle.laws.specs.Prelude.{List, [], ℕ, ℤ, pos, negsuc, replicate}
use Rattle.refusals.specs.Refusal.{Judgement, pass, refuse}
use Rattle.pixel_segment.specs.Field.{cpu}
use Rattle.cover_statements.specs.Cover.{cover_at}
use Rattle.segment_set_statements.specs.Effect.{effect_of, area_after, carry_after}
use Rattle.segment_set_statements.specs.Set.{SetState, state, Beginning, beginning, begin_verdict, begin_of, take_verdict, let_verdict}

-- row 0, column 3, cover -16, multiplier 32; the same with multiplier 8; row 0, column 0, multiplier 63, cover -31; row 9, column 15, both 1
abbrev a : ℕ
a = 0x0020060000530830

abbrev b : ℕ
b = 0x0020060000530230

abbrev c : ℕ
c = 0x0020060000500FE1

abbrev d : ℕ
d = 0x00200600005F9041

-- a in layer 6, in tile 3, and in row 1 of tiles; row 0, column 3, covers -8, 1 and 0
abbrev other : ℕ
other = 0x0020060000630830

abbrev right : ℕ
right = 0x0020080000530830

abbrev below : ℕ
below = 0x0040060000530830

abbrev eight : ℕ
eight = 0x0020060000530038

abbrev one : ℕ
one = 0x0020060000530001

abbrev none : ℕ
none = 0x0020060000530000

-- a set with a load in each row and some words in its lent slots
abbrev set_of : ℕ → List ℕ → ℕ → ℕ → SetState
set_of load slots count numbers =
    state
    (record { layer_id = 5; tile_x = pos 2; tile_y = pos 0; carry = record { covers = replicate 16 (pos 16) }; loads = replicate 16 load; count = count })
    slots
    (replicate numbers (pos 512))

-- a beginning with the same cover in each row, and some words
abbrev from : ℤ → List ℕ → Beginning
from cover part = beginning 5 (pos 2) (pos 0) (replicate 16 cover) part

-- judged with so many slots and numbers of d
abbrev begin : ℤ → List ℕ → ℕ → ℕ → Judgement
begin cover part slots numbers = begin_verdict (from cover part) (replicate slots 7) (replicate numbers (pos 7))

-- begun with a in two slots
abbrev with_a : SetState
with_a = begin_of (from (pos 16) (a ∷ [])) (replicate 2 7) (replicate 257 (pos 7))

pub record SetEdges : Type 0 where
  -- what a segment adds: in its own column, right of it, left of it, and in another row
  pub own_column : effect_of cpu b 3 0 ≡ negsuc 127
  pub past_column : effect_of cpu c 1 0 ≡ negsuc 991
  pub left_column : effect_of cpu a 2 0 ≡ pos 0
  pub other_row : effect_of cpu a 3 1 ≡ pos 0
  -- d of a pixel with it, and the carry of its row
  pub area_with : area_after ◌+ℤ◌ cpu c 0 0 (pos 512) ≡ negsuc 1440
  pub carry_with : carry_after ◌+ℤ◌ cpu d (replicate 16 (pos 16)) ≡ replicate 9 (pos 16) ++ pos 17 ∷ replicate 6 (pos 16)
  -- number 13: the last free slot, and none
  pub last_slot : take_verdict (set_of 32 (a ∷ b ∷ []) 1 256) d ≡ pass
  pub no_slot : take_verdict (set_of 32 (a ∷ b ∷ []) 2 256) d ≡ refuse 13
  -- number 12: held, let out before, and never held
  pub held : let_verdict (set_of 32 (b ∷ a ∷ []) 2 256) a ≡ pass
  pub let_out_before : let_verdict (set_of 32 (b ∷ a ∷ []) 1 256) a ≡ refuse 12
  pub nothing_held : let_verdict (set_of 16 [] 0 256) a ≡ refuse 12
  -- number 9: 119 and -8, 120 and -8; before 13
  pub light : take_verdict (set_of 119 (0 ∷ []) 0 256) eight ≡ pass
  pub heavy : take_verdict (set_of 120 (0 ∷ []) 0 256) eight ≡ refuse 9
  pub heavy_and_full : take_verdict (set_of 120 [] 0 256) eight ≡ refuse 9
  pub one_more : take_verdict (set_of 127 (0 ∷ []) 0 256) one ≡ refuse 9
  pub no_cover : take_verdict (set_of 127 (0 ∷ []) 0 256) none ≡ pass
  -- number 3, before 12; number 1, before 3
  pub right_taken : take_verdict (set_of 16 (0 ∷ []) 0 256) right ≡ refuse 3
  pub below_taken : take_verdict (set_of 16 (0 ∷ []) 0 256) below ≡ refuse 3
  pub right_let_out : let_verdict (set_of 16 (right ∷ []) 1 256) right ≡ refuse 3
  pub below_let_out : let_verdict (set_of 16 (below ∷ []) 1 256) below ≡ refuse 3
  pub foreign_taken : take_verdict (set_of 16 (0 ∷ []) 0 256) other ≡ refuse 3
  pub foreign_let_out : let_verdict (set_of 16 [] 0 256) other ≡ refuse 3
  pub short : take_verdict (set_of 16 (0 ∷ []) 0 255) other ≡ refuse 1
  -- beginning: with nothing in no slot, with a part that fills the slots, and number 13
  pub begin_nothing : begin (pos 16) [] 0 256 ≡ pass
  pub begin_full : begin (pos 16) (a ∷ b ∷ []) 2 256 ≡ pass
  pub begin_more : begin (pos 16) (a ∷ b ∷ d ∷ []) 2 256 ≡ refuse 13
  -- number 9, of the cover alone too; before 13
  pub begin_light : begin (pos 119) (eight ∷ []) 1 256 ≡ pass
  pub begin_heavy : begin (pos 120) (eight ∷ []) 0 256 ≡ refuse 9
  pub begin_127 : begin (negsuc 126) [] 0 256 ≡ pass
  pub begin_128 : begin (negsuc 127) [] 0 256 ≡ refuse 9
  -- number 3, wherever the segment stands, before 9; number 1, before 3
  pub begin_other_layer : begin (pos 16) (a ∷ other ∷ []) 2 256 ≡ refuse 3
  pub begin_other_x : begin (pos 16) (right ∷ a ∷ []) 2 256 ≡ refuse 3
  pub begin_other_y : begin (pos 120) (eight ∷ below ∷ []) 2 256 ≡ refuse 3
  pub begin_short : begin (pos 16) (below ∷ []) 1 255 ≡ refuse 1
  -- what it leaves: the first slot, d of row 0 and past the 256 numbers, the carry, the loads, and how many slots are held
  pub begun_slots : with_a.slots ≡ a ∷ 7 ∷ []
  pub begun_left : cover_at with_a.areas 32 ≡ pos 512
  pub begun_own : cover_at with_a.areas 48 ≡ pos 0
  pub begun_past : cover_at with_a.areas 256 ≡ pos 7
  pub begun_carry : with_a.set.carry.covers ≡ pos 0 ∷ replicate 15 (pos 16)
  pub begun_loads : with_a.set.loads ≡ 32 ∷ replicate 15 16
  pub begun_count : with_a.set.count ≡ 1
