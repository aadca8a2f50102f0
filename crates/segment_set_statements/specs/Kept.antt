-- When a set is kept: all that it holds equals a fresh working of its held words from the incoming cover it was begun with. Stands for W-207,
-- 'after each edit all of it equals what a fresh working of the set gives'; and words that are the same, each as often, in any order.
use Rattle.std.specs.Prelude.{◌≡◌, ◌+◌, ◌≤◌}
use Rattle.laws.specs.Prelude.{true, List, ℕ, eqb, ℤ, length, take, all, count_by}
use Rattle.pixel_segment.specs.Field.{cpu}
use Rattle.cover_statements.specs.Area.{areas_of}
use Rattle.cover_statements.specs.Carry.{is_light, carry_of}
use Rattle.cover_statements.specs.Cover.{cover_at}
use Rattle.segment_set_statements.specs.Set.{SetState, Beginning, held_of, is_here, loads_from}

pub record Kept (incoming : List ℤ) (s : SetState) : Type 0 where
  pub room : 256 ≤ length s.areas
  pub within : s.set.count ≤ length s.slots
  pub here : all (is_here s.set) (held_of s) ≡ true
  pub light : is_light cpu 16 incoming (held_of s) ≡ true
  pub areas_are : take 256 s.areas ≡ areas_of cpu 16 (cover_at incoming) (held_of s)
  pub carry_is : s.set.carry.covers ≡ carry_of cpu 16 incoming (held_of s)
  pub loads_are : s.set.loads ≡ loads_from cpu 16 incoming (held_of s)

-- how often a word stands in a list
abbrev pub times_of : ℕ → List ℕ → ℕ
times_of v words = count_by (eqb v) words

pub record SameWords (xs ys : List ℕ) : Type 0 where
  pub at : (v : ℕ) → times_of v xs ≡ times_of v ys

-- the set is kept, is of the layer and tile that it was begun for, and holds the words taken in less those let out, each as often
pub record Holds (b : Beginning) (ins outs : List ℕ) (s : SetState) : Type 0 where
  pub kept : Kept b.incoming s
  pub layer_is : s.set.layer_id ≡ b.layer
  pub tile_x_is : s.set.tile_x ≡ b.tile_x
  pub tile_y_is : s.set.tile_y ≡ b.tile_y
  pub words : (v : ℕ) → times_of v (held_of s) + times_of v outs ≡ times_of v ins

-- what a segment that was taken in and let out leaves: d, carry and loads as they were
pub record Undone (s t : SetState) : Type 0 where
  pub areas_are : t.areas ≡ s.areas
  pub carry_is : t.set.carry.covers ≡ s.set.carry.covers
  pub loads_are : t.set.loads ≡ s.set.loads
