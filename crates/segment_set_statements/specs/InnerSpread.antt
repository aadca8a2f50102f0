-- How the code changes d: an amount added in one column of a row, another right of it.
use Rattle.std.specs.Prelude.{◌&&◌, ◌≡◌, ◌+◌, ◌*◌, ◌/◌, ◌%◌, ◌≤◌, ◌<◌, ◌+ℤ◌}
use Rattle.laws.specs.Prelude.{Bool, cond, not, List, ℕ, eqb, leb, ltb, ℤ, length, get_or, tabulate}
use Rattle.laws.specs.Prelude.{over}
use Rattle.refusals.specs.Refusal.{Judgement, pass, unless}
use Rattle.pixel_segment.specs.Field.{cpu, local_y_of}
use Rattle.cover_statements.specs.Carry.{abs_cover}
use Rattle.cover_statements.specs.Cover.{cover_at}
use Rattle.segment_set_statements.specs.Effect.{wrap}
use Rattle.segment_set_statements.specs.Set.{SetState, held_of, is_here, held_place}
use Rattle.segment_set_statements.specs.declared.SegmentSet.{SegmentSet}

unfoldable pub spread_by : ℕ → ℕ → ℕ → ℤ → ℤ → List ℤ → List ℤ
spread_by n x y own past areas =
    over (tabulate (16 * n) (λ k. cond (eqb y (k % n) && leb x (k / n)) (wrap 16 (cover_at areas k +ℤ cond (eqb x (k / n)) own past)) (cover_at areas k))) areas

-- a segment can be added: d is long enough, a slot is free, and its row's load stays small
pub record Addable (s : SetState) (w : ℕ) : Type 0 where
  pub room : 256 ≤ length s.areas
  pub free : s.set.count < length s.slots
  pub small : get_or s.set.loads (local_y_of cpu w) 0 + abs_cover cpu w ≤ 127

-- the verdict of letting out, by whether the word is held
unfoldable pub let_verdict_by : SegmentSet → ℕ → Bool → List ℤ → Judgement
let_verdict_by s w held areas =
    unless (ltb (length areas) 256) 1
    (unless (not (is_here s w)) 3
    (unless (not held) 12
    pass))

-- a word can be removed from its place
pub record Removable (s : SetState) (w place held : ℕ) : Type 0 where
  pub room : 256 ≤ length s.areas
  pub place_is : place ≡ held_place w (held_of s)
  pub held_is : held ≡ length (held_of s)
  pub within : place < held
  pub long : held ≤ length s.slots
