-- The opposite of a segment: the same place, multiplier and layer, run the other way. Stands for W-210: 'negating every segment's cover', of rows
-- 'whose covers lie in -31 to 31'. The cover -32 has no opposite in its field: it stays as it is.
use Rattle.std.specs.Prelude.{◌≤◌, ◌<◌}
use Rattle.laws.specs.Prelude.{List, ℕ, neg_ℤ, nat_abs, length, get_or}
use Rattle.pixel_segment.specs.Field.{cover_of}
use Rattle.pixel_segment.specs.Pack.{with_cover}

-- the word with its cover negated
unfoldable pub opposite_of : List ℕ → ℕ → ℕ
opposite_of ws w = with_cover ws w (neg_ℤ (cover_of ws w))

-- every cover's absolute value is at most 31
pub record Mild (ws row : List ℕ) : Type 0 where
  pub small : (i : ℕ) → i < length row → nat_abs (cover_of ws (get_or row i 0)) ≤ 31
