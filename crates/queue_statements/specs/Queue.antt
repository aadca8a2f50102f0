-- A queue of carries: the covers that layers hand from tile to tile, ascending by layer id; and how it lies in two lent columns, of which the
-- first n entries count: layer ids, and 16 signed bytes each. Stands for 'carries' and for refusals 1 and 5 of a queue.
use Rattle.std.specs.Prelude.{◌≡◌, ◌&&◌, ◌||◌, ◌∷◌, ◌++◌, ◌*◌, ◌/◌, ◌≤◌}
use Rattle.laws.specs.Prelude.{Bool, true, false, cond, List, [], map, ℕ, min, eqb, leb, ltb, ℤ, pos}
use Rattle.laws.specs.Prelude.{length, get_or, take, replicate, tabulate}
use Rattle.cover_statements.specs.Entry.{cover_entry}
use Rattle.styling.specs.Ascending.{strictly_ascends}

pub record Carry : Type 0 where
  pub id : ℕ
  pub cover : List ℤ

abbrev pub carry_at : List ℕ → List ℤ → ℕ → Carry
carry_at ids covers i = record { id = get_or ids i 0; cover = cover_entry 16 i covers }

-- the first n entries
unfoldable pub queue_of : ℕ → List ℕ → List ℤ → List Carry
queue_of n ids covers = tabulate n (carry_at ids covers)

-- a queue as its two columns have it
abbrev pub ids_in : List Carry → List ℕ
ids_in q = map (λ c. c.id) q

unfoldable pub covers_in : List Carry → List ℤ
covers_in [] = []
covers_in (c ∷ q) = c.cover ++ covers_in q

-- no cover at all
abbrev pub zeros : List ℤ
zeros = replicate 16 (pos 0)

-- the cover that a queue holds for a layer; zeros where it holds none
unfoldable pub held_in : List Carry → ℕ → List ℤ
held_in [] id = zeros
held_in (c ∷ q) id = cond (eqb c.id id) c.cover (held_in q id)

-- ---- refusals of a lent queue

-- how many entries the lent memory has
abbrev pub queue_room : List ℕ → List ℤ → ℕ
queue_room ids covers = min (length ids) (length covers / 16)

-- refusal 1: below 256 entries
abbrev pub are_columns_short : List ℕ → List ℤ → Bool
are_columns_short ids covers = ltb (queue_room ids covers) 256

-- refusal 5 does not apply: at most 256 entries, and their ids strictly ascend
unfoldable pub is_queue : ℕ → List ℕ → Bool
is_queue n ids = leb n 256 && strictly_ascends (take n ids)

-- what holds where they do not apply (proofs/Judging), as inner functions ask it: room for 256 entries, and n entries in order
pub record LentQueueRoom (ids : List ℕ) (covers : List ℤ) : Type 0 where
  pub ids_long : 256 ≤ length ids
  pub covers_long : 4096 ≤ length covers

pub record Queued (n : ℕ) (ids : List ℕ) (covers : List ℤ) : Type 0 where
  pub ids_long : n ≤ length ids
  pub covers_long : n * 16 ≤ length covers
  pub ascending : strictly_ascends (take n ids) ≡ true

-- an id stands among others
abbrev pub has_id : ℕ → List ℕ → Bool
has_id x [] = false
has_id x (y ∷ ys) = eqb y x || has_id x ys

-- a carry where a list has none
abbrev pub no_carry : Carry
no_carry = record { id = 0; cover = [] }
