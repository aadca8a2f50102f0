-- The layers of a tile: each layer with a segment in the tile or a carry in the incoming queue, once, ascending (`populate_layers`). Stands for
-- 'the list has each layer with a segment or carry, once, ascending' and for refusals 7, 8 and 9 of a list.
use Rattle.std.specs.Prelude.{◌≡◌, ◌∷◌, ◌++◌, ◌+◌, ◌*◌, ◌≤◌}
use Rattle.laws.specs.Prelude.{Bool, true, false, cond, not, List, [], map, ℕ, ltb, eqb, ℤ, length, take, drop, Answer}
use Rattle.laws.specs.Prelude.{refused, given, is_given, all, any, over}
use Rattle.pixel_segment.specs.Field.{cpu, layer_id_of}
use Rattle.cover_statements.specs.Carry.{is_light}
use Rattle.layer_table.specs.Lookup.{lookup}
use Rattle.styling.specs.declared.Layer.{Layer}
use Rattle.queue_statements.specs.Queue.{Carry, zeros, ids_in, covers_in}
use Rattle.tile_layers.specs.Groups.{Group, groups_of}

-- a listed layer: its incoming cover, and its own segments in the tile
pub record Listed : Type 0 where
  pub id : ℕ
  pub cover : List ℤ
  pub own : List ℕ

-- a listed layer where a list has none
abbrev pub no_listed : Listed
no_listed = record { id = 0; cover = []; own = [] }

-- a carry alone, segments alone, and both
abbrev pub carried : Carry → Listed
carried c = record { id = c.id; cover = c.cover; own = [] }

abbrev pub fresh : Group → Listed
fresh g = record { id = g.id; cover = zeros; own = g.own }

abbrev pub joined : Carry → Group → Listed
joined c g = record { id = c.id; cover = c.cover; own = g.own }

-- carries and groups merged by layer id
unfoldable pub list_of : List Carry → List Group → List Listed
list_of [] gs = map fresh gs
list_of (c ∷ q) [] = map carried (c ∷ q)
list_of (c ∷ q) (g ∷ gs) =
    cond (ltb c.id g.id) (carried c ∷ list_of q (g ∷ gs))
    (cond (ltb g.id c.id) (fresh g ∷ list_of (c ∷ q) gs) (joined c g ∷ list_of q gs))

-- the layers of a tile, of the queue that comes in and the tile's part of the row
abbrev pub layers_in : List Carry → List ℕ → List Listed
layers_in q part = list_of q (groups_of part)

-- ---- who is listed: a layer with a carry or a segment

abbrev pub is_listed : List Listed → ℕ → Bool
is_listed ls id = any (λ l. eqb l.id id) ls

abbrev pub has_carry : List Carry → ℕ → Bool
has_carry q id = any (λ c. eqb c.id id) q

abbrev pub has_segment : List ℕ → ℕ → Bool
has_segment part id = any (λ w. eqb (layer_id_of cpu w) id) part

-- ---- the list as it is lent, a column for each: layer ids, incoming covers, and the flags of each layer, whether it has segments in the tile and
-- whether it is changed

abbrev pub has_any : List ℕ → Bool
has_any [] = false
has_any (w ∷ ws) = true

-- the layers' ids and incoming covers, as a queue has them
abbrev pub incoming_of : List Listed → List Carry
incoming_of ls = map (λ l. record { id = l.id; cover = l.cover }) ls

abbrev pub segments_of : List Listed → List Bool
segments_of ls = map (λ l. has_any l.own) ls

-- a layer is changed where the table does not say that it is unchanged (W-208)
abbrev pub is_changed_by : Answer Layer → Bool
is_changed_by (refused n) = true
is_changed_by (given l) = not l.is_unchanged

abbrev pub is_changed : List Layer → ℕ → Bool
is_changed table id = is_changed_by (lookup table id)

abbrev pub changed_of : List Layer → List Listed → List Bool
changed_of table ls = map (λ l. is_changed table l.id) ls

-- what a lent list holds after `ws` is written from place k on
unfoldable pub over_from : ℕ → List Bool → List Bool → List Bool
over_from k ws old = take k old ++ over ws (drop k old)

-- the flags: of layer i that at place i says whether it has segments, that at place 256 + i whether it is changed
abbrev pub flags_over : List Layer → List Listed → List Bool → List Bool
flags_over table ls old = over_from 256 (changed_of table ls) (over (segments_of ls) old)

-- the three columns, written over what they held
pub record Lists (table : List Layer) (ls : List Listed) (oldIds : List ℕ) (oldCovers : List ℤ) (oldFlags : List Bool) (ids : List ℕ) (covers : List ℤ) (flags : List Bool) : Type 0 where
  pub ids_are : ids ≡ over (ids_in (incoming_of ls)) oldIds
  pub covers_are : covers ≡ over (covers_in (incoming_of ls)) oldCovers
  pub flags_are : flags ≡ flags_over table ls oldFlags

-- the columns have an entry for each layer
pub record ListRoom (ls : List Listed) (ids : List ℕ) (covers : List ℤ) (flags : List Bool) : Type 0 where
  pub ids_long : length ls ≤ length ids
  pub covers_long : 16 * length ls ≤ length covers
  pub flags_long : 256 + length ls ≤ length flags

-- ---- refusals of a list

-- 7: more than 256 layers
abbrev pub is_too_many : List Listed → Bool
is_too_many ls = ltb 256 (length ls)

-- 8 does not apply: every listed layer is in the table
abbrev pub are_known : List Layer → List Listed → Bool
are_known table ls = all (λ l. is_given (lookup table l.id)) ls

-- 9 does not apply: no layer's covers grow too large
abbrev pub are_light : List Listed → Bool
are_light ls = all (λ l. is_light cpu 16 l.cover l.own) ls
