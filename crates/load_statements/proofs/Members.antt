-- The layers of a load's tiles: each is one of the eight of its table, so that no list has more than eight layers, and none is missing in the table.
-- Assumes nothing.
use Rattle.std.specs.Prelude.{◌≡◌, ◌∷◌, ◌-◌, ◌≤◌, ◌<◌}
use Rattle.laws.proofs.Prelude.{refl, Bool, true, false, cond, List, [], map, ℕ, suc, arith, ltb-true, ltb, eqb, ℤ, length}
use Rattle.laws.proofs.Prelude.{drop, is_given, all, both, left, right, all_kept}
use Rattle.laws.proofs.Maps.{all_take, all_drop}
use Rattle.pixel_segment.specs.Field.{cpu, layer_id_of}
use Rattle.segment_rows.specs.Search.{search_of, order_at, after_of, tile_part}
use Rattle.segment_rows.specs.declared.search.Key.TheVariants.{TileX, TileXAtLeast}
use Rattle.styling.specs.Ascending.{strictly_ascends_from}
use Rattle.styling.specs.declared.Layer.{Layer}
use Rattle.styling.proofs.Ascents.{ascends_head, ascends_tail}
use Rattle.layer_table.specs.Lookup.{lookup}
use Rattle.queue_statements.specs.Queue.{Carry}
use Rattle.tile_layers.specs.Groups.{Group, single, join_to, groups_of}
use Rattle.tile_layers.specs.Listing.{Listed, carried, fresh, joined, list_of, layers_in, are_known}
use Rattle.tile_layers.proofs.Ordering.{listed_ids}
use Rattle.layer_carrying.specs.Carrying.{carry_for, is_carried, handed_on}

-- ---- ids below 8 in a part, its groups, a queue, a list

abbrev pub is_low : ℕ → Bool
is_low id = ltb id 8

abbrev is_low_word : ℕ → Bool
is_low_word w = is_low (layer_id_of cpu w)

abbrev pub are_low : List ℕ → Bool
are_low ws = all is_low_word ws

abbrev pub are_carries_low : List Carry → Bool
are_carries_low q = all (λ c. is_low c.id) q

abbrev are_groups_low : List Group → Bool
are_groups_low gs = all (λ g. is_low g.id) gs

abbrev pub are_listed_low : List Listed → Bool
are_listed_low ls = all (λ l. is_low l.id) ls

pub part_low : (t : ℤ) (row : List ℕ) → are_low row ≡ true → are_low (tile_part t row) ≡ true
unfolding tile_part
part_low t row h =
    let start = after_of (search_of (order_at (TileXAtLeast t false)) row) in
    let end = after_of (search_of (order_at (TileX t)) row) in
    all_take is_low_word (end - start) (drop start row) (all_drop is_low_word start row h)

joined_low : (w : ℕ) (gs : List Group) → is_low (layer_id_of cpu w) ≡ true → are_groups_low gs ≡ true → are_groups_low (join_to w gs) ≡ true
joined_low w [] a b = both (is_low (layer_id_of cpu w)) true a refl
joined_low w (g ∷ gs) a b = by (eqb (layer_id_of cpu w) g.id)
  where
    by : (t : Bool) → are_groups_low (cond t (record { id = g.id; own = w ∷ g.own } ∷ gs) (single w ∷ (g ∷ gs))) ≡ true
    by true = b
    by false = both (is_low (layer_id_of cpu w)) (are_groups_low (g ∷ gs)) a b

groups_low : (part : List ℕ) → are_low part ≡ true → are_groups_low (groups_of part) ≡ true
unfolding groups_of
groups_low [] h = refl
groups_low (w ∷ ws) h =
    let a = is_low (layer_id_of cpu w) in
    joined_low w (groups_of ws) (left a (are_low ws) h) (groups_low ws (right a (are_low ws) h))

fresh_low : (gs : List Group) → are_groups_low gs ≡ true → are_listed_low (map fresh gs) ≡ true
fresh_low [] h = refl
fresh_low (g ∷ gs) h =
    let a = is_low g.id in
    both a (are_listed_low (map fresh gs)) (left a (are_groups_low gs) h) (fresh_low gs (right a (are_groups_low gs) h))

carried_low : (q : List Carry) → are_carries_low q ≡ true → are_listed_low (map carried q) ≡ true
carried_low [] h = refl
carried_low (c ∷ q) h =
    let a = is_low c.id in
    both a (are_listed_low (map carried q)) (left a (are_carries_low q) h) (carried_low q (right a (are_carries_low q) h))

merged_low : (q : List Carry) (gs : List Group) → are_carries_low q ≡ true → are_groups_low gs ≡ true → are_listed_low (list_of q gs) ≡ true
unfolding list_of
merged_low [] gs h k = fresh_low gs k
merged_low (c ∷ q) [] h k = carried_low (c ∷ q) h
merged_low (c ∷ q) (g ∷ gs) h k =
    by (ltb c.id g.id) (ltb g.id c.id) (merged_low q (g ∷ gs) queue k) (merged_low (c ∷ q) gs h groups) (merged_low q gs queue groups)
  where
    queue : are_carries_low q ≡ true
    queue = right (is_low c.id) (are_carries_low q) h

    groups : are_groups_low gs ≡ true
    groups = right (is_low g.id) (are_groups_low gs) k

    one : is_low c.id ≡ true
    one = left (is_low c.id) (are_carries_low q) h

    other : is_low g.id ≡ true
    other = left (is_low g.id) (are_groups_low gs) k

    by : (s t : Bool) → are_listed_low (list_of q (g ∷ gs)) ≡ true → are_listed_low (list_of (c ∷ q) gs) ≡ true → are_listed_low (list_of q gs) ≡ true
        → are_listed_low (cond s (carried c ∷ list_of q (g ∷ gs)) (cond t (fresh g ∷ list_of (c ∷ q) gs) (joined c g ∷ list_of q gs))) ≡ true
    by true t x y z = both (is_low c.id) (are_listed_low (list_of q (g ∷ gs))) one x
    by false true x y z = both (is_low g.id) (are_listed_low (list_of (c ∷ q) gs)) other y
    by false false x y z = both (is_low c.id) (are_listed_low (list_of q gs)) one z

pub list_low : (q : List Carry) (part : List ℕ) → are_carries_low q ≡ true → are_low part ≡ true → are_listed_low (layers_in q part) ≡ true
list_low q part h k = merged_low q (groups_of part) h (groups_low part k)

-- ---- what a tile hands on

carries_low : (ls : List Listed) → are_listed_low ls ≡ true → are_carries_low (map carry_for ls) ≡ true
carries_low [] h = refl
carries_low (l ∷ ls) h =
    let a = is_low l.id in
    both a (are_carries_low (map carry_for ls)) (left a (are_listed_low ls) h) (carries_low ls (right a (are_listed_low ls) h))

pub handed_low : (table : List Layer) (ls : List Listed) → are_listed_low ls ≡ true → are_carries_low (handed_on table ls) ≡ true
unfolding handed_on
handed_low table ls h = all_kept (is_carried table) (λ c. is_low c.id) (map carry_for ls) (carries_low ls h)

-- ---- few layers, and all of them in a table that has these ids

few : (low : ℕ) (ls : List Listed) → strictly_ascends_from low (listed_ids ls) ≡ true → are_listed_low ls ≡ true → length ls ≤ 8 - low
few low [] a h = omega arith
few low (l ∷ ls) a h =
    let first = ascends_head low l.id (listed_ids ls) a in
    let below = ltb-true l.id 8 (left (is_low l.id) (are_listed_low ls) h) in
    omega (arith, first, below, few (suc l.id) ls (ascends_tail low l.id (listed_ids ls) a) (right (is_low l.id) (are_listed_low ls) h))

pub at_most_8 : (ls : List Listed) → strictly_ascends_from 0 (listed_ids ls) ≡ true → are_listed_low ls ≡ true → length ls ≤ 8
at_most_8 ls a h = omega (arith, few 0 ls a h)

pub all_known : (table : List Layer) → ((id : ℕ) → id < 8 → is_given (lookup table id) ≡ true) → (ls : List Listed) → are_listed_low ls ≡ true
    → are_known table ls ≡ true
all_known table k [] h = refl
all_known table k (l ∷ ls) h =
    let a = is_low l.id in
    both (is_given (lookup table l.id)) (are_known table ls)
    (k l.id (ltb-true l.id 8 (left a (are_listed_low ls) h))) (all_known table k ls (right a (are_listed_low ls) h))
