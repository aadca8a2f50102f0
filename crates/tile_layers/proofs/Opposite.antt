-- The layers of a tile of the opposite row: the row's, each with its incoming cover negated and its own segments opposite; they are judged alike.
-- Assumes nothing.
use Rattle.std.specs.Prelude.{◌≡◌, ◌&&◌, ◌∷◌}
use Rattle.laws.proofs.Prelude.{refl, ap, ap₂, sym, ◌∙◌, Bool, true, false, cond, List, [], map, ℕ, eqb, ltb, lit<, length-map}
use Rattle.laws.proofs.Prelude.{is_given, all, both, left, right, all_map}
use mathlib.Core.List.{map-map}
use Rattle.laws.proofs.Maps.{map_cond}
use Rattle.pixel_segment.specs.Field.{cpu, layer_id_of}
use Rattle.pixel_segment.specs.Opposite.{opposite_of}
use Rattle.pixel_segment.proofs.Opposite.{is_mild, are_mild, cpu_wide, opposite_field}
use Rattle.pixel_segment.proofs.Ranges.{cpu_layout}
use Rattle.styling.specs.declared.Layer.{Layer}
use Rattle.layer_table.specs.Lookup.{lookup}
use Rattle.cover_statements.specs.Opposite.{negated}
use Rattle.cover_statements.proofs.Opposite.{light_opposite}
use Rattle.queue_statements.specs.Queue.{Carry}
use Rattle.queue_statements.specs.Opposite.{opposite_carry}
use Rattle.tile_layers.specs.Groups.{Group, single, join_to, groups_of}
use Rattle.tile_layers.specs.Listing.{Listed, carried, fresh, joined, list_of, layers_in, has_any, is_too_many, are_known, are_light}

abbrev opposite_group : Group → Group
opposite_group g = record { id = g.id; own = map (opposite_of cpu) g.own }

abbrev pub opposite_listed : Listed → Listed
opposite_listed l = record { id = l.id; cover = negated l.cover; own = map (opposite_of cpu) l.own }

layer_same : (w : ℕ) → layer_id_of cpu (opposite_of cpu w) ≡ layer_id_of cpu w
layer_same w = opposite_field cpu cpu_layout w 2 (lit< tt)

-- ---- groups

single_opposite : (w : ℕ) → single (opposite_of cpu w) ≡ opposite_group (single w)
single_opposite w = λ i. record { id = layer_same w i; own = opposite_of cpu w ∷ [] }

join_opposite : (w : ℕ) (gs : List Group) → join_to (opposite_of cpu w) (map opposite_group gs) ≡ map opposite_group (join_to w gs)
join_opposite w [] = λ i. single_opposite w i ∷ []
join_opposite w (g ∷ gs) =
    (λ i. cond (eqb (layer_same w i) g.id) (record { id = g.id; own = opposite_of cpu w ∷ map (opposite_of cpu) g.own } ∷ map opposite_group gs) (single_opposite w i ∷ (opposite_group g ∷ map opposite_group gs)))
    ∙ map_cond opposite_group (eqb (layer_id_of cpu w) g.id) (record { id = g.id; own = w ∷ g.own } ∷ gs) (single w ∷ (g ∷ gs))

groups_opposite : (part : List ℕ) → groups_of (map (opposite_of cpu) part) ≡ map opposite_group (groups_of part)
unfolding groups_of
groups_opposite [] = refl
groups_opposite (w ∷ l) = ap (join_to (opposite_of cpu w)) (groups_opposite l) ∙ join_opposite w (groups_of l)

-- ---- the merge

merge_opposite : (q : List Carry) (gs : List Group) → list_of (map opposite_carry q) (map opposite_group gs) ≡ map opposite_listed (list_of q gs)
unfolding list_of
merge_opposite [] gs = map-map fresh opposite_group gs ∙ sym (map-map opposite_listed fresh gs)
merge_opposite (c ∷ q) [] = ap (λ (r : List Listed). carried (opposite_carry c) ∷ r) (map-map carried opposite_carry q ∙ sym (map-map opposite_listed carried q))
merge_opposite (c ∷ q) (g ∷ gs) =
    (λ i. cond (ltb c.id g.id) (carried (opposite_carry c) ∷ merge_opposite q (g ∷ gs) i)
    (cond (ltb g.id c.id) (fresh (opposite_group g) ∷ merge_opposite (c ∷ q) gs i) (joined (opposite_carry c) (opposite_group g) ∷ merge_opposite q gs i)))
    ∙ ap (λ (r : List Listed). cond (ltb c.id g.id) (map opposite_listed (carried c ∷ list_of q (g ∷ gs))) r)
    (map_cond opposite_listed (ltb g.id c.id) (fresh g ∷ list_of (c ∷ q) gs) (joined c g ∷ list_of q gs))
    ∙ map_cond opposite_listed (ltb c.id g.id) (carried c ∷ list_of q (g ∷ gs)) (cond (ltb g.id c.id) (fresh g ∷ list_of (c ∷ q) gs) (joined c g ∷ list_of q gs))

pub layers_opposite : (q : List Carry) (part : List ℕ) → layers_in (map opposite_carry q) (map (opposite_of cpu) part) ≡ map opposite_listed (layers_in q part)
layers_opposite q part = ap (list_of (map opposite_carry q)) (groups_opposite part) ∙ merge_opposite q (groups_of part)

-- ---- the layers' own segments have mild covers where the tile's have

abbrev pub are_own_mild : List Listed → Bool
are_own_mild ls = all (λ l. are_mild cpu l.own) ls

abbrev are_groups_mild : List Group → Bool
are_groups_mild gs = all (λ g. are_mild cpu g.own) gs

join_mild : (w : ℕ) (gs : List Group) → is_mild cpu w ≡ true → are_groups_mild gs ≡ true → are_groups_mild (join_to w gs) ≡ true
join_mild w [] h m = both (are_mild cpu (w ∷ [])) true (both (is_mild cpu w) true h refl) refl
join_mild w (g ∷ gs) h m = by (eqb (layer_id_of cpu w) g.id)
  where
    own : are_mild cpu g.own ≡ true
    own = left (are_mild cpu g.own) (are_groups_mild gs) m

    by : (t : Bool) → are_groups_mild (cond t (record { id = g.id; own = w ∷ g.own } ∷ gs) (single w ∷ (g ∷ gs))) ≡ true
    by true = both (are_mild cpu (w ∷ g.own)) (are_groups_mild gs) (both (is_mild cpu w) (are_mild cpu g.own) h own) (right (are_mild cpu g.own) (are_groups_mild gs) m)
    by false = both (are_mild cpu (w ∷ [])) (are_groups_mild (g ∷ gs)) (both (is_mild cpu w) true h refl) m

groups_mild : (part : List ℕ) → are_mild cpu part ≡ true → are_groups_mild (groups_of part) ≡ true
unfolding groups_of
groups_mild [] m = refl
groups_mild (w ∷ l) m = join_mild w (groups_of l) (left (is_mild cpu w) (are_mild cpu l) m) (groups_mild l (right (is_mild cpu w) (are_mild cpu l) m))

merge_mild : (q : List Carry) (gs : List Group) → are_groups_mild gs ≡ true → are_own_mild (list_of q gs) ≡ true
unfolding list_of
merge_mild [] gs m = all_map fresh (λ l. are_mild cpu l.own) (λ g. are_mild cpu g.own) (λ g. refl) gs ∙ m
merge_mild (c ∷ q) [] m = carried_mild q
  where
    carried_mild : (q : List Carry) → are_own_mild (map carried q) ≡ true
    carried_mild [] = refl
    carried_mild (c ∷ q) = carried_mild q
merge_mild (c ∷ q) (g ∷ gs) m =
    by (ltb c.id g.id) (ltb g.id c.id) (merge_mild q (g ∷ gs) m) (merge_mild (c ∷ q) gs rest) (merge_mild q gs rest)
  where
    rest : are_groups_mild gs ≡ true
    rest = right (are_mild cpu g.own) (are_groups_mild gs) m

    own : are_mild cpu g.own ≡ true
    own = left (are_mild cpu g.own) (are_groups_mild gs) m

    by : (s t : Bool) → are_own_mild (list_of q (g ∷ gs)) ≡ true → are_own_mild (list_of (c ∷ q) gs) ≡ true → are_own_mild (list_of q gs) ≡ true
        → are_own_mild (cond s (carried c ∷ list_of q (g ∷ gs)) (cond t (fresh g ∷ list_of (c ∷ q) gs) (joined c g ∷ list_of q gs))) ≡ true
    by true t x y z = x
    by false true x y z = both (are_mild cpu g.own) (are_own_mild (list_of (c ∷ q) gs)) own y
    by false false x y z = both (are_mild cpu g.own) (are_own_mild (list_of q gs)) own z

pub layers_mild : (q : List Carry) (part : List ℕ) → are_mild cpu part ≡ true → are_own_mild (layers_in q part) ≡ true
layers_mild q part m = merge_mild q (groups_of part) (groups_mild part m)

-- ---- what a list says and how it is judged

pub any_opposite : (l : List ℕ) → has_any (map (opposite_of cpu) l) ≡ has_any l
any_opposite [] = refl
any_opposite (w ∷ l) = refl

pub many_opposite : (ls : List Listed) → is_too_many (map opposite_listed ls) ≡ is_too_many ls
many_opposite ls = ap (ltb 256) (length-map ls opposite_listed)

pub known_opposite : (table : List Layer) (ls : List Listed) → are_known table (map opposite_listed ls) ≡ are_known table ls
known_opposite table ls = all_map opposite_listed (λ l. is_given (lookup table l.id)) (λ l. is_given (lookup table l.id)) (λ l. refl) ls

pub lights_opposite : (ls : List Listed) → are_own_mild ls ≡ true → are_light (map opposite_listed ls) ≡ are_light ls
lights_opposite [] m = refl
lights_opposite (l ∷ ls) m =
    ap₂ ◌&&◌
    (light_opposite cpu_wide l.own (left (are_mild cpu l.own) (are_own_mild ls) m) 16 l.cover)
    (lights_opposite ls (right (are_mild cpu l.own) (are_own_mild ls) m))
