-- A layer is listed exactly where it has a carry or a segment. Assumes nothing.
use Rattle.std.specs.Prelude.{◌≡◌, ◌||◌, ◌∷◌, ◌<◌}
use Rattle.laws.proofs.Prelude.{refl, sym, ap, ◌∙◌, Bool, true, false, cond, List, [], map, ℕ, zero, suc, not-suc-le-zero}
use Rattle.laws.proofs.Prelude.{le_of_suc-le-suc, arith, ltb-false, eqb-true, eq-eqb, ltb, eqb, length, get_or, any}
use mathlib.Core.Bool.{or-true, or-false, or_assoc, or_self_left}
use Rattle.pixel_segment.specs.Field.{cpu, layer_id_of}
use Rattle.queue_statements.specs.Queue.{Carry}
use Rattle.tile_layers.specs.Groups.{Group, single, join_to, groups_of}
use Rattle.tile_layers.specs.Listing.{Listed, no_listed, carried, fresh, joined, list_of, layers_in, is_listed, has_carry, has_segment}

abbrev has_group : List Group → ℕ → Bool
has_group gs id = any (λ g. eqb g.id id) gs

-- ---- tests in another order

exchanged : (a b c d : Bool) → (a || (b || c || d)) ≡ (b || c || (a || d))
exchanged true b c d = sym (or-true (b || c))
exchanged false b c d = refl

once : (a c d : Bool) → (a || (c || d)) ≡ (a || c || (a || d))
once true c d = refl
once false c d = refl

-- ---- the groups of a part

joined_has : (w : ℕ) (gs : List Group) (id : ℕ) → has_group (join_to w gs) id ≡ (eqb (layer_id_of cpu w) id || has_group gs id)
joined_has w [] id = refl
joined_has w (g ∷ gs) id = by (eqb (layer_id_of cpu w) g.id) refl
  where
    by : (t : Bool) → eqb (layer_id_of cpu w) g.id ≡ t → has_group (cond t (record { id = g.id; own = w ∷ g.own } ∷ gs) (single w ∷ (g ∷ gs))) id ≡ (eqb (layer_id_of cpu w) id || has_group (g ∷ gs) id)
    by true e = rw (eqb-true (layer_id_of cpu w) g.id e) (sym (or_self_left (eqb g.id id) (has_group gs id)))
    by false e = refl

groups_have : (part : List ℕ) (id : ℕ) → has_group (groups_of part) id ≡ has_segment part id
unfolding groups_of
groups_have [] id = refl
groups_have (w ∷ ws) id = joined_has w (groups_of ws) id ∙ ap (λ (t : Bool). eqb (layer_id_of cpu w) id || t) (groups_have ws id)

-- ---- the merge

fresh_listed : (gs : List Group) (id : ℕ) → is_listed (map fresh gs) id ≡ has_group gs id
fresh_listed [] id = refl
fresh_listed (g ∷ gs) id = ap (λ (t : Bool). eqb g.id id || t) (fresh_listed gs id)

carried_listed : (q : List Carry) (id : ℕ) → is_listed (map carried q) id ≡ has_carry q id
carried_listed [] id = refl
carried_listed (c ∷ q) id = ap (λ (t : Bool). eqb c.id id || t) (carried_listed q id)

merged_listed : (q : List Carry) (gs : List Group) (id : ℕ) → is_listed (list_of q gs) id ≡ (has_carry q id || has_group gs id)
unfolding list_of
merged_listed [] gs id = fresh_listed gs id
merged_listed (c ∷ q) [] id = carried_listed (c ∷ q) id ∙ sym (or-false (has_carry (c ∷ q) id))
merged_listed (c ∷ q) (g ∷ gs) id =
    by (ltb c.id g.id) (ltb g.id c.id) refl refl (merged_listed q (g ∷ gs) id) (merged_listed (c ∷ q) gs id) (merged_listed q gs id)
  where
    a : Bool
    a = eqb g.id id

    b : Bool
    b = eqb c.id id

    by : (s t : Bool) → ltb c.id g.id ≡ s → ltb g.id c.id ≡ t
        → is_listed (list_of q (g ∷ gs)) id ≡ (has_carry q id || has_group (g ∷ gs) id)
        → is_listed (list_of (c ∷ q) gs) id ≡ (has_carry (c ∷ q) id || has_group gs id)
        → is_listed (list_of q gs) id ≡ (has_carry q id || has_group gs id)
        → is_listed (cond s (carried c ∷ list_of q (g ∷ gs)) (cond t (fresh g ∷ list_of (c ∷ q) gs) (joined c g ∷ list_of q gs))) id ≡ (has_carry (c ∷ q) id || has_group (g ∷ gs) id)
    by true t p r x y z = ap (λ (t : Bool). b || t) x ∙ sym (or_assoc b (has_carry q id) (has_group (g ∷ gs) id))
    by false true p r x y z = ap (λ (t : Bool). a || t) y ∙ exchanged a b (has_carry q id) (has_group gs id)
    by false false p r x y z =
        let same : c.id ≡ g.id = omega (arith, ltb-false c.id g.id p, ltb-false g.id c.id r) in
        ap (λ (t : Bool). b || t) z
        ∙ once b (has_carry q id) (has_group gs id)
        ∙ ap (λ (i : ℕ). b || has_carry q id || (eqb i id || has_group gs id)) same

-- 'The list has each layer with a segment or carry', and no other
pub listed_exactly : (q : List Carry) (part : List ℕ) (id : ℕ) → is_listed (layers_in q part) id ≡ (has_carry q id || has_segment part id)
listed_exactly q part id = merged_listed q (groups_of part) id ∙ ap (λ (t : Bool). has_carry q id || t) (groups_have part id)

-- ---- the layer in a place of a list is listed

pub listed_at : (ls : List Listed) (i : ℕ) → i < length ls → is_listed ls (get_or ls i no_listed).id ≡ true
listed_at [] i h = absurd (not-suc-le-zero h)
listed_at (l ∷ ls) zero h = rw (eq-eqb l.id l.id refl) refl
listed_at (l ∷ ls) (suc i) h =
    ap (λ (t : Bool). eqb l.id (get_or ls i no_listed).id || t) (listed_at ls i (le_of_suc-le-suc h)) ∙ or-true (eqb l.id (get_or ls i no_listed).id)

-- it has a carry or a segment
pub listed_has : (q : List Carry) (part : List ℕ) (i : ℕ) → i < length (layers_in q part)
    → (has_carry q (get_or (layers_in q part) i no_listed).id || has_segment part (get_or (layers_in q part) i no_listed).id) ≡ true
listed_has q part i h = sym (listed_exactly q part (get_or (layers_in q part) i no_listed).id) ∙ listed_at (layers_in q part) i h
