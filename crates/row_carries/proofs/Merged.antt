-- What a tile's list holds of a layer is what the queue and the part hold of it, over any ascending queue; and a list that ascends holds of a
-- layer what stands at its place. Assumes nothing.
use Rattle.std.specs.Prelude.{◌≡◌, ◌∷◌, ◌++◌, ◌≤◌, ◌<◌}
use Rattle.laws.proofs.Prelude.{refl, sym, ap, ap₂, ◌∙◌, Bool, true, false, cond, not, ⊎_elim, List, [], map, append-nil, ℕ, zero}
use Rattle.laws.proofs.Prelude.{suc, not-suc-le-zero, le_of_suc-le-suc, arith, eq-eqb, ne_eqb, eqb-true, eqb-false, not-true, ltb-true}
use Rattle.laws.proofs.Prelude.{ltb-false, eqb, ltb, ℤ, length, get_or, length-map, List·getD-map, both, left, right, eq_or_ne}
use Rattle.laws.proofs.Bools.{either_way}
use Rattle.pixel_segment.specs.Field.{cpu, layer_id_of}
use Rattle.segment_rows.specs.Rows.{Ordered}
use Rattle.styling.specs.Ascending.{strictly_ascends_from, strictly_ascends}
use Rattle.styling.proofs.Ascents.{ascends_head, ascends_tail, ascends_low}
use Rattle.queue_statements.specs.Queue.{Carry, ids_in, zeros, held_in}
use Rattle.queue_statements.specs.Opening.{of_layer}
use Rattle.queue_statements.proofs.Openings.{held_low}
use Rattle.queue_statements.proofs.Queues.{held_here, held_past}
use Rattle.tile_layers.specs.Groups.{Group, single, join_to, groups_of}
use Rattle.tile_layers.specs.Listing.{no_listed, Listed, carried, fresh, joined, list_of, layers_in, incoming_of}
use Rattle.tile_layers.proofs.Ordering.{listed_ids, list_ascends}
use Rattle.row_carries.specs.Carries.{is_unlisted}

-- ---- the segments that a list holds of a layer

unfoldable pub own_in : List Listed → ℕ → List ℕ
own_in [] id = []
own_in (l ∷ ls) id = cond (eqb l.id id) (l.own ++ own_in ls id) (own_in ls id)

pub own_here : (l : Listed) (ls : List Listed) (id : ℕ) → l.id ≡ id → own_in (l ∷ ls) id ≡ l.own ++ own_in ls id
unfolding own_in
own_here l ls id e = rw (eq-eqb l.id id e)

pub own_past : (l : Listed) (ls : List Listed) (id : ℕ) → (l.id ≡ id → ⊥) → own_in (l ∷ ls) id ≡ own_in ls id
unfolding own_in
own_past l ls id e = rw (ne_eqb l.id id e)

carried_own : (q : List Carry) (id : ℕ) → own_in (map carried q) id ≡ []
unfolding own_in
carried_own [] id = refl
carried_own (c ∷ q) id = either_way (eqb c.id id) (own_in (map carried q) id) ∙ carried_own q id

-- a list has the segments of its groups
own_merged : (q : List Carry) (gs : List Group) (id : ℕ) → own_in (list_of q gs) id ≡ own_in (map fresh gs) id
unfolding own_in list_of
own_merged [] gs id = refl
own_merged (c ∷ q) [] id = carried_own (c ∷ q) id
own_merged (c ∷ q) (g ∷ gs) id =
    by (ltb c.id g.id) (ltb g.id c.id) refl refl (own_merged q (g ∷ gs) id) (own_merged (c ∷ q) gs id) (own_merged q gs id)
  where
    by : (s t : Bool) → ltb c.id g.id ≡ s → ltb g.id c.id ≡ t
        → own_in (list_of q (g ∷ gs)) id ≡ own_in (map fresh (g ∷ gs)) id
        → own_in (list_of (c ∷ q) gs) id ≡ own_in (map fresh gs) id
        → own_in (list_of q gs) id ≡ own_in (map fresh gs) id
        → own_in (cond s (carried c ∷ list_of q (g ∷ gs)) (cond t (fresh g ∷ list_of (c ∷ q) gs) (joined c g ∷ list_of q gs))) id ≡ own_in (map fresh (g ∷ gs)) id
    by true t p r x y z = either_way (eqb c.id id) (own_in (list_of q (g ∷ gs)) id) ∙ x
    by false true p r x y z = ap (λ (o : List ℕ). cond (eqb g.id id) (g.own ++ o) o) y
    by false false p r x y z =
        let same : c.id ≡ g.id = omega (arith, ltb-false c.id g.id p, ltb-false g.id c.id r) in
        ap₂ (λ (i : ℕ) (o : List ℕ). cond (eqb i id) (g.own ++ o) o) same z

-- the groups of a part have its segments
own_join : (w : ℕ) (gs : List Group) (id : ℕ) → own_in (map fresh (join_to w gs)) id ≡ cond (eqb (layer_id_of cpu w) id) (w ∷ own_in (map fresh gs) id) (own_in (map fresh gs) id)
unfolding own_in
own_join w [] id = refl
own_join w (g ∷ gs) id = by (eqb (layer_id_of cpu w) g.id) refl
  where
    twice : (t : Bool) → cond t (w ∷ (g.own ++ own_in (map fresh gs) id)) (own_in (map fresh gs) id) ≡ cond t (w ∷ cond t (g.own ++ own_in (map fresh gs) id) (own_in (map fresh gs) id)) (cond t (g.own ++ own_in (map fresh gs) id) (own_in (map fresh gs) id))
    twice true = refl
    twice false = refl

    by : (t : Bool) → eqb (layer_id_of cpu w) g.id ≡ t → own_in (map fresh (cond t (record { id = g.id; own = w ∷ g.own } ∷ gs) (single w ∷ (g ∷ gs)))) id ≡ cond (eqb (layer_id_of cpu w) id) (w ∷ own_in (map fresh (g ∷ gs)) id) (own_in (map fresh (g ∷ gs)) id)
    by true e = rw (eqb-true (layer_id_of cpu w) g.id e) (twice (eqb g.id id))
    by false e = refl

own_groups : (part : List ℕ) (id : ℕ) → own_in (map fresh (groups_of part)) id ≡ of_layer id part
unfolding own_in groups_of
own_groups [] id = refl
own_groups (w ∷ ws) id =
    own_join w (groups_of ws) id ∙ ap (λ (o : List ℕ). cond (eqb (layer_id_of cpu w) id) (w ∷ o) o) (own_groups ws id)

pub list_own : (q : List Carry) (part : List ℕ) (id : ℕ) → own_in (layers_in q part) id ≡ of_layer id part
list_own q part id = own_merged q (groups_of part) id ∙ own_groups part id

-- ---- the cover that a list holds of a layer

fresh_held : (gs : List Group) (id : ℕ) → held_in (incoming_of (map fresh gs)) id ≡ zeros
unfolding held_in
fresh_held [] id = refl
fresh_held (g ∷ gs) id = ap (λ (o : List ℤ). cond (eqb g.id id) zeros o) (fresh_held gs id) ∙ either_way (eqb g.id id) zeros

carried_held : (q : List Carry) (id : ℕ) → held_in (incoming_of (map carried q)) id ≡ held_in q id
unfolding held_in
carried_held [] id = refl
carried_held (c ∷ q) id = ap (λ (o : List ℤ). cond (eqb c.id id) c.cover o) (carried_held q id)

-- a list has the covers of its queue
held_merged : (low : ℕ) (q : List Carry) (gs : List Group) (id : ℕ) → strictly_ascends_from low (ids_in q) ≡ true → held_in (incoming_of (list_of q gs)) id ≡ held_in q id
unfolding held_in list_of
held_merged low [] gs id a = fresh_held gs id
held_merged low (c ∷ q) [] id a = carried_held (c ∷ q) id
held_merged low (c ∷ q) (g ∷ gs) id a =
    by (ltb c.id g.id) (ltb g.id c.id) refl (held_merged (suc c.id) q (g ∷ gs) id tail) (held_merged low (c ∷ q) gs id a) (held_merged (suc c.id) q gs id tail)
  where
    tail : strictly_ascends_from (suc c.id) (ids_in q) ≡ true
    tail = ascends_tail low c.id (ids_in q) a

    none : g.id < c.id → g.id ≡ id → zeros ≡ held_in (c ∷ q) id
    none h e = sym (held_past c q id (λ s. omega (arith, h, e, s)) ∙ held_low (suc c.id) q id tail (omega (arith, h, e)))

    by : (s t : Bool) → ltb g.id c.id ≡ t
        → held_in (incoming_of (list_of q (g ∷ gs))) id ≡ held_in q id
        → held_in (incoming_of (list_of (c ∷ q) gs)) id ≡ held_in (c ∷ q) id
        → held_in (incoming_of (list_of q gs)) id ≡ held_in q id
        → held_in (incoming_of (cond s (carried c ∷ list_of q (g ∷ gs)) (cond t (fresh g ∷ list_of (c ∷ q) gs) (joined c g ∷ list_of q gs)))) id ≡ held_in (c ∷ q) id
    by true t r x y z = ap (λ (o : List ℤ). cond (eqb c.id id) c.cover o) x
    by false true r x y z =
        ⊎_elim
        (λ (e : g.id ≡ id). held_here (record { id = g.id; cover = zeros }) (incoming_of (list_of (c ∷ q) gs)) id e ∙ none (ltb-true g.id c.id r) e)
        (λ (e : g.id ≡ id → ⊥). held_past (record { id = g.id; cover = zeros }) (incoming_of (list_of (c ∷ q) gs)) id e ∙ y)
        (eq_or_ne g.id id)
    by false false r x y z = ap (λ (o : List ℤ). cond (eqb c.id id) c.cover o) z

pub list_held : (q : List Carry) (part : List ℕ) (id : ℕ) → strictly_ascends (ids_in q) ≡ true → held_in (incoming_of (layers_in q part)) id ≡ held_in q id
list_held q part id a = held_merged 0 q (groups_of part) id a

-- ---- a layer that is not listed

apart : (l : Listed) (ls : List Listed) (id : ℕ) → is_unlisted (l ∷ ls) id ≡ true → l.id ≡ id → ⊥
apart l ls id h = eqb-false l.id id (not-true (eqb l.id id) (left (not (eqb l.id id)) (is_unlisted ls id) h))

pub unlisted_held : (ls : List Listed) (id : ℕ) → is_unlisted ls id ≡ true → held_in (incoming_of ls) id ≡ zeros
unfolding held_in
unlisted_held [] id h = refl
unlisted_held (l ∷ ls) id h =
    held_past (record { id = l.id; cover = l.cover }) (incoming_of ls) id (apart l ls id h)
    ∙ unlisted_held ls id (right (not (eqb l.id id)) (is_unlisted ls id) h)

pub unlisted_own : (ls : List Listed) (id : ℕ) → is_unlisted ls id ≡ true → own_in ls id ≡ []
unfolding own_in
unlisted_own [] id h = refl
unlisted_own (l ∷ ls) id h = own_past l ls id (apart l ls id h) ∙ unlisted_own ls id (right (not (eqb l.id id)) (is_unlisted ls id) h)

-- ---- a list that ascends

-- nothing is listed below the least id
pub low_unlisted : (low : ℕ) (ls : List Listed) (id : ℕ) → strictly_ascends_from low (listed_ids ls) ≡ true → id < low → is_unlisted ls id ≡ true
low_unlisted low [] id h p = refl
low_unlisted low (l ∷ ls) id h p =
    let above : low ≤ l.id = ascends_head low l.id (listed_ids ls) h in
    both (not (eqb l.id id)) (is_unlisted ls id)
    (ap not (ne_eqb l.id id (λ e. omega (arith, above, e))))
    (low_unlisted (suc l.id) ls id (ascends_tail low l.id (listed_ids ls) h) (omega arith))

-- what it holds of the first layer
pub head_held : (l : Listed) (ls : List Listed) → held_in (incoming_of (l ∷ ls)) l.id ≡ l.cover
head_held l ls = held_here (record { id = l.id; cover = l.cover }) (incoming_of ls) l.id refl

pub head_own : (low : ℕ) (l : Listed) (ls : List Listed) → strictly_ascends_from low (listed_ids (l ∷ ls)) ≡ true → own_in (l ∷ ls) l.id ≡ l.own
head_own low l ls h =
    own_here l ls l.id refl
    ∙ ap (λ (o : List ℕ). l.own ++ o) (unlisted_own ls l.id (low_unlisted (suc l.id) ls l.id (ascends_tail low l.id (listed_ids ls) h) (omega arith)))
    ∙ append-nil l.own

above_all : (low : ℕ) (ls : List Listed) (i : ℕ) → strictly_ascends_from low (listed_ids ls) ≡ true → i < length ls → low ≤ (get_or ls i no_listed).id
above_all low ls i h p =
    omega (arith, ascends_low low (listed_ids ls) h i (rw (length-map ls (λ l. l.id)) p), List·getD-map (λ (l : Listed). l.id) ls i no_listed)

-- what it holds of the layer at a place
pub held_listed_lem : (low : ℕ) (ls : List Listed) (i : ℕ) → strictly_ascends_from low (listed_ids ls) ≡ true → i < length ls → held_in (incoming_of ls) (get_or ls i no_listed).id ≡ (get_or ls i no_listed).cover
held_listed_lem low [] i h p = absurd (not-suc-le-zero p)
held_listed_lem low (l ∷ ls) zero h p = head_held l ls
held_listed_lem low (l ∷ ls) (suc i) h p =
    let tail = ascends_tail low l.id (listed_ids ls) h in
    let above : l.id < (get_or ls i no_listed).id = above_all (suc l.id) ls i tail (le_of_suc-le-suc p) in
    held_past (record { id = l.id; cover = l.cover }) (incoming_of ls) (get_or ls i no_listed).id (λ e. omega (arith, above, e))
    ∙ held_listed_lem (suc l.id) ls i tail (le_of_suc-le-suc p)

pub own_listed : (low : ℕ) (ls : List Listed) (i : ℕ) → strictly_ascends_from low (listed_ids ls) ≡ true → i < length ls → own_in ls (get_or ls i no_listed).id ≡ (get_or ls i no_listed).own
own_listed low [] i h p = absurd (not-suc-le-zero p)
own_listed low (l ∷ ls) zero h p = head_own low l ls h
own_listed low (l ∷ ls) (suc i) h p =
    let tail = ascends_tail low l.id (listed_ids ls) h in
    let above : l.id < (get_or ls i no_listed).id = above_all (suc l.id) ls i tail (le_of_suc-le-suc p) in
    own_past l ls (get_or ls i no_listed).id (λ e. omega (arith, above, e))
    ∙ own_listed (suc l.id) ls i tail (le_of_suc-le-suc p)

-- ---- the list of a tile, from any ascending queue and ordered part

module _ (q : List Carry) (part : List ℕ) (up : strictly_ascends (ids_in q) ≡ true) (ordered : Ordered (layer_id_of cpu) part) where
  ascending : strictly_ascends (listed_ids (layers_in q part)) ≡ true
  ascending = list_ascends q part up ordered

  pub listed_cover : (i : ℕ) → i < length (layers_in q part) → (get_or (layers_in q part) i no_listed).cover ≡ held_in q (get_or (layers_in q part) i no_listed).id
  listed_cover i h = sym (held_listed_lem 0 (layers_in q part) i ascending h) ∙ list_held q part (get_or (layers_in q part) i no_listed).id up

  pub listed_own : (i : ℕ) → i < length (layers_in q part) → (get_or (layers_in q part) i no_listed).own ≡ of_layer (get_or (layers_in q part) i no_listed).id part
  listed_own i h = sym (own_listed 0 (layers_in q part) i ascending h) ∙ list_own q part (get_or (layers_in q part) i no_listed).id

  pub unlisted_cover : (id : ℕ) → is_unlisted (layers_in q part) id ≡ true → held_in q id ≡ zeros
  unlisted_cover id h = sym (list_held q part id up) ∙ unlisted_held (layers_in q part) id h

  pub unlisted_none : (id : ℕ) → is_unlisted (layers_in q part) id ≡ true → of_layer id part ≡ []
  unlisted_none id h = sym (list_own q part id) ∙ unlisted_own (layers_in q part) id h
