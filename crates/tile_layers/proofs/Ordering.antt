-- The list of a tile strictly ascends by layer id, where the queue does and the part ascends: each layer is listed once. Assumes nothing.
use Rattle.std.specs.Prelude.{◌≡◌, ◌∷◌, ◌≤◌, ◌<◌}
use Rattle.laws.proofs.Prelude.{refl, ap, Bool, true, false, cond, List, [], map, ℕ, suc, arith, le-leb, ltb-true, ltb-false}
use Rattle.laws.proofs.Prelude.{eqb-true, eqb-false, leb, ltb, eqb, length, get_or, both}
use Rattle.pixel_segment.specs.Field.{cpu, layer_id_of}
use Rattle.segment_rows.specs.Rows.{Ordered}
use Rattle.styling.specs.Ascending.{strictly_ascends_from, strictly_ascends}
use Rattle.styling.proofs.Ascents.{ascends_head, ascends_tail}
use Rattle.queue_statements.specs.Queue.{Carry, ids_in}
use Rattle.tile_layers.specs.Groups.{Group, single, join_to, groups_of}
use Rattle.tile_layers.specs.Listing.{Listed, carried, fresh, joined, list_of, layers_in}

abbrev group_ids : List Group → List ℕ
group_ids gs = map (λ g. g.id) gs

abbrev pub listed_ids : List Listed → List ℕ
listed_ids ls = map (λ l. l.id) ls

-- the first number and the rest
rising : (low x : ℕ) (xs : List ℕ) → low ≤ x → strictly_ascends_from (suc x) xs ≡ true → strictly_ascends_from low (x ∷ xs) ≡ true
unfolding strictly_ascends_from
rising low x xs h e = both (leb low x) (strictly_ascends_from (suc x) xs) (le-leb low x h) e

raised : (low low' : ℕ) (x : ℕ) (xs : List ℕ) → low' ≤ x → strictly_ascends_from low (x ∷ xs) ≡ true → strictly_ascends_from low' (x ∷ xs) ≡ true
raised low low' x xs h e = rising low' x xs h (ascends_tail low x xs e)

none_up : (low : ℕ) → strictly_ascends_from low [] ≡ true
unfolding strictly_ascends_from
none_up low = refl

-- ---- groups

tail_ordered : (w : ℕ) (ws : List ℕ) → Ordered (layer_id_of cpu) (w ∷ ws) → Ordered (layer_id_of cpu) ws
tail_ordered w ws o = record { up = λ i j p q. o.up (suc i) (suc j) (omega arith) (omega arith) }

joined_up : (low w : ℕ) (gs : List Group) → low ≤ layer_id_of cpu w → strictly_ascends_from (layer_id_of cpu w) (group_ids gs) ≡ true → strictly_ascends_from low (group_ids (join_to w gs)) ≡ true
joined_up low w [] h e = rising low (layer_id_of cpu w) [] h (none_up (suc (layer_id_of cpu w)))
joined_up low w (g ∷ gs) h e = by (eqb (layer_id_of cpu w) g.id) refl
  where
    by : (t : Bool) → eqb (layer_id_of cpu w) g.id ≡ t → strictly_ascends_from low (group_ids (cond t (record { id = g.id; own = w ∷ g.own } ∷ gs) (single w ∷ (g ∷ gs)))) ≡ true
    by true q = raised (layer_id_of cpu w) low g.id (group_ids gs) (omega (arith, eqb-true (layer_id_of cpu w) g.id q)) e
    by false q =
        let above = ascends_head (layer_id_of cpu w) g.id (group_ids gs) e in
        let apart = eqb-false (layer_id_of cpu w) g.id q in
        rising low (layer_id_of cpu w) (g.id ∷ group_ids gs) h (raised (layer_id_of cpu w) (suc (layer_id_of cpu w)) g.id (group_ids gs) (omega (arith, above, apart)) e)

pub groups_up : (low : ℕ) (part : List ℕ) → Ordered (layer_id_of cpu) part → (0 < length part → low ≤ layer_id_of cpu (get_or part 0 0)) → strictly_ascends_from low (group_ids (groups_of part)) ≡ true
unfolding groups_of
groups_up low [] o h = none_up low
groups_up low (w ∷ ws) o h =
    joined_up low w (groups_of ws) (h (omega arith)) (groups_up (layer_id_of cpu w) ws (tail_ordered w ws o) (λ p. o.up 0 1 (omega arith) (omega arith)))

-- ---- the merge

fresh_ids : (gs : List Group) → listed_ids (map fresh gs) ≡ group_ids gs
fresh_ids [] = refl
fresh_ids (g ∷ gs) = ap (λ (r : List ℕ). g.id ∷ r) (fresh_ids gs)

carried_ids : (q : List Carry) → listed_ids (map carried q) ≡ ids_in q
carried_ids [] = refl
carried_ids (c ∷ q) = ap (λ (r : List ℕ). c.id ∷ r) (carried_ids q)

pub merge_up : (low : ℕ) (q : List Carry) (gs : List Group) → strictly_ascends_from low (ids_in q) ≡ true → strictly_ascends_from low (group_ids gs) ≡ true → strictly_ascends_from low (listed_ids (list_of q gs)) ≡ true
unfolding list_of
merge_up low [] gs a b = rw (fresh_ids gs) b
merge_up low (c ∷ q) [] a b = rw (carried_ids q) a
merge_up low (c ∷ q) (g ∷ gs) a b =
    let qa = ascends_tail low c.id (ids_in q) a in
    let gb = ascends_tail low g.id (group_ids gs) b in
    by (ltb c.id g.id) (ltb g.id c.id) refl refl
    (λ h. merge_up (suc c.id) q (g ∷ gs) qa (raised low (suc c.id) g.id (group_ids gs) h b))
    (λ h. merge_up (suc g.id) (c ∷ q) gs (raised low (suc g.id) c.id (ids_in q) h a) gb)
    (λ h. merge_up (suc c.id) q gs qa (rw (← h) at gb))
  where
    by : (s t : Bool) → ltb c.id g.id ≡ s → ltb g.id c.id ≡ t
        → (c.id < g.id → strictly_ascends_from (suc c.id) (listed_ids (list_of q (g ∷ gs))) ≡ true)
        → (g.id < c.id → strictly_ascends_from (suc g.id) (listed_ids (list_of (c ∷ q) gs)) ≡ true)
        → (c.id ≡ g.id → strictly_ascends_from (suc c.id) (listed_ids (list_of q gs)) ≡ true)
        → strictly_ascends_from low (listed_ids (cond s (carried c ∷ list_of q (g ∷ gs)) (cond t (fresh g ∷ list_of (c ∷ q) gs) (joined c g ∷ list_of q gs)))) ≡ true
    by true t p r x y z = rising low c.id (listed_ids (list_of q (g ∷ gs))) (ascends_head low c.id (ids_in q) a) (x (ltb-true c.id g.id p))
    by false true p r x y z = rising low g.id (listed_ids (list_of (c ∷ q) gs)) (ascends_head low g.id (group_ids gs) b) (y (ltb-true g.id c.id r))
    by false false p r x y z =
        let same : c.id ≡ g.id = omega (arith, ltb-false c.id g.id p, ltb-false g.id c.id r) in
        rising low c.id (listed_ids (list_of q gs)) (ascends_head low c.id (ids_in q) a) (z same)

-- the layers of a tile strictly ascend: each is listed once
pub list_ascends : (q : List Carry) (part : List ℕ) → strictly_ascends (ids_in q) ≡ true → Ordered (layer_id_of cpu) part → strictly_ascends (listed_ids (layers_in q part)) ≡ true
list_ascends q part a o = merge_up 0 q (groups_of part) a (groups_up 0 part o (λ h. omega arith))
