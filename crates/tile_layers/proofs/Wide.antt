-- Every cover of a tile's layers has a number for each of 16 pixel rows. Assumes nothing.
use Rattle.std.specs.Prelude.{◌≡◌, ◌∷◌, ◌*◌, ◌≤◌, ◌<◌}
use Rattle.laws.proofs.Prelude.{refl, ap, ◌∙◌, Bool, true, false, cond, List, [], map, ℕ, arith, eq-eqb, ltb, ℤ, length}
use Rattle.laws.proofs.Prelude.{left, right, both, all_intro, length_tabulate, get_d_tabulate}
use Rattle.cover_statements.specs.Entry.{cover_entry}
use Rattle.cover_statements.proofs.Entries.{entry_length}
use Rattle.queue_statements.specs.Queue.{Carry, carry_at, queue_of}
use Rattle.queue_statements.proofs.Columns.{is_wide, are_wide}
use Rattle.tile_layers.specs.Groups.{Group}
use Rattle.tile_layers.specs.Listing.{carried, fresh, joined, list_of, incoming_of}

pub queue_wide : (n : ℕ) (ids : List ℕ) (covers : List ℤ) → 16 * n ≤ length covers → are_wide (queue_of n ids covers) ≡ true
unfolding queue_of
queue_wide n ids covers h =
    all_intro is_wide (queue_of n ids covers) (carry_at ids covers 0)
    (λ i p.
    let q : i < n = rw (length_tabulate n (carry_at ids covers)) at p in
    ap is_wide (get_d_tabulate n (carry_at ids covers) (carry_at ids covers 0) i q)
    ∙ eq-eqb (length (cover_entry 16 i covers)) 16 (entry_length 16 i covers (omega arith)))

fresh_wide : (gs : List Group) → are_wide (incoming_of (map fresh gs)) ≡ true
fresh_wide [] = refl
fresh_wide (g ∷ gs) = fresh_wide gs

carried_wide : (q : List Carry) → are_wide q ≡ true → are_wide (incoming_of (map carried q)) ≡ true
carried_wide [] h = refl
carried_wide (c ∷ q) h =
    both (is_wide c) (are_wide (incoming_of (map carried q))) (left (is_wide c) (are_wide q) h) (carried_wide q (right (is_wide c) (are_wide q) h))

pub list_wide : (q : List Carry) (gs : List Group) → are_wide q ≡ true → are_wide (incoming_of (list_of q gs)) ≡ true
unfolding list_of
list_wide [] gs h = fresh_wide gs
list_wide (c ∷ q) [] h = carried_wide (c ∷ q) h
list_wide (c ∷ q) (g ∷ gs) h =
    by (ltb c.id g.id) (ltb g.id c.id) (list_wide q (g ∷ gs) tail) (list_wide (c ∷ q) gs h) (list_wide q gs tail)
  where
    head : is_wide c ≡ true
    head = left (is_wide c) (are_wide q) h

    tail : are_wide q ≡ true
    tail = right (is_wide c) (are_wide q) h

    by : (s t : Bool) → are_wide (incoming_of (list_of q (g ∷ gs))) ≡ true → are_wide (incoming_of (list_of (c ∷ q) gs)) ≡ true → are_wide (incoming_of (list_of q gs)) ≡ true → are_wide (incoming_of (cond s (carried c ∷ list_of q (g ∷ gs)) (cond t (fresh g ∷ list_of (c ∷ q) gs) (joined c g ∷ list_of q gs)))) ≡ true
    by true t x y z = both (is_wide c) (are_wide (incoming_of (list_of q (g ∷ gs)))) head x
    by false true x y z = y
    by false false x y z = both (is_wide c) (are_wide (incoming_of (list_of q gs))) head z
