-- Laws of the walk's steps: which layer comes next. Assumes nothing.
use Rattle.std.specs.Prelude.{◌≡◌, ◌&&◌, ◌∷◌, ◌+◌, ◌≤◌, ◌<◌}
use Rattle.laws.proofs.Prelude.{refl, ap, ap₂, sym, subst, ◌∙◌, Bool, true, false, false≢true, List, [], ⊎_elim, ℕ, suc}
use Rattle.laws.proofs.Prelude.{arith, add-one, add-zero, lt-ltb, le-ltb, ltb-true, leb-true, leb-false, ltb, leb, length, get_or, drop, take}
use Rattle.laws.proofs.Prelude.{drop_of_length-le, drop-cons, ℤ, bool_byte, left, right, le_or_lt, length_tabulate, get_d_tabulate}
use native.Mathlib.Nat.{sub_self}
use Rattle.pixel_segment.specs.Field.{cpu, layer_id_of}
use Rattle.segment_rows.specs.Search.{between}
use Rattle.cover_statements.specs.Entry.{cover_entry}
use Rattle.queue_statements.specs.Queue.{Carry, carry_at, queue_of, zeros}
use Rattle.tile_layers.specs.Groups.{Group, groups_of}
use Rattle.tile_layers.specs.Listing.{carried, fresh, joined, list_of}
use Rattle.tile_layers.specs.InnerWalk.{GroupEnds, Stepped, Moved}

-- ---- merging, by what stands first

pub carry_last : (c : Carry) (q : List Carry) → list_of (c ∷ q) [] ≡ carried c ∷ list_of q []
unfolding list_of
carry_last c [] = refl
carry_last c (d ∷ q) = refl

pub group_last : (g : Group) (gs : List Group) → list_of [] (g ∷ gs) ≡ fresh g ∷ list_of [] gs
unfolding list_of
group_last g gs = refl

pub carry_first : (c : Carry) (q : List Carry) (g : Group) (gs : List Group) → c.id < g.id → list_of (c ∷ q) (g ∷ gs) ≡ carried c ∷ list_of q (g ∷ gs)
unfolding list_of
carry_first c q g gs h = rw (lt-ltb c.id g.id h)

pub group_first : (c : Carry) (q : List Carry) (g : Group) (gs : List Group) → g.id < c.id → list_of (c ∷ q) (g ∷ gs) ≡ fresh g ∷ list_of (c ∷ q) gs
unfolding list_of
group_first c q g gs h = rw (le-ltb c.id g.id (omega arith), lt-ltb g.id c.id h)

pub both_first : (c : Carry) (q : List Carry) (g : Group) (gs : List Group) → c.id ≡ g.id → list_of (c ∷ q) (g ∷ gs) ≡ joined c g ∷ list_of q gs
unfolding list_of
both_first c q g gs h = rw (le-ltb c.id g.id (omega arith), le-ltb g.id c.id (omega arith))

pub no_groups : groups_of [] ≡ []
unfolding groups_of
no_groups = refl

pub nothing : list_of [] [] ≡ []
unfolding list_of
nothing = refl

-- ---- the queue from a place on

module _ (n : ℕ) (ids : List ℕ) (covers : List ℤ) where
  pub queue_at : (i : ℕ) → i < n → drop i (queue_of n ids covers) ≡ carry_at ids covers i ∷ drop (i + 1) (queue_of n ids covers)
  unfolding queue_of
  queue_at i h =
      rw add-one
      (drop-cons (queue_of n ids covers) i (carry_at ids covers i) (rw (length_tabulate n (carry_at ids covers)) h)
      ∙ ap (λ (c : Carry). c ∷ drop (suc i) (queue_of n ids covers)) (get_d_tabulate n (carry_at ids covers) (carry_at ids covers i) i h))

  pub queue_past : (i : ℕ) → n ≤ i → drop i (queue_of n ids covers) ≡ []
  unfolding queue_of
  queue_past i h = drop_of_length-le (queue_of n ids covers) {i = i} (rw (length_tabulate n (carry_at ids covers)) h)

  module _ (part : List ℕ) (i j : ℕ) where
    no_own : between j j part ≡ []
    no_own = ap (λ (k : ℕ). take k (drop j part)) (sub_self j)

    -- the segments are all passed: a carry comes next
    pub only_carry : i < n → length part ≤ j → Stepped n ids covers part i j (record { id = get_or ids i 0; carried = true; i = i + 1; end = j })
    only_carry h g =
        let none : groups_of (drop j part) ≡ [] = ap groups_of (drop_of_length-le part g) ∙ no_groups in
        record {
          next =
              ap₂ list_of (queue_at i h) none
              ∙ carry_last (carry_at ids covers i) (drop (i + 1) (queue_of n ids covers))
              ∙ ap₂ (λ (own : List ℕ) (gs : List Group). record { id = get_or ids i 0; cover = cover_entry 16 i covers; own = own } ∷ list_of (drop (i + 1) (queue_of n ids covers)) gs) (sym no_own) (sym none);
        }

    -- the carries are all passed: a group comes next
    pub only_group : (r : ℕ) → n ≤ i → GroupEnds part j r → Stepped n ids covers part i j (record { id = layer_id_of cpu (get_or part j 0); carried = false; i = i; end = r })
    only_group r h g =
        record {
          next =
              ap₂ list_of (queue_past i h) g.group
              ∙ group_last (record { id = layer_id_of cpu (get_or part j 0); own = between j r part }) (groups_of (drop r part))
              ∙ ap (λ (q : List Carry). record { id = layer_id_of cpu (get_or part j 0); cover = zeros; own = between j r part } ∷ list_of q (groups_of (drop r part))) (sym (queue_past i h));
        }

    -- a carry of a lower layer than the next group's
    pub lower_carry : (r : ℕ) → i < n → GroupEnds part j r → get_or ids i 0 < layer_id_of cpu (get_or part j 0) → Stepped n ids covers part i j (record { id = get_or ids i 0; carried = true; i = i + 1; end = j })
    lower_carry r h g lt =
        record {
          next =
              ap₂ list_of (queue_at i h) g.group
              ∙ carry_first (carry_at ids covers i) (drop (i + 1) (queue_of n ids covers)) (record { id = layer_id_of cpu (get_or part j 0); own = between j r part }) (groups_of (drop r part)) lt
              ∙ ap₂ (λ (own : List ℕ) (gs : List Group). record { id = get_or ids i 0; cover = cover_entry 16 i covers; own = own } ∷ list_of (drop (i + 1) (queue_of n ids covers)) gs) (sym no_own) (sym g.group);
        }

    -- a group of a lower layer than the next carry's
    pub lower_group : (r : ℕ) → i < n → GroupEnds part j r → layer_id_of cpu (get_or part j 0) < get_or ids i 0 → Stepped n ids covers part i j (record { id = layer_id_of cpu (get_or part j 0); carried = false; i = i; end = r })
    lower_group r h g lt =
        record {
          next =
              ap₂ list_of (queue_at i h) g.group
              ∙ group_first (carry_at ids covers i) (drop (i + 1) (queue_of n ids covers)) (record { id = layer_id_of cpu (get_or part j 0); own = between j r part }) (groups_of (drop r part)) lt
              ∙ ap (λ (q : List Carry). record { id = layer_id_of cpu (get_or part j 0); cover = zeros; own = between j r part } ∷ list_of q (groups_of (drop r part))) (sym (queue_at i h));
        }

    -- both at once
    pub same_layer : (r : ℕ) → i < n → GroupEnds part j r → get_or ids i 0 ≡ layer_id_of cpu (get_or part j 0) → Stepped n ids covers part i j (record { id = get_or ids i 0; carried = true; i = i + 1; end = r })
    same_layer r h g eq =
        record {
          next =
              ap₂ list_of (queue_at i h) g.group
              ∙ both_first (carry_at ids covers i) (drop (i + 1) (queue_of n ids covers)) (record { id = layer_id_of cpu (get_or part j 0); own = between j r part }) (groups_of (drop r part)) eq;
        }

    -- a group, and with it a carry where one is due that is of no lower layer
    pub group_next : (r : ℕ) (is-due : Bool) → GroupEnds part j r → is-due ≡ (ltb i n && leb (get_or ids i 0) (layer_id_of cpu (get_or part j 0))) → (is-due ≡ true → layer_id_of cpu (get_or part j 0) ≤ get_or ids i 0) → Stepped n ids covers part i j (record { id = layer_id_of cpu (get_or part j 0); carried = is-due; i = i + bool_byte is-due; end = r })
    group_next r true g e h =
        let low = left (ltb i n) (leb (get_or ids i 0) (layer_id_of cpu (get_or part j 0))) (sym e) in
        let high = right (ltb i n) (leb (get_or ids i 0) (layer_id_of cpu (get_or part j 0))) (sym e) in
        let eq : get_or ids i 0 ≡ layer_id_of cpu (get_or part j 0) = omega (arith, leb-true (get_or ids i 0) (layer_id_of cpu (get_or part j 0)) high, h refl) in
        subst (λ (id : ℕ). Stepped n ids covers part i j (record { id = id; carried = true; i = i + 1; end = r })) eq (same_layer r (ltb-true i n low) g eq)
    group_next r false g e h =
        rw (add-zero i)
        (⊎_elim
        (λ (p : n ≤ i). only_group r p g)
        (λ (p : i < n). lower_group r p g (leb-false (get_or ids i 0) (layer_id_of cpu (get_or part j 0)) (sym (rw (lt-ltb i n p) at e))))
        (le_or_lt n i))

    pub group_moved : (r : ℕ) (is-due : Bool) (id : ℕ) → i ≤ n → GroupEnds part j r → is-due ≡ (ltb i n && leb (get_or ids i 0) (layer_id_of cpu (get_or part j 0))) → Moved n part i j (record { id = id; carried = is-due; i = i + bool_byte is-due; end = r })
    group_moved r true id h g e =
        let low = ltb-true i n (left (ltb i n) (leb (get_or ids i 0) (layer_id_of cpu (get_or part j 0))) (sym e)) in
        record { low_i = omega arith; high_i = omega (arith, low); low_j = omega (arith, g.further); high_j = g.within; further = omega (arith, g.further); has = λ t. low }
    group_moved r false id h g e =
        record { low_i = omega arith; high_i = omega (arith, h); low_j = omega (arith, g.further); high_j = g.within; further = omega (arith, g.further); has = λ t. absurd (false≢true t) }
