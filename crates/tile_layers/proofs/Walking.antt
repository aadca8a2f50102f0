-- A loop over the layers of a tile: the k-th layer comes next, and what is left is the list from there on. Assumes nothing.
use Rattle.std.specs.Prelude.{◌≡◌, ◌∷◌, ◌+◌, ◌≤◌}
use Rattle.laws.proofs.Prelude.{refl, ap, ap₂, ◌∙◌, List, [], ℕ, arith, ℤ, length, drop, drop_of_length-le, nil_le, cons_lt}
use Rattle.laws.proofs.Prelude.{cons_rest}
use Rattle.queue_statements.specs.Queue.{queue_of}
use Rattle.tile_layers.specs.Groups.{groups_of}
use Rattle.tile_layers.specs.Listing.{list_of, layers_in}
use Rattle.tile_layers.specs.InnerWalk.{layers_left, listed_at, Stepped, Moved}
use Rattle.tile_layers.specs.declared.walk.Next.{Next}
use Rattle.tile_layers.proofs.Steps.{queue_past, no_groups, nothing}

pub record Walking (n : ℕ) (ids : List ℕ) (covers : List ℤ) (part : List ℕ) (i j k : ℕ) : Type 0 where
  pub within_i : i ≤ n
  pub within_j : j ≤ length part
  pub few : k ≤ i + j
  pub inside : k ≤ length (layers_in (queue_of n ids covers) part)
  pub left : drop k (layers_in (queue_of n ids covers) part) ≡ layers_left n ids covers part i j

module _ (n : ℕ) (ids : List ℕ) (covers : List ℤ) (part : List ℕ) where
  pub walk_start : Walking n ids covers part 0 0 0
  walk_start = record { within_i = omega arith; within_j = omega arith; few = omega arith; inside = omega arith; left = refl }

  module _ {i j k : ℕ} (w : Walking n ids covers part i j k) where
    -- the layer that a step finds is the k-th
    pub walk_here : (r : Next) → Stepped n ids covers part i j r → drop k (layers_in (queue_of n ids covers) part) ≡ listed_at covers part i j r ∷ layers_left n ids covers part r.i r.end
    walk_here r s = w.left ∙ s.next

    pub walk_next_lem : (r : Next) → Stepped n ids covers part i j r → Moved n part i j r → Walking n ids covers part r.i r.end (k + 1)
    walk_next_lem r s m =
        let e = walk_here r s in
        record {
          within_i = m.high_i;
          within_j = m.high_j;
          few = omega (arith, m.further);
          inside = omega (arith, cons_lt (layers_in (queue_of n ids covers) part) k e);
          left = cons_rest (layers_in (queue_of n ids covers) part) k e;
        }

    -- nothing is left once both lists are passed
    pub walk_end : n + length part ≤ i + j → drop k (layers_in (queue_of n ids covers) part) ≡ []
    walk_end h =
        w.left
        ∙ ap₂ list_of (queue_past n ids covers i (omega arith)) (ap groups_of (drop_of_length-le part {i = j} (omega arith)) ∙ no_groups)
        ∙ nothing

    pub walk_all : n + length part ≤ i + j → length (layers_in (queue_of n ids covers) part) ≡ k
    walk_all h = omega (arith, nil_le (layers_in (queue_of n ids covers) part) k (walk_end h))
