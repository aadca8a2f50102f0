-- A queue by its carries, and the cover that it holds for a layer: what `incoming` answers. Assumes nothing.
use Rattle.std.specs.Prelude.{◌≡◌, ◌∷◌, ◌≤◌, ◌<◌}
use Rattle.laws.proofs.Prelude.{refl, sym, ap, ◌∙◌, true, false, List, [], ℕ, zero, suc, not-suc-le-zero, le_of_suc-le-suc, arith}
use Rattle.laws.proofs.Prelude.{eq-eqb, ne_eqb, ℤ, length, get_or, take, length-map, List·getD-map, get_or-take, length-take-le, length_tabulate}
use Rattle.laws.proofs.Prelude.{get_d_tabulate, is_tabulate}
use Rattle.styling.specs.Ascending.{strictly_ascends_from}
use Rattle.styling.proofs.Ascents.{ascends_tail, ascends_low}
use Rattle.layer_table.proofs.Listed.{map_tabulate}
use Rattle.cover_statements.specs.Entry.{cover_entry}
use Rattle.queue_statements.specs.Queue.{Carry, carry_at, queue_of, ids_in, zeros, held_in, Queued, no_carry}
use Rattle.queue_statements.specs.Rank.{rank_of, holds_at}
use Rattle.queue_statements.proofs.Ranks.{Held, missed}

pub length_ids : (q : List Carry) → length (ids_in q) ≡ length q
length_ids q = length-map q (λ c. c.id)

pub get_d_ids : (q : List Carry) (i : ℕ) → get_or (ids_in q) i 0 ≡ (get_or q i no_carry).id
get_d_ids q i = List·getD-map (λ (c : Carry). c.id) q i no_carry

-- ---- over any queue

pub held_here : (c : Carry) (q : List Carry) (id : ℕ) → c.id ≡ id → held_in (c ∷ q) id ≡ c.cover
unfolding held_in
held_here c q id e = rw (eq-eqb c.id id e)

pub held_past : (c : Carry) (q : List Carry) (id : ℕ) → (c.id ≡ id → ⊥) → held_in (c ∷ q) id ≡ held_in q id
unfolding held_in
held_past c q id e = rw (ne_eqb c.id id e)

-- in an ascending queue, the carry that has the id
pub held_at : (low : ℕ) (q : List Carry) (i id : ℕ) → strictly_ascends_from low (ids_in q) ≡ true → i < length q → (get_or q i no_carry).id ≡ id → held_in q id ≡ (get_or q i no_carry).cover
held_at low [] i id h p e = absurd (not-suc-le-zero p)
held_at low (c ∷ q) zero id h p e = held_here c q id e
held_at low (c ∷ q) (suc i) id h p e =
    let tail : strictly_ascends_from (suc c.id) (ids_in q) ≡ true = ascends_tail low c.id (ids_in q) h in
    let more : i < length q = le_of_suc-le-suc p in
    let above : c.id < get_or (ids_in q) i 0 = ascends_low (suc c.id) (ids_in q) tail i (rw (length_ids q) more) in
    held_past c q id (λ s. omega (arith, above, get_d_ids q i, e, s))
    ∙ held_at (suc c.id) q i id tail more e

-- where no carry has it
pub held_none : (q : List Carry) (id : ℕ) → ((i : ℕ) → i < length q → (get_or q i no_carry).id ≡ id → ⊥) → held_in q id ≡ zeros
unfolding held_in
held_none [] id h = refl
held_none (c ∷ q) id h = held_past c q id (h 0 (omega arith)) ∙ held_none q id (λ i p. h (suc i) (omega arith))

-- ---- over the lent columns

pub length_queue : (n : ℕ) (ids : List ℕ) (covers : List ℤ) → length (queue_of n ids covers) ≡ n
unfolding queue_of
length_queue n ids covers = length_tabulate n (carry_at ids covers)

pub get_d_queue : (n : ℕ) (ids : List ℕ) (covers : List ℤ) (d : Carry) (i : ℕ) → i < n → get_or (queue_of n ids covers) i d ≡ carry_at ids covers i
unfolding queue_of
get_d_queue n ids covers d i h = get_d_tabulate n (carry_at ids covers) d i h

pub ids_queue : (n : ℕ) (ids : List ℕ) (covers : List ℤ) → n ≤ length ids → ids_in (queue_of n ids covers) ≡ take n ids
unfolding queue_of
ids_queue n ids covers h =
    map_tabulate (λ (c : Carry). c.id) n (carry_at ids covers)
    ∙ sym (is_tabulate n (λ i. get_or ids i 0) 0 (take n ids) (length-take-le n ids h) (λ i p. get_or-take n ids i 0 p))

module _ {n : ℕ} {ids : List ℕ} {covers : List ℤ} (q : Queued n ids covers) (id : ℕ) where
  pub held_lent : {place : ℕ} → Held id place (take n ids) → cover_entry 16 place covers ≡ held_in (queue_of n ids covers) id
  held_lent {place} h =
      let all = queue_of n ids covers in
      let within : place < n = omega (arith, h.within, length-take-le n ids q.ids_long) in
      let here : get_or all place no_carry ≡ carry_at ids covers place = get_d_queue n ids covers no_carry place within in
      sym
      (held_at 0 all place id (rw (ids_queue n ids covers q.ids_long) q.ascending) (rw (length_queue n ids covers) within) (rw here (sym (get_or-take n ids place 0 within) ∙ h.same))
      ∙ ap (λ (c : Carry). c.cover) here)

  pub missed_lent : {place : ℕ} → place ≡ rank_of id (take n ids) → holds_at id place (take n ids) ≡ false → zeros ≡ held_in (queue_of n ids covers) id
  missed_lent e h =
      let all = queue_of n ids covers in
      sym
      (held_none all id
      (λ i p s.
      let within : i < n = rw (length_queue n ids covers) at p in
      let here : get_or all i no_carry ≡ carry_at ids covers i = get_d_queue n ids covers no_carry i within in
      missed id (take n ids) q.ascending e h i (rw (length-take-le n ids q.ids_long) within) (get_or-take n ids i 0 within ∙ (rw here at s))))
