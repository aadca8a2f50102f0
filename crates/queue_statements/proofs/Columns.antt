-- A queue written to two columns reads back, and is in order. For every queue whose covers have 16 numbers. Assumes nothing.
use Rattle.std.specs.Prelude.{◌≡◌, ◌∷◌, ◌++◌, ◌+◌, ◌*◌, ◌≤◌, ◌<◌}
use Rattle.laws.proofs.Prelude.{refl, sym, ap, ap₂, ◌∙◌, Bool, true, List, [], append_assoc, append-nil, ℕ, zero, suc}
use Rattle.laws.proofs.Prelude.{not-suc-le-zero, le_of_suc-le-suc, arith, eqb-true, le-leb, eqb, leb, ℤ, length, get_or, take, drop, length-append}
use Rattle.laws.proofs.Prelude.{List·getD-append, take_at, over, all, left, right, both, is_tabulate}
use lib.Seq.{drop-append-add}
use Rattle.styling.specs.Ascending.{strictly_ascends}
use Rattle.cover_statements.specs.Cover.{cover_at}
use Rattle.cover_statements.specs.Entry.{cover_entry}
use Rattle.cover_statements.proofs.Entries.{entry_at_lem}
use Rattle.queue_statements.specs.Queue.{Carry, carry_at, queue_of, ids_in, covers_in, is_queue, no_carry}
use Rattle.queue_statements.proofs.Queues.{length_ids, get_d_ids}

-- every cover has a number for each of 16 pixel rows
abbrev pub is_wide : Carry → Bool
is_wide c = eqb (length c.cover) 16

abbrev pub are_wide : List Carry → Bool
are_wide q = all is_wide q

pub length_covers : (q : List Carry) → are_wide q ≡ true → length (covers_in q) ≡ length q * 16
unfolding covers_in
length_covers [] h = refl
length_covers (c ∷ q) h =
    omega (
      arith,
      length-append c.cover (covers_in q),
      eqb-true (length c.cover) 16 (left (is_wide c) (are_wide q) h),
      length_covers q (right (is_wide c) (are_wide q) h),
    )

wide : (c : Carry) (q : List Carry) → are_wide (c ∷ q) ≡ true → length c.cover ≡ 16
wide c q h = eqb-true (length c.cover) 16 (left (is_wide c) (are_wide q) h)

-- the entry at a place, whatever follows the queue
entry : (q : List Carry) (more : List ℤ) (i : ℕ) → are_wide q ≡ true → i < length q → take 16 (drop (i * 16) (covers_in q ++ more)) ≡ (get_or q i no_carry).cover
unfolding covers_in
entry [] more i h p = absurd (not-suc-le-zero p)
entry (c ∷ q) more zero h p =
    rw (append_assoc c.cover (covers_in q) more) (take_at c.cover (covers_in q ++ more) 16 (wide c q h))
entry (c ∷ q) more (suc i) h p =
    let rest = covers_in q ++ more in
    let past : suc i * 16 ≡ length c.cover + i * 16 = omega (arith, wide c q h) in
    rw (append_assoc c.cover (covers_in q) more, past, drop-append-add c.cover rest (i * 16))
    (entry q more i (right (is_wide c) (are_wide q) h) (le_of_suc-le-suc p))

-- the covers, number by number
pub covers_at : (q : List Carry) (i y : ℕ) → are_wide q ≡ true → i < length q → y < 16 → cover_at (covers_in q) (i * 16 + y) ≡ cover_at (get_or q i no_carry).cover y
unfolding cover_entry
covers_at q i y h p l =
    sym (entry_at_lem 16 i (covers_in q) y l)
    ∙ ap (λ (c : List ℤ). cover_at (take 16 (drop (i * 16) c)) y) (sym (append-nil (covers_in q)))
    ∙ ap (λ (c : List ℤ). cover_at c y) (entry q [] i h p)

-- ---- a queue written over what two columns held

module _ (q : List Carry) (ids : List ℕ) (covers : List ℤ) where
  pub take_ids : take (length q) (over (ids_in q) ids) ≡ ids_in q
  unfolding over
  take_ids = take_at (ids_in q) _ (length q) (length_ids q)

  carry_at_lem : are_wide q ≡ true → (i : ℕ) → i < length q → carry_at (over (ids_in q) ids) (over (covers_in q) covers) i ≡ get_or q i no_carry
  unfolding over cover_entry
  carry_at_lem h i p =
      ap₂ (λ (x : ℕ) (c : List ℤ). record { id = x; cover = c })
      (List·getD-append (ids_in q) _ 0 i (rw (length_ids q) p) ∙ get_d_ids q i)
      (entry q _ i h p)

  -- it reads back
  pub reads_back : are_wide q ≡ true → queue_of (length q) (over (ids_in q) ids) (over (covers_in q) covers) ≡ q
  unfolding queue_of
  reads_back h =
      sym (is_tabulate (length q) (carry_at (over (ids_in q) ids) (over (covers_in q) covers)) no_carry q refl (λ i p. sym (carry_at_lem h i p)))

  -- and refusal 5 does not apply
  pub in_order : length q ≤ 256 → strictly_ascends (ids_in q) ≡ true → is_queue (length q) (over (ids_in q) ids) ≡ true
  unfolding is_queue
  in_order few a = both (leb (length q) 256) (strictly_ascends (take (length q) (over (ids_in q) ids))) (le-leb (length q) 256 few) (rw take_ids a)
