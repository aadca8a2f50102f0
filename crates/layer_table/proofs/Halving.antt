-- Halving an ascending table: what holds of the `len` places from `start` on that are left. No place outside them has the id.
-- Assumes nothing.
use Rattle.std.specs.Prelude.{◌≡◌, ◌&&◌, ◌+◌, ◌-◌, ◌/◌, ◌≤◌, ◌<◌}
use Rattle.laws.proofs.Prelude.{sym, ap, ◌∙◌, Bool, true, ⊎_elim, List, ℕ, eq-or-lt_of_le, zero-add, arith}
use Rattle.laws.proofs.Prelude.{ltb-true, eqb-true, ltb, eqb, refused, given, left, right, le_or_lt}
use Rattle.styling.specs.Ascending.{strictly_ascends}
use Rattle.layer_table.specs.Table.{id_at, table_ids}
use Rattle.layer_table.specs.Lookup.{record_place}
use Rattle.layer_table.proofs.Listed.{length_ids, get_d_ids, ids_lt}
use Rattle.layer_table.proofs.Places.{place_at, place_none}

-- a record that has the id stands in its place
pub hit : (words : List ℕ) (count id at : ℕ) → strictly_ascends (table_ids words count) ≡ true → at < count → id_at words at ≡ id → given at ≡ record_place (table_ids words count) id
hit words count id at asc h e =
    ap given (sym (zero-add at))
    ∙ sym (place_at 0 0 (table_ids words count) at id asc (rw (length_ids words count) h) (get_d_ids words count at h ∙ e))

-- as a test of the place says it
pub tried : (words : List ℕ) (count id at : ℕ) {ok : Bool} → strictly_ascends (table_ids words count) ≡ true → ok ≡ (ltb at count && eqb (id_at words at) id) → ok ≡ true → given at ≡ record_place (table_ids words count) id
tried words count id at asc e h =
    let both : (ltb at count && eqb (id_at words at) id) ≡ true = sym e ∙ h in
    hit words count id at asc (ltb-true at count (left (ltb at count) (eqb (id_at words at) id) both)) (eqb-true (id_at words at) id (right (ltb at count) (eqb (id_at words at) id) both))

pub record Halving (words : List ℕ) (count id start len : ℕ) : Type 0 where
  pub some : 0 < len
  pub within : start + len ≤ count
  pub below : (i : ℕ) → i < start → id_at words i < id
  pub above : (i : ℕ) → start + len ≤ i → i < count → id < id_at words i

pub begin : (words : List ℕ) (count id : ℕ) → 0 < count → Halving words count id 0 count
begin words count id h =
    record {
      some = h;
      within = omega arith;
      below = λ i p. absurd (omega arith);
      above = λ i p q. absurd (omega arith);
    }

module _ {words : List ℕ} {count id start len : ℕ} (left : Halving words count id start len) (asc : strictly_ascends (table_ids words count) ≡ true) where
  -- an element is at most another if it stands no later
  ordered : (i j : ℕ) → i ≤ j → j < count → id_at words i ≤ id_at words j
  ordered i j p q = ⊎_elim (λ e. omega (arith, ap (id_at words) e)) (λ l. omega (arith, ids_lt words count asc i j l q)) (eq-or-lt_of_le p)

  pub upper : 1 < len → id_at words (start + len / 2) ≤ id → Halving words count id (start + len / 2) (len - len / 2)
  upper h e =
      record {
        some = omega arith;
        within = omega arith;
        below = λ i p. omega (arith, ids_lt words count asc i (start + len / 2) p (omega arith));
        above = λ i p q. left.above i (omega arith) q;
      }

  pub lower : 1 < len → id < id_at words (start + len / 2) → Halving words count id start (len / 2)
  lower h e =
      record {
        some = omega arith;
        within = omega arith;
        below = left.below;
        above = λ i p q. omega (arith, ordered (start + len / 2) i p q);
      }

  pub found : id_at words start ≡ id → given start ≡ record_place (table_ids words count) id
  found e = hit words count id start asc (omega arith) e

  pub absent : len ≤ 1 → (id_at words start ≡ id → ⊥) → refused 8 ≡ record_place (table_ids words count) id
  absent h e = sym (place_none 0 (table_ids words count) id (λ i p q. not_at i (rw (length_ids words count) at p) (sym (get_d_ids words count i (rw (length_ids words count) at p)) ∙ q)))
    where
      not_at : (i : ℕ) → i < count → id_at words i ≡ id → ⊥
      not_at i p q =
          ⊎_elim
          (λ a. ⊎_elim (λ s. e (ap (id_at words) s ∙ q)) (λ s. omega (arith, left.above i (omega arith) p)) (eq-or-lt_of_le a))
          (λ b. omega (arith, left.below i b))
          (le_or_lt start i)

-- a table of no records has no place
pub none : (words : List ℕ) {count : ℕ} (id : ℕ) → count ≡ 0 → refused 8 ≡ record_place (table_ids words count) id
none words {count} id e = sym (place_none 0 (table_ids words count) id (λ i p q. absurd (omega (arith, p, e, length_ids words count))))
