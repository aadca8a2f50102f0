-- The carries that a tile hands on, by the layers of its list: they ascend as the list does, and hold of each layer its carry, or zeros where
-- that is empty by the layer's rule. Assumes nothing.
use Rattle.std.specs.Prelude.{◌≡◌, ◌∷◌, ◌≤◌}
use Rattle.laws.proofs.Prelude.{refl, sym, ap, ap₂, ◌∙◌, Bool, true, false, cond, not, ⊎_elim, List, [], map, ℕ, suc, arith, le-leb}
use Rattle.laws.proofs.Prelude.{leb, ℤ, filter, both, eq_or_ne}
use Rattle.laws.proofs.Bools.{either_way}
use Rattle.pixel_segment.specs.Field.{cpu}
use Rattle.styling.specs.Ascending.{strictly_ascends_from}
use Rattle.styling.specs.declared.FillRule.{FillRule}
use Rattle.styling.specs.declared.Layer.{Layer}
use Rattle.styling.proofs.Ascents.{ascends_head, ascends_tail, ascends_weaken}
use Rattle.cover_statements.specs.Carry.{carry_of}
use Rattle.cover_statements.specs.Cover.{is_empty}
use Rattle.cover_statements.proofs.Carries.{carry_none}
use Rattle.queue_statements.specs.Queue.{Carry, ids_in, zeros, held_in}
use Rattle.queue_statements.proofs.Queues.{held_here, held_past}
use Rattle.tile_layers.specs.Listing.{Listed, incoming_of}
use Rattle.layer_carrying.specs.Carrying.{rule_in, carry_for, is_carried, handed_on}
use Rattle.tile_layers.proofs.Ordering.{listed_ids}
use Rattle.row_carries.proofs.Merged.{own_in, own_past, unlisted_held, unlisted_own, low_unlisted, head_held, head_own}

-- ---- they ascend

pub handed_ascends : (table : List Layer) (low : ℕ) (ls : List Listed) → strictly_ascends_from low (listed_ids ls) ≡ true → strictly_ascends_from low (ids_in (handed_on table ls)) ≡ true
unfolding handed_on strictly_ascends_from
handed_ascends table low [] h = refl
handed_ascends table low (l ∷ ls) h =
    by (is_carried table (carry_for l)) (handed_ascends table (suc l.id) ls (ascends_tail low l.id (listed_ids ls) h))
  where
    above : low ≤ l.id
    above = ascends_head low l.id (listed_ids ls) h

    rest : List Carry
    rest = filter (is_carried table) (map carry_for ls)

    by : (t : Bool) → strictly_ascends_from (suc l.id) (ids_in rest) ≡ true → strictly_ascends_from low (ids_in (cond t (carry_for l ∷ rest) rest)) ≡ true
    by true r = both (leb low l.id) (strictly_ascends_from (suc l.id) (ids_in rest)) (le-leb low l.id above) r
    by false r = ascends_weaken (suc l.id) low (ids_in rest) (omega (arith, above)) r

-- ---- what they hold

-- a carry, or zeros where it is dropped
abbrev pub or_dropped : FillRule → List ℤ → List ℤ
or_dropped rule carry = cond (is_empty rule carry) zeros carry

-- a layer without a cover and without segments
nothing : (rule : FillRule) (cover : List ℤ) (own : List ℕ) → cover ≡ zeros → own ≡ [] → or_dropped rule (carry_of cpu 16 cover own) ≡ zeros
nothing rule cover own c o =
    ap (or_dropped rule) (ap₂ (carry_of cpu 16) c o ∙ carry_none cpu 16 zeros refl) ∙ either_way (is_empty rule zeros) zeros

module _ (table : List Layer) where
  -- one more layer in front
  other : (l : Listed) (ls : List Listed) (id : ℕ) → (l.id ≡ id → ⊥) → held_in (handed_on table (l ∷ ls)) id ≡ held_in (handed_on table ls) id
  unfolding handed_on
  other l ls id e = by (is_carried table (carry_for l))
    where
      by : (t : Bool) → held_in (cond t (carry_for l ∷ handed_on table ls) (handed_on table ls)) id ≡ held_in (handed_on table ls) id
      by true = held_past (carry_for l) (handed_on table ls) id e
      by false = refl

  own : (l : Listed) (ls : List Listed) → held_in (handed_on table ls) l.id ≡ zeros → held_in (handed_on table (l ∷ ls)) l.id ≡ or_dropped (rule_in table l.id) (carry_of cpu 16 l.cover l.own)
  unfolding handed_on
  own l ls e = by (is_empty (rule_in table l.id) (carry_of cpu 16 l.cover l.own))
    where
      by : (t : Bool) → held_in (cond (not t) (carry_for l ∷ handed_on table ls) (handed_on table ls)) l.id ≡ cond t zeros (carry_of cpu 16 l.cover l.own)
      by true = e
      by false = held_here (carry_for l) (handed_on table ls) l.id refl

  pub handed_held : (low : ℕ) (ls : List Listed) (id : ℕ) → strictly_ascends_from low (listed_ids ls) ≡ true → held_in (handed_on table ls) id ≡ or_dropped (rule_in table id) (carry_of cpu 16 (held_in (incoming_of ls) id) (own_in ls id))
  unfolding handed_on held_in own_in
  handed_held low [] id h = sym (nothing (rule_in table id) zeros [] refl refl)
  handed_held low (l ∷ ls) id h =
      let tail = ascends_tail low l.id (listed_ids ls) h in
      let later : (i : ℕ) → held_in (handed_on table ls) i ≡ or_dropped (rule_in table i) (carry_of cpu 16 (held_in (incoming_of ls) i) (own_in ls i)) = λ i. handed_held (suc l.id) ls i tail in
      ⊎_elim (λ (e : l.id ≡ id). here id e (later l.id)) (λ (n : l.id ≡ id → ⊥). past id n (later id)) (eq_or_ne l.id id)
    where
      past : (i : ℕ) → (l.id ≡ i → ⊥) → held_in (handed_on table ls) i ≡ or_dropped (rule_in table i) (carry_of cpu 16 (held_in (incoming_of ls) i) (own_in ls i)) → held_in (handed_on table (l ∷ ls)) i ≡ or_dropped (rule_in table i) (carry_of cpu 16 (held_in (incoming_of (l ∷ ls)) i) (own_in (l ∷ ls) i))
      past i n r =
          other l ls i n ∙ r
          ∙ ap₂ (λ (c : List ℤ) (o : List ℕ). or_dropped (rule_in table i) (carry_of cpu 16 c o))
          (sym (held_past (record { id = l.id; cover = l.cover }) (incoming_of ls) i n)) (sym (own_past l ls i n))

      first : held_in (handed_on table ls) l.id ≡ or_dropped (rule_in table l.id) (carry_of cpu 16 (held_in (incoming_of ls) l.id) (own_in ls l.id)) → held_in (handed_on table (l ∷ ls)) l.id ≡ or_dropped (rule_in table l.id) (carry_of cpu 16 (held_in (incoming_of (l ∷ ls)) l.id) (own_in (l ∷ ls) l.id))
      first r =
          let away = low_unlisted (suc l.id) ls l.id (ascends_tail low l.id (listed_ids ls) h) (omega arith) in
          own l ls (r ∙ nothing (rule_in table l.id) (held_in (incoming_of ls) l.id) (own_in ls l.id) (unlisted_held ls l.id away) (unlisted_own ls l.id away))
          ∙ ap₂ (λ (c : List ℤ) (o : List ℕ). or_dropped (rule_in table l.id) (carry_of cpu 16 c o)) (sym (head_held l ls)) (sym (head_own low l ls h))

      here : (i : ℕ) → l.id ≡ i → held_in (handed_on table ls) l.id ≡ or_dropped (rule_in table l.id) (carry_of cpu 16 (held_in (incoming_of ls) l.id) (own_in ls l.id)) → held_in (handed_on table (l ∷ ls)) i ≡ or_dropped (rule_in table i) (carry_of cpu 16 (held_in (incoming_of (l ∷ ls)) i) (own_in (l ∷ ls) i))
      here i e r = rw (← e) (first r)
