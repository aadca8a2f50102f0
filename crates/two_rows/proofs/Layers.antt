-- What a queue and a list say of one layer: whether they have it, its cover, its segments. Assumes nothing.
use Rattle.std.specs.Prelude.{◌≡◌, ◌&&◌, ◌||◌, ◌∷◌, ◌+◌}
use Rattle.laws.proofs.Prelude.{subst, refl, ap, sym, ◌∙◌, Bool, true, false, cond, not, and-false, ⊎_elim, List, [], map}
use Rattle.laws.proofs.Prelude.{Some, None, ℕ, suc, arith, eq-eqb, ne_eqb, eqb-true, lt-ltb, eqb, ltb, any, filter, sumℕ, eq_or_ne}
use Rattle.pixel_segment.specs.Field.{cpu}
use Rattle.styling.specs.Ascending.{strictly_ascends_from}
use Rattle.styling.specs.declared.Layer.{Layer}
use Rattle.styling.proofs.Ascents.{ascends_tail}
use Rattle.cover_statements.specs.Carry.{carry_of}
use Rattle.cover_statements.specs.Cover.{is_empty}
use Rattle.queue_statements.specs.Queue.{Carry, held_in}
use Rattle.tile_layers.specs.Listing.{Listed, is_listed, has_carry, has_any, incoming_of}
use Rattle.tile_layers.proofs.Ordering.{listed_ids}
use Rattle.layer_carrying.specs.Carrying.{rule_in, carry_for, is_carried, handed_on}
use Rattle.layer_workbench.specs.Work.{entry_of}
use Rattle.row_carries.proofs.Merged.{own_in, low_unlisted, head_held, head_own}
use Rattle.row_carries.specs.Carries.{is_unlisted}
use Rattle.two_rows.specs.Apart.{entry_in, carry_in}

-- ---- lists of words

-- a list has an element exactly where its length is not 0
any_long : (l : List ℕ) → has_any l ≡ ltb 0 (sumℕ (λ w. true) (λ w. 1) l)
any_long [] = refl
any_long (w ∷ ws) = sym (lt-ltb 0 (1 + sumℕ (λ v. true) (λ v. 1) ws) (omega arith))

pub long_same : (l m : List ℕ) → sumℕ (λ w. true) (λ w. 1) l ≡ sumℕ (λ w. true) (λ w. 1) m → has_any l ≡ has_any m
long_same l m e = any_long l ∙ ap (ltb 0) e ∙ sym (any_long m)

pub any_filter : (p : ℕ → Bool) (l : List ℕ) → any p l ≡ has_any (filter p l)
any_filter p [] = refl
any_filter p (w ∷ ws) = by (p w) (any_filter p ws)
  where
    by : (t : Bool) → any p ws ≡ has_any (filter p ws) → (t || any p ws) ≡ has_any (cond t (w ∷ filter p ws) (filter p ws))
    by true e = refl
    by false e = e

-- ---- a queue

pub carry_in_lem : (q : List Carry) (id : ℕ) → carry_in q id ≡ cond (has_carry q id) (Some (record { id = id; cover = held_in q id })) None
unfolding carry_in held_in
carry_in_lem [] id = refl
carry_in_lem (c ∷ q) id = by (eqb c.id id) refl (carry_in_lem q id)
  where
    by : (t : Bool) → eqb c.id id ≡ t → carry_in q id ≡ cond (has_carry q id) (Some (record { id = id; cover = held_in q id })) None
        → cond t (Some c) (carry_in q id) ≡ cond (t || has_carry q id) (Some (record { id = id; cover = cond t c.cover (held_in q id) })) None
    by true e r = ap (λ (i : ℕ). Some (record { id = i; cover = c.cover })) (eqb-true c.id id e)
    by false e r = r

-- ---- a list that ascends

unlisted_not : (ls : List Listed) (id : ℕ) → is_unlisted ls id ≡ true → is_listed ls id ≡ false
unlisted_not [] id h = refl
unlisted_not (l ∷ ls) id h = by (eqb l.id id) (is_unlisted ls id) h (unlisted_not ls id)
  where
    by : (t u : Bool) → (not t && u) ≡ true → (u ≡ true → is_listed ls id ≡ false) → (t || is_listed ls id) ≡ false
    by true u e r = absurd (let z : ◌≡◌ {A = ℕ} 0 1 = cc in omega arith)
    by false u e r = r e

pub entry_in_lem : (table : List Layer) (low : ℕ) (ls : List Listed) (id : ℕ) → strictly_ascends_from low (listed_ids ls) ≡ true
    → entry_in (map (entry_of table) ls) id ≡ cond (is_listed ls id) (Some (record { id = id; cover = held_in (incoming_of ls) id; segments = has_any (own_in ls id) })) None
unfolding entry_in held_in own_in
entry_in_lem table low [] id h = refl
entry_in_lem table low (l ∷ ls) id h = ⊎_elim (here id) (λ (n : l.id ≡ id → ⊥). past id n (entry_in_lem table (suc l.id) ls id tail)) (eq_or_ne l.id id)
  where
    tail : strictly_ascends_from (suc l.id) (listed_ids ls) ≡ true
    tail = ascends_tail low l.id (listed_ids ls) h

    first : entry_in (map (entry_of table) (l ∷ ls)) l.id ≡ cond (is_listed (l ∷ ls) l.id) (Some (record { id = l.id; cover = held_in (incoming_of (l ∷ ls)) l.id; segments = has_any (own_in (l ∷ ls) l.id) })) None
    first = rw (head_held l ls, head_own low l ls h, eq-eqb l.id l.id refl)

    here : (i : ℕ) → l.id ≡ i → entry_in (map (entry_of table) (l ∷ ls)) i ≡ cond (is_listed (l ∷ ls) i) (Some (record { id = i; cover = held_in (incoming_of (l ∷ ls)) i; segments = has_any (own_in (l ∷ ls) i) })) None
    here i e = subst (λ (k : ℕ). entry_in (map (entry_of table) (l ∷ ls)) k ≡ cond (is_listed (l ∷ ls) k) (Some (record { id = k; cover = held_in (incoming_of (l ∷ ls)) k; segments = has_any (own_in (l ∷ ls) k) })) None) e first

    past : (i : ℕ) → (l.id ≡ i → ⊥) → entry_in (map (entry_of table) ls) i ≡ cond (is_listed ls i) (Some (record { id = i; cover = held_in (incoming_of ls) i; segments = has_any (own_in ls i) })) None → entry_in (map (entry_of table) (l ∷ ls)) i ≡ cond (is_listed (l ∷ ls) i) (Some (record { id = i; cover = held_in (incoming_of (l ∷ ls)) i; segments = has_any (own_in (l ∷ ls) i) })) None
    past i n r = rw (ne_eqb l.id i n) r

-- ---- the carries that a list hands on

module _ (table : List Layer) where
  pub handed_has : (low : ℕ) (ls : List Listed) (id : ℕ) → strictly_ascends_from low (listed_ids ls) ≡ true
      → has_carry (handed_on table ls) id ≡ (is_listed ls id && not (is_empty (rule_in table id) (carry_of cpu 16 (held_in (incoming_of ls) id) (own_in ls id))))
  unfolding handed_on held_in own_in
  handed_has low [] id h = refl
  handed_has low (l ∷ ls) id h =
      ⊎_elim (λ (e : l.id ≡ id). here id e (handed_has (suc l.id) ls l.id tail)) (λ (n : l.id ≡ id → ⊥). past id n (handed_has (suc l.id) ls id tail)) (eq_or_ne l.id id)
    where
      tail : strictly_ascends_from (suc l.id) (listed_ids ls) ≡ true
      tail = ascends_tail low l.id (listed_ids ls) h

      -- with one carry more, or without it
      more : (t : Bool) (i : ℕ) → has_carry (cond t (carry_for l ∷ handed_on table ls) (handed_on table ls)) i ≡ ((t && eqb l.id i) || has_carry (handed_on table ls) i)
      more true i = refl
      more false i = refl

      past : (i : ℕ) → (l.id ≡ i → ⊥) → has_carry (handed_on table ls) i ≡ (is_listed ls i && not (is_empty (rule_in table i) (carry_of cpu 16 (held_in (incoming_of ls) i) (own_in ls i)))) → has_carry (handed_on table (l ∷ ls)) i ≡ (is_listed (l ∷ ls) i && not (is_empty (rule_in table i) (carry_of cpu 16 (held_in (incoming_of (l ∷ ls)) i) (own_in (l ∷ ls) i))))
      past i n r = more (is_carried table (carry_for l)) i ∙ rw (ne_eqb l.id i n) (ap (λ (t : Bool). t || has_carry (handed_on table ls) i) (and-false (is_carried table (carry_for l))) ∙ r)

      first : has_carry (handed_on table ls) l.id ≡ (is_listed ls l.id && not (is_empty (rule_in table l.id) (carry_of cpu 16 (held_in (incoming_of ls) l.id) (own_in ls l.id)))) → has_carry (handed_on table (l ∷ ls)) l.id ≡ (is_listed (l ∷ ls) l.id && not (is_empty (rule_in table l.id) (carry_of cpu 16 (held_in (incoming_of (l ∷ ls)) l.id) (own_in (l ∷ ls) l.id))))
      first r =
          let away = low_unlisted (suc l.id) ls l.id tail (omega arith) in
          let none_left : has_carry (handed_on table ls) l.id ≡ false = r ∙ rw (unlisted_not ls l.id away) in
          more (is_carried table (carry_for l)) l.id ∙ rw (none_left, head_held l ls, head_own low l ls h, eq-eqb l.id l.id refl) (alone (is_carried table (carry_for l)))
        where
          alone : (t : Bool) → ((t && true) || false) ≡ t
          alone true = refl
          alone false = refl

      here : (i : ℕ) → l.id ≡ i → has_carry (handed_on table ls) l.id ≡ (is_listed ls l.id && not (is_empty (rule_in table l.id) (carry_of cpu 16 (held_in (incoming_of ls) l.id) (own_in ls l.id)))) → has_carry (handed_on table (l ∷ ls)) i ≡ (is_listed (l ∷ ls) i && not (is_empty (rule_in table i) (carry_of cpu 16 (held_in (incoming_of (l ∷ ls)) i) (own_in (l ∷ ls) i))))
      here i e r = subst (λ (k : ℕ). has_carry (handed_on table (l ∷ ls)) k ≡ (is_listed (l ∷ ls) k && not (is_empty (rule_in table k) (carry_of cpu 16 (held_in (incoming_of (l ∷ ls)) k) (own_in (l ∷ ls) k))))) e (first r)
