-- Laws of the opening of a row, over any words: its ids ascend, its covers have 16 numbers, a layer has a carry exactly where a word has its
-- id, and a carry is the exact sum of its layer's covers in each pixel row. Assumes nothing.
use Rattle.std.specs.Prelude.{◌≡◌, ◌∷◌, ◌<◌, ◌+ℤ◌}
use Rattle.laws.proofs.Prelude.{refl, sym, ap, ◌∙◌, Bool, true, false, cond, ⊎_elim, List, [], map, ℕ, suc, arith, eq-eqb, ne_eqb}
use Rattle.laws.proofs.Prelude.{lt-ltb, le-ltb, eqb-true, eqb, ltb, ℤ, pos, +ℤ_idl, +ℤ_idr, +ℤ_assoc, length, length-set, tabulate, both, left}
use Rattle.laws.proofs.Prelude.{right, entry_one, eq_or_ne, is_tabulate}
use Rattle.laws.proofs.Filtered.{filter_append}
use Rattle.laws.proofs.Sums.{sumℤ_append}
use Rattle.styling.specs.Ascending.{strictly_ascends_from, strictly_ascends}
use Rattle.styling.proofs.Ascents.{ascends_tail, ascends_low}
use Rattle.pixel_segment.specs.Field.{cpu, layer_id_of, local_y_of, cover_of}
use Rattle.cover_statements.specs.Carry.{in_row, cover_in}
use Rattle.cover_statements.specs.Cover.{cover_at}
use Rattle.cover_statements.proofs.Filled.{get_d_default}
use Rattle.queue_statements.specs.Queue.{Carry, ids_in, zeros, held_in, has_id}
use Rattle.queue_statements.specs.Opening.{add_word, add_to, add_all, open_queue, of_layer}
use Rattle.queue_statements.specs.InnerInsert.{insert_id, insert_all}
use Rattle.queue_statements.proofs.Inserting.{by_order, ascends_insert, ascends_all, has_all}
use Rattle.queue_statements.proofs.Queues.{held_here, held_past, held_none, length_ids, get_d_ids}
use Rattle.queue_statements.proofs.Columns.{is_wide, are_wide}

-- ---- a step past a carry

-- the carry of a layer's first word
abbrev pub new_carry : ℕ → Carry
new_carry w = record { id = layer_id_of cpu w; cover = add_word zeros w }

-- a carry with a word more
abbrev pub more_carry : Carry → ℕ → Carry
more_carry c w = record { id = c.id; cover = add_word c.cover w }

module _ (w : ℕ) (c : Carry) (q : List Carry) where
  pub add_there : c.id ≡ layer_id_of cpu w → add_to w (c ∷ q) ≡ more_carry c w ∷ q
  unfolding add_to
  add_there e = rw (eq-eqb c.id (layer_id_of cpu w) e)

  pub add_before : layer_id_of cpu w < c.id → add_to w (c ∷ q) ≡ new_carry w ∷ (c ∷ q)
  unfolding add_to
  add_before h = rw (ne_eqb c.id (layer_id_of cpu w) (λ e. omega (arith, e)), lt-ltb (layer_id_of cpu w) c.id h)

  pub add_after : c.id < layer_id_of cpu w → add_to w (c ∷ q) ≡ c ∷ add_to w q
  unfolding add_to
  add_after h = rw (ne_eqb c.id (layer_id_of cpu w) (λ e. omega (arith, e)), le-ltb (layer_id_of cpu w) c.id (omega arith))

-- ---- the ids alone

ids_cond : (t : Bool) (p q : List Carry) → ids_in (cond t p q) ≡ cond t (ids_in p) (ids_in q)
ids_cond true p q = refl
ids_cond false p q = refl

pub ids_add : (w : ℕ) (q : List Carry) → ids_in (add_to w q) ≡ insert_id (layer_id_of cpu w) (ids_in q)
unfolding add_to insert_id
ids_add w [] = refl
ids_add w (c ∷ q) =
    let id = layer_id_of cpu w in
    ids_cond (eqb c.id id) (more_carry c w ∷ q) (cond (ltb id c.id) (new_carry w ∷ (c ∷ q)) (c ∷ add_to w q))
    ∙ ap (λ (l : List ℕ). cond (eqb c.id id) (c.id ∷ ids_in q) l)
    (ids_cond (ltb id c.id) (new_carry w ∷ (c ∷ q)) (c ∷ add_to w q)
    ∙ ap (λ (l : List ℕ). cond (ltb id c.id) (id ∷ (c.id ∷ ids_in q)) (c.id ∷ l)) (ids_add w q))

pub ids_all : (ws : List ℕ) (q : List Carry) → ids_in (add_all ws q) ≡ insert_all ws (ids_in q)
unfolding add_all insert_all
ids_all [] q = refl
ids_all (w ∷ ws) q = ids_all ws (add_to w q) ∙ ap (insert_all ws) (ids_add w q)

-- the ids of an opening ascend
pub opening_ascends : (left : List ℕ) → strictly_ascends (ids_in (open_queue left)) ≡ true
unfolding strictly_ascends_from
opening_ascends left = rw (ids_all left []) (ascends_all left [] refl)

-- a layer has a carry exactly where a word has its id
pub opening_has : (left : List ℕ) (id : ℕ) → has_id id (ids_in (open_queue left)) ≡ has_id id (map (layer_id_of cpu) left)
opening_has left id = rw (ids_all left []) (has_all id left [])

-- ---- the covers

wide_new : (cover : List ℤ) (w : ℕ) → length cover ≡ 16 → eqb (length (add_word cover w)) 16 ≡ true
wide_new cover w e = eq-eqb (length (add_word cover w)) 16 (length-set cover (local_y_of cpu w) _ ∙ e)

pub wide_add : (w : ℕ) (q : List Carry) → are_wide q ≡ true → are_wide (add_to w q) ≡ true
unfolding add_to
wide_add w [] h = both (is_wide (new_carry w)) true (wide_new zeros w refl) refl
wide_add w (c ∷ q) h =
    let one : is_wide c ≡ true = left (is_wide c) (are_wide q) h in
    let rest : are_wide q ≡ true = right (is_wide c) (are_wide q) h in
    by_order c.id (layer_id_of cpu w)
    (λ e. rw (add_there w c q e) (both (is_wide (more_carry c w)) (are_wide q) (wide_new c.cover w (eqb-true (length c.cover) 16 one)) rest))
    (λ l. rw (add_before w c q l) (both (is_wide (new_carry w)) (are_wide (c ∷ q)) (wide_new zeros w refl) h))
    (λ l. rw (add_after w c q l) (both (is_wide c) (are_wide (add_to w q)) one (wide_add w q rest)))

wide_all : (ws : List ℕ) (q : List Carry) → are_wide q ≡ true → are_wide (add_all ws q) ≡ true
unfolding add_all
wide_all [] q h = h
wide_all (w ∷ ws) q h = wide_all ws (add_to w q) (wide_add w q h)

-- every cover of an opening has 16 numbers
pub opening_wide : (left : List ℕ) → are_wide (open_queue left) ≡ true
opening_wide left = wide_all left [] refl

pub held_wide : (q : List Carry) (id : ℕ) → are_wide q ≡ true → length (held_in q id) ≡ 16
unfolding held_in
held_wide [] id h = refl
held_wide (c ∷ q) id h =
    ⊎_elim
    (λ (e : c.id ≡ id). rw (held_here c q id e) (eqb-true (length c.cover) 16 (left (is_wide c) (are_wide q) h)))
    (λ (n : c.id ≡ id → ⊥). rw (held_past c q id n) (held_wide q id (right (is_wide c) (are_wide q) h)))
    (eq_or_ne c.id id)

-- ---- what is held for a layer, a word at a time

-- nothing below the least id
pub held_low : (low : ℕ) (q : List Carry) (id : ℕ) → strictly_ascends_from low (ids_in q) ≡ true → id < low → held_in q id ≡ zeros
held_low low q id h l =
    held_none q id (λ i p e. omega (arith, ascends_low low (ids_in q) h i (rw (length_ids q) p), get_d_ids q i, e))

-- another layer's word changes nothing
held_other : (w : ℕ) (q : List Carry) (id : ℕ) → (layer_id_of cpu w ≡ id → ⊥) → held_in (add_to w q) id ≡ held_in q id
unfolding add_to
held_other w [] id n = held_past (new_carry w) [] id n
held_other w (c ∷ q) id n =
    by_order c.id (layer_id_of cpu w)
    (λ e.
    rw (add_there w c q e)
    (let m : c.id ≡ id → ⊥ = λ s. n (sym e ∙ s) in held_past (more_carry c w) q id m ∙ sym (held_past c q id m)))
    (λ l. rw (add_before w c q l) (held_past (new_carry w) (c ∷ q) id n))
    (λ l.
    rw (add_after w c q l)
    (⊎_elim
    (λ (e : c.id ≡ id). held_here c (add_to w q) id e ∙ sym (held_here c q id e))
    (λ (m : c.id ≡ id → ⊥). held_past c (add_to w q) id m ∙ held_other w q id n ∙ sym (held_past c q id m))
    (eq_or_ne c.id id)))

-- its own layer's is added
held_own : (low w : ℕ) (q : List Carry) → strictly_ascends_from low (ids_in q) ≡ true → held_in (add_to w q) (layer_id_of cpu w) ≡ add_word (held_in q (layer_id_of cpu w)) w
unfolding add_to held_in
held_own low w [] h = held_here (new_carry w) [] (layer_id_of cpu w) refl
held_own low w (c ∷ q) h =
    let id = layer_id_of cpu w in
    let tail : strictly_ascends_from (suc c.id) (ids_in q) ≡ true = ascends_tail low c.id (ids_in q) h in
    by_order c.id id
    (λ e. rw (add_there w c q e) (held_here (more_carry c w) q id e ∙ ap (λ (l : List ℤ). add_word l w) (sym (held_here c q id e))))
    (λ l.
    rw (add_before w c q l)
    (held_here (new_carry w) (c ∷ q) id refl
    ∙ ap (λ (k : List ℤ). add_word k w) (sym (held_past c q id (λ e. omega (arith, e)) ∙ held_low (suc c.id) q id tail (omega arith)))))
    (λ l.
    rw (add_after w c q l)
    (let n : c.id ≡ id → ⊥ = λ e. omega (arith, e) in
    held_past c (add_to w q) id n ∙ held_own (suc c.id) w q tail ∙ ap (λ (k : List ℤ). add_word k w) (sym (held_past c q id n))))

-- a cover with a word's added, in each pixel row
more_at : (cover : List ℤ) (w y : ℕ) → length cover ≡ 16 → cover_at (add_word cover w) y ≡ cover_at cover y +ℤ cond (eqb (local_y_of cpu w) y) (cover_of cpu w) (pos 0)
more_at cover w y e = entry_one ◌+ℤ◌ (pos 0) +ℤ_idr +ℤ_assoc (local_y_of cpu) (cover_of cpu) cover w y (omega (arith, e))

held_add : (w : ℕ) (q : List Carry) (id y : ℕ) → strictly_ascends (ids_in q) ≡ true → are_wide q ≡ true → cover_at (held_in (add_to w q) id) y ≡ cover_at (held_in q id) y +ℤ cover_in cpu y (of_layer id (w ∷ []))
held_add w q id y a h =
    ⊎_elim
    (λ (e : layer_id_of cpu w ≡ id).
    rw (← e, eq-eqb (layer_id_of cpu w) (layer_id_of cpu w) refl, held_own 0 w q a)
    (more_at (held_in q (layer_id_of cpu w)) w y (held_wide q (layer_id_of cpu w) h) ∙ ap (λ (z : ℤ). cover_at (held_in q (layer_id_of cpu w)) y +ℤ z) (sym (+ℤ_idr _))))
    (λ (n : layer_id_of cpu w ≡ id → ⊥). rw (ne_eqb (layer_id_of cpu w) id n, held_other w q id n) (sym (+ℤ_idr _)))
    (eq_or_ne (layer_id_of cpu w) id)

held_all : (ws : List ℕ) (q : List Carry) (id y : ℕ) → strictly_ascends (ids_in q) ≡ true → are_wide q ≡ true → cover_at (held_in (add_all ws q) id) y ≡ cover_at (held_in q id) y +ℤ cover_in cpu y (of_layer id ws)
unfolding add_all
held_all [] q id y a h = sym (+ℤ_idr (cover_at (held_in q id) y))
held_all (w ∷ ws) q id y a h =
    held_all ws (add_to w q) id y (rw (ids_add w q) (ascends_insert 0 (layer_id_of cpu w) (ids_in q) (omega arith) a)) (wide_add w q h)
    ∙ ap (λ (z : ℤ). z +ℤ cover_in cpu y (of_layer id ws)) (held_add w q id y a h)
    ∙ +ℤ_assoc (cover_at (held_in q id) y) (cover_in cpu y (of_layer id (w ∷ []))) (cover_in cpu y (of_layer id ws))
    ∙ ap (λ (z : ℤ). cover_at (held_in q id) y +ℤ z)
    (sym (sumℤ_append (in_row cpu y) (cover_of cpu) (of_layer id (w ∷ [])) (of_layer id ws))
    ∙ ap (cover_in cpu y) (sym (filter_append (λ v. eqb (layer_id_of cpu v) id) (w ∷ []) ws)))

-- a carry of an opening is the exact sum of its layer's covers, in each pixel row
pub opening_at : (left : List ℕ) (id y : ℕ) → cover_at (held_in (open_queue left) id) y ≡ cover_in cpu y (of_layer id left)
unfolding strictly_ascends_from held_in
opening_at left id y =
    held_all left [] id y refl refl
    ∙ ap (λ (z : ℤ). z +ℤ cover_in cpu y (of_layer id left)) (get_d_default 16 y)
    ∙ +ℤ_idl (cover_in cpu y (of_layer id left))

pub opening_held : (left : List ℕ) (id : ℕ) → held_in (open_queue left) id ≡ tabulate 16 (λ y. cover_in cpu y (of_layer id left))
opening_held left id =
    is_tabulate 16 (λ y. cover_in cpu y (of_layer id left)) (pos 0) (held_in (open_queue left) id) (held_wide (open_queue left) id (opening_wide left)) (λ y h. opening_at left id y)
