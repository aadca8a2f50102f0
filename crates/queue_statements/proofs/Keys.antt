-- The place of a word's sum, once an opening's layers are known: the words that go to a layer's entry and pixel row are those of the layer and
-- the row, so what is summed there is the layer's. Assumes nothing.
use Rattle.std.specs.Prelude.{◌≡◌, ◌&&◌, ◌+◌, ◌*◌, ◌<◌}
use Rattle.laws.proofs.Prelude.{sym, ap, ◌∙◌, true, List, map, ℕ, arith, eqb-true, eq-eqb, eqb, length, get_or, length-map}
use Rattle.laws.proofs.Prelude.{List·getD-map, all, sum_by, both, left, right, same, all_at, all_intro, sum_filter}
use Rattle.laws.proofs.Sums.{sum_ext_on}
use Rattle.styling.specs.Ascending.{strictly_ascends}
use Rattle.styling.proofs.Ascents.{ascends_lt}
use Rattle.pixel_segment.specs.Field.{cpu, layer_id_of, local_y_of}
use Rattle.cover_statements.specs.Carry.{in_row}
use Rattle.queue_statements.specs.Queue.{ids_in, has_id}
use Rattle.queue_statements.specs.Opening.{open_queue, of_layer}
use Rattle.queue_statements.specs.Rank.{rank_of}
use Rattle.queue_statements.specs.InnerSums.{key_in}
use Rattle.queue_statements.proofs.Ranks.{Held, rank_is}
use Rattle.queue_statements.proofs.Inserting.{has_at, Somewhere, at, has_place}
use Rattle.queue_statements.proofs.Openings.{opening_ascends, opening_has}

-- ---- an id of an ascending list stands at its rank

pub rank_at : (ys : List ℕ) (i : ℕ) → strictly_ascends ys ≡ true → i < length ys → rank_of (get_or ys i 0) ys ≡ i
rank_at ys i a p =
    sym
    (rank_is (get_or ys i 0) ys i
    (record { within = omega arith; below = λ j q. ascends_lt 0 ys a j i q p; reached = λ q. omega arith }))

pub rank_has : (x : ℕ) (ys : List ℕ) → strictly_ascends ys ≡ true → has_id x ys ≡ true → Held x (rank_of x ys) ys
rank_has x ys a h = by (has_place x ys h)
  where
    by : Somewhere x ys → Held x (rank_of x ys) ys
    by (at i p) =
        let e : rank_of x ys ≡ i = ap (λ (k : ℕ). rank_of k ys) (sym p.same) ∙ rank_at ys i a p.within in
        rw e p

-- ---- the place of a word is that of a layer's entry and a pixel row exactly where the word has the layer and the row

module _ (ids : List ℕ) (asc : strictly_ascends ids ≡ true) where
  key_is : (w i y : ℕ) → has_id (layer_id_of cpu w) ids ≡ true → i < length ids → y < 16 → eqb (key_in ids w) (i * 16 + y) ≡ (eqb (layer_id_of cpu w) (get_or ids i 0) && eqb (local_y_of cpu w) y)
  unfolding key_in
  key_is w i y h p q =
      let id = layer_id_of cpu w in
      let held = rank_has id ids asc h in
      same (eqb (key_in ids w) (i * 16 + y)) (eqb id (get_or ids i 0) && eqb (local_y_of cpu w) y)
      (λ e.
      let s : rank_of id ids * 16 + local_y_of cpu w ≡ i * 16 + y = eqb-true (key_in ids w) (i * 16 + y) e in
      let r : rank_of id ids ≡ i = omega arith in
      both (eqb id (get_or ids i 0)) (eqb (local_y_of cpu w) y) (eq-eqb id (get_or ids i 0) (sym held.same ∙ ap (λ (k : ℕ). get_or ids k 0) r)) (eq-eqb (local_y_of cpu w) y (omega arith)))
      (λ e.
      let s : id ≡ get_or ids i 0 = eqb-true id (get_or ids i 0) (left (eqb id (get_or ids i 0)) (eqb (local_y_of cpu w) y) e) in
      let t : local_y_of cpu w ≡ y = eqb-true (local_y_of cpu w) y (right (eqb id (get_or ids i 0)) (eqb (local_y_of cpu w) y) e) in
      let r : rank_of id ids ≡ i = ap (λ (k : ℕ). rank_of k ids) s ∙ rank_at ids i asc p in
      eq-eqb (key_in ids w) (i * 16 + y) (omega (arith, r, t)))

  -- sums by place are sums by layer and row
  pub sum_at : {A : Type 0} (add : A → A → A) (z : A) → ((a : A) → add z a ≡ a) → (f : ℕ → A) (words : List ℕ) → all (λ w. has_id (layer_id_of cpu w) ids) words ≡ true → (i y : ℕ) → i < length ids → y < 16 → sum_by add z (λ w. eqb (key_in ids w) (i * 16 + y)) f words ≡ sum_by add z (in_row cpu y) f (of_layer (get_or ids i 0) words)
  sum_at add z idl f words h i y p q =
      sum_ext_on add z (λ w. has_id (layer_id_of cpu w) ids) (λ w. eqb (key_in ids w) (i * 16 + y)) (λ w. eqb (layer_id_of cpu w) (get_or ids i 0) && eqb (local_y_of cpu w) y) f words h (λ w on. key_is w i y on p q)
      ∙ sum_filter add z idl (λ w. eqb (layer_id_of cpu w) (get_or ids i 0)) (in_row cpu y) f words

-- ---- of an opening

-- every word's layer is among the ids
pub opening_all : (left : List ℕ) → all (λ w. has_id (layer_id_of cpu w) (ids_in (open_queue left))) left ≡ true
opening_all left =
    all_intro (λ w. has_id (layer_id_of cpu w) (ids_in (open_queue left))) left 0
    (λ i p.
    let id = layer_id_of cpu (get_or left i 0) in
    opening_has left id
    ∙ has_at id (map (layer_id_of cpu) left) i (rw (length-map left (layer_id_of cpu)) p) (List·getD-map (layer_id_of cpu) left i 0))

-- so its place is that of an entry
pub opening_there : (left : List ℕ) (j : ℕ) → j < length left → rank_of (layer_id_of cpu (get_or left j 0)) (ids_in (open_queue left)) < length (ids_in (open_queue left))
opening_there left j p =
    let ids = ids_in (open_queue left) in
    let id = layer_id_of cpu (get_or left j 0) in
    (rank_has id ids (opening_ascends left) (all_at (λ w. has_id (layer_id_of cpu w) ids) left (opening_all left) j 0 p)).within
