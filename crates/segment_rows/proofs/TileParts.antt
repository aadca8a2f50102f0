-- The parts that searches find in a row in order are what they are called: the segments that pass the test, in their order. Assumes nothing.
use Rattle.std.specs.Prelude.{◌≡◌, ◌∷◌, ◌++◌, ◌+◌, ◌-◌, ◌≤◌, ◌<◌}
use Rattle.laws.proofs.Prelude.{refl, ap, ap₂, sym, subst₂, ◌∙◌, fun_ext, Bool, true, false, cond, not, ⊎_elim, List, [], ℕ, zero}
use Rattle.laws.proofs.Prelude.{suc, zero-add, arith, lt-ltb, le-ltb, le-leb, lt-leb, ltb, leb, eqb, length, get_or, take, drop}
use Rattle.laws.proofs.Prelude.{take-append-drop, length-take, length-drop, get_or-take, get_or-drop, filter, count_by, all_intro, le_or_lt}
use Rattle.laws.proofs.Prelude.{filter_all, filter_none, filter_ext}
use Rattle.laws.proofs.Filtered.{filter_append, filter_middle}
use Rattle.pixel_segment.specs.Field.{cpu, tile_of, tile_x_of, layer_id_of}
use Rattle.pixel_segment.specs.Order.{is_lt, is_eq, compare_of, compare_bool}
use Rattle.pixel_segment.proofs.Heights.{cpu_keyed}
use Rattle.segment_rows.specs.Rows.{is_row, Ordered, Words}
use Rattle.segment_rows.specs.Search.{search_of, order_at_in, last_place, after_of, between, left_part_in, tile_part_in, layer_part_in, left_part, tile_part, layer_part}
use Rattle.segment_rows.specs.declared.search.Key.TheVariants.{TileXAtLeast}
use Rattle.segment_rows.proofs.Sorted.{Split, splits, sorted_search}
use Rattle.segment_rows.proofs.Keys.{compare_tile, le_tile, is_eq_lem, is_lt_lem, sorted_by, sorted_at_least, tile_x_ordered}
use Rattle.pixel_segment.specs.Layout.{Keyed}

-- the place after the last element with the key: those below it, and those that have it
after_last : (a b : ℕ) → after_of (last_place a b) ≡ a + b
after_last a zero = omega arith
after_last a (suc b) = omega arith

module _ (at : ℕ → ℕ) (l : List ℕ) (s : Ordered at l) where
  split : Split at l (count_by (λ w. is_lt (at w)) l) (count_by (λ w. is_eq (at w)) l)
  split = splits at l s

  pub after_search : after_of (search_of at l) ≡ count_by (λ w. is_lt (at w)) l + count_by (λ w. is_eq (at w)) l
  after_search = ap after_of (sorted_search at l s) ∙ after_last (count_by (λ w. is_lt (at w)) l) (count_by (λ w. is_eq (at w)) l)

  -- the elements that have the key stand together
  pub having_part : filter (λ w. is_eq (at w)) l ≡ take (count_by (λ w. is_eq (at w)) l) (drop (count_by (λ w. is_lt (at w)) l) l)
  having_part =
      let a = count_by (λ w. is_lt (at w)) l in
      let b = count_by (λ w. is_eq (at w)) l in
      let p : ℕ → Bool = λ w. is_eq (at w) in
      let whole : take a l ++ (take b (drop a l) ++ drop b (drop a l)) ≡ l = ap (λ (r : List ℕ). take a l ++ r) (take-append-drop b (drop a l)) ∙ take-append-drop a l in
      ap (filter p) (sym whole)
      ∙ filter_middle p (take a l) (take b (drop a l)) (drop b (drop a l))
      (all_intro (λ w. not (p w)) (take a l) 0
      (λ i h.
      let q : i < a = omega (arith, length-take a l) in
      ap (λ (w : ℕ). not (p w)) (get_or-take a l i 0 q) ∙ ap (λ (r : ℕ). not (is_eq r)) (split.low i q)))
      (all_intro p (take b (drop a l)) 0
      (λ i h.
      let q : i < b = omega (arith, length-take b (drop a l)) in
      ap p (get_or-take b (drop a l) i 0 q ∙ get_or-drop a l i 0) ∙ ap is_eq (split.mid (a + i) (omega arith) (omega arith))))
      (all_intro (λ w. not (p w)) (drop b (drop a l)) 0
      (λ i h.
      let q : a + (b + i) < length l = omega (arith, length-drop b (drop a l), length-drop a l) in
      ap (λ (w : ℕ). not (p w)) (get_or-drop b (drop a l) i 0 ∙ get_or-drop a l (b + i) 0)
      ∙ not_equal (at (get_or l (a + (b + i)) 0)) (split.high (a + (b + i)) (omega arith) q)))
    where
      not_equal : (r : ℕ) → 1 < r → not (is_eq r) ≡ true
      not_equal zero g = absurd (omega arith)
      not_equal (suc zero) g = absurd (omega arith)
      not_equal (suc (suc r)) g = refl

-- ---- by a number

pub count_ext : (p q : ℕ → Bool) (l : List ℕ) → ((w : ℕ) → p w ≡ q w) → count_by p l ≡ count_by q l
count_ext p q [] h = refl
count_ext p q (w ∷ ws) h = ap₂ (λ (t : Bool) (n : ℕ). cond t 1 0 + n) (h w) (count_ext p q ws h)

none_counted : (p : ℕ → Bool) (l : List ℕ) → ((w : ℕ) → p w ≡ false) → count_by p l ≡ 0
none_counted p [] h = refl
none_counted p (w ∷ ws) h = ap₂ (λ (t : Bool) (n : ℕ). cond t 1 0 + n) (h w) (none_counted p ws h)

never_less : (b : Bool) → is_lt (compare_bool b false) ≡ false
never_less true = refl
never_less false = refl

below_is : (k m : ℕ) → is_eq (compare_bool (leb k m) false) ≡ ltb m k
below_is k m =
    ⊎_elim
    (λ (p : k ≤ m). ap (λ (b : Bool). is_eq (compare_bool b false)) (le-leb k m p) ∙ sym (le-ltb m k p))
    (λ (p : m < k). ap (λ (b : Bool). is_eq (compare_bool b false)) (lt-leb k m p) ∙ sym (lt-ltb m k p))
    (le_or_lt k m)

module _ (f : ℕ → ℕ) (k : ℕ) (l : List ℕ) (o : Ordered f l) where
  -- the search for a number below k finds the last of all that are below
  pub search_below : search_of (λ w. compare_bool (leb k (f w)) false) l ≡ last_place 0 (count_by (λ w. ltb (f w) k) l)
  search_below =
      sorted_search (λ w. compare_bool (leb k (f w)) false) l (sorted_at_least f k l o)
      ∙ ap₂ last_place
      (none_counted (λ w. is_lt (compare_bool (leb k (f w)) false)) l (λ w. never_less (leb k (f w))))
      (count_ext (λ w. is_eq (compare_bool (leb k (f w)) false)) (λ w. ltb (f w) k) l (λ w. below_is k (f w)))

  -- where it ends: after all that are below
  pub after_below : after_of (search_of (λ w. compare_bool (leb k (f w)) false) l) ≡ count_by (λ w. ltb (f w) k) l
  after_below =
      ap after_of search_below ∙ after_last 0 (count_by (λ w. ltb (f w) k) l) ∙ zero-add (count_by (λ w. ltb (f w) k) l)

  -- the elements with the number k stand between the two ends
  pub equal_part : between (after_of (search_of (λ w. compare_bool (leb k (f w)) false) l)) (after_of (search_of (λ w. compare_of (f w) k) l)) l ≡ filter (λ w. eqb (f w) k) l
  equal_part =
      let s = sorted_by f k l o in
      let a = count_by (λ w. is_lt (compare_of (f w) k)) l in
      let b = count_by (λ w. is_eq (compare_of (f w) k)) l in
      let first : after_of (search_of (λ w. compare_bool (leb k (f w)) false) l) ≡ a =
      after_below ∙ count_ext (λ w. ltb (f w) k) (λ w. is_lt (compare_of (f w) k)) l (λ w. sym (is_lt_lem (f w) k)) in
      ap₂ (λ (start end : ℕ). between start end l) first (after_search (λ w. compare_of (f w) k) l s)
      ∙ ap (λ (n : ℕ). take n (drop a l)) (add_sub_cancel_left' a b)
      ∙ sym (having_part (λ w. compare_of (f w) k) l s)
      ∙ filter_ext (λ w. is_eq (compare_of (f w) k)) (λ w. eqb (f w) k) l (λ w. is_eq_lem (f w) k)
    where
      add_sub_cancel_left' : (a b : ℕ) → a + b - a ≡ b
      add_sub_cancel_left' a b = omega arith

  -- those below it stand first
  pub below_part : between 0 (after_of (search_of (λ w. compare_bool (leb k (f w)) false) l)) l ≡ filter (λ w. ltb (f w) k) l
  below_part =
      let at : ℕ → ℕ = λ w. compare_bool (leb k (f w)) false in
      let s = sorted_at_least f k l o in
      let none : count_by (λ w. is_lt (at w)) l ≡ 0 = none_counted (λ w. is_lt (at w)) l (λ w. never_less (leb k (f w))) in
      let e : after_of (search_of at l) - 0 ≡ count_by (λ w. is_eq (at w)) l = omega (arith, after_search at l s, none) in
      ap (λ (n : ℕ). take n l) e
      ∙ ap (λ (n : ℕ). take (count_by (λ w. is_eq (at w)) l) (drop n l)) (sym none)
      ∙ sym (having_part at l s)
      ∙ filter_ext (λ w. is_eq (at w)) (λ w. ltb (f w) k) l (λ w. below_is k (f w))

  -- and those from it on stand last
  pub from_part : drop (count_by (λ w. ltb (f w) k) l) l ≡ filter (λ w. leb k (f w)) l
  from_part =
      let n = count_by (λ w. ltb (f w) k) l in
      let at : ℕ → ℕ = λ w. compare_bool (leb k (f w)) false in
      let p : ℕ → Bool = λ w. leb k (f w) in
      let cut : Split at l 0 n =
      subst₂ (Split at l)
      (none_counted (λ w. is_lt (at w)) l (λ w. never_less (leb k (f w))))
      (count_ext (λ w. is_eq (at w)) (λ w. ltb (f w) k) l (λ w. below_is k (f w)))
      (splits at l (sorted_at_least f k l o)) in
      sym
      (ap (filter p) (sym (take-append-drop n l))
      ∙ filter_append p (take n l) (drop n l)
      ∙ ap₂ ◌++◌
      (filter_none p (take n l)
      (all_intro (λ w. not (p w)) (take n l) 0
      (λ i h.
      let q : i < n = omega (arith, length-take n l) in
      ap (λ (w : ℕ). not (p w)) (get_or-take n l i 0 q) ∙ not_from (p (get_or l i 0)) (cut.mid i (omega arith) (omega arith)))))
      (filter_all p (drop n l)
      (all_intro p (drop n l) 0
      (λ i h.
      let q : n + i < length l = omega (arith, length-drop n l) in
      ap p (get_or-drop n l i 0) ∙ from (p (get_or l (n + i) 0)) (cut.high (n + i) (omega arith) q)))))
    where
      not_from : (b : Bool) → compare_bool b false ≡ 1 → not b ≡ true
      not_from true e = absurd (omega arith)
      not_from false e = refl

      from : (b : Bool) → 1 < compare_bool b false → b ≡ true
      from true e = refl
      from false e = absurd (omega arith)

-- ---- the parts of a row in order, and of a tile's part, at every tile height

module _ (ws : List ℕ) (table : Keyed ws) (ty t : ℕ) (row : List ℕ) (s : Words row) (h : is_row ws ty row ≡ true) where
  at_least : order_at_in ws (TileXAtLeast (tile_of t) false) ≡ (λ w. compare_bool (leb t (tile_x_of ws w)) false)
  at_least = fun_ext (λ w. ap (λ (b : Bool). compare_bool b false) (le_tile t (tile_x_of ws w)))

  -- the segments of a tile are those whose tile x it is
  pub tile_part_in_lem : tile_part_in ws (tile_of t) row ≡ filter (λ w. eqb (tile_x_of ws w) t) row
  tile_part_in_lem =
      ap₂ (λ (a b : ℕ → ℕ). between (after_of (search_of a row)) (after_of (search_of b row)) row) at_least (fun_ext (λ w. compare_tile (tile_x_of ws w) t))
      ∙ equal_part (tile_x_of ws) t row (tile_x_ordered ws table ty row s h)

  -- the segments left of a tile are those whose tile x is less
  pub left_part_in_lem : left_part_in ws (tile_of t) row ≡ filter (λ w. ltb (tile_x_of ws w) t) row
  left_part_in_lem =
      ap (λ (a : ℕ → ℕ). between 0 (after_of (search_of a row)) row) at_least
      ∙ below_part (tile_x_of ws) t row (tile_x_ordered ws table ty row s h)

-- the segments of a layer in a part that ascends by layer
pub layer_part_in_lem : (ws : List ℕ) (id : ℕ) (part : List ℕ) → Ordered (layer_id_of ws) part → layer_part_in ws id part ≡ filter (λ w. eqb (layer_id_of ws w) id) part
layer_part_in_lem ws id part o = equal_part (layer_id_of ws) id part o

-- in tiles 16 pixels high
module _ (ty t : ℕ) (row : List ℕ) (s : Words row) (h : is_row cpu ty row ≡ true) where
  pub tile_part_lem : tile_part (tile_of t) row ≡ filter (λ w. eqb (tile_x_of cpu w) t) row
  unfolding tile_part
  tile_part_lem = tile_part_in_lem cpu cpu_keyed ty t row s h

  pub left_part_lem : left_part (tile_of t) row ≡ filter (λ w. ltb (tile_x_of cpu w) t) row
  unfolding left_part
  left_part_lem = left_part_in_lem cpu cpu_keyed ty t row s h

pub layer_part_lem : (id : ℕ) (part : List ℕ) → Ordered (layer_id_of cpu) part → layer_part id part ≡ filter (λ w. eqb (layer_id_of cpu w) id) part
unfolding layer_part
layer_part_lem id part o = layer_part_in_lem cpu id part o
