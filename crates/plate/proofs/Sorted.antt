-- The rows of segments in order are the segments of those rows. Assumes nothing.
use Rattle.std.specs.Prelude.{◌≡◌, ◌+◌, ◌-◌, ◌%◌, ◌≤◌, ◌<◌, ◌-ℤ◌}
use Rattle.laws.proofs.Prelude.{refl, ap, sym, subst, ◌∙◌, fun_ext, Bool, true, false, not, false≢true, ⊎_elim, List, ℕ, zero, suc}
use Rattle.laws.proofs.Prelude.{arith, leb, eqb, ltb, ℤ, pos, length, get_or, take, drop, length-take, get_or-take, le_z, filter}
use Rattle.laws.proofs.Prelude.{count_by, le_or_lt, filter_ext}
use Rattle.pixel_segment.specs.Field.{cpu, tile_of, tile_y_of}
use Rattle.pixel_segment.specs.Order.{is_lt, is_eq, is_gt, compare_bool}
use Rattle.segment_rows.specs.Rows.{Ordered}
use Rattle.segment_rows.specs.Search.{Place, search_of, order_at, after_of, between, last_place}
use Rattle.segment_rows.specs.declared.search.Key.TheVariants.{TileY, TileYNotNegative}
use Rattle.segment_rows.proofs.Sorted.{Split, splits, sorted_search, above_from, below_to}
use Rattle.segment_rows.proofs.Keys.{tile_suc, le_tile}
use Rattle.segment_rows.proofs.TileParts.{after_search, having_part, search_below, from_part}
use Rattle.plate.specs.Rows.{cast_of, past_of, rows_start, not_negative, place_by, row_place, row_part}
use Rattle.plate.proofs.Neighbours.{neighbours, rank_up, tile_order, is_row_lem}

-- ---- two keys, of which `before` is the one before `at`: an element is below the one exactly where it is not above the other

module _ (at before : ℕ → ℕ) (l : List ℕ) (t : Ordered before l) (h : (w : ℕ) → is_lt (at w) ≡ not (is_gt (before w))) where
  sorted_take : (n : ℕ) → Ordered before (take n l)
  sorted_take n =
      record {
        up =
            λ i j p q.
            let g : j < n = omega (arith, length-take n l) in
            rw (get_or-take n l i 0 (omega arith), get_or-take n l j 0 g) (t.up i j p (omega (arith, length-take n l)));
      }

  told_not : (w : ℕ) → at w ≡ 1 → is_gt (before w) ≡ true
  told_not w e = flip (is_gt (before w)) (sym (ap is_lt e) ∙ h w)
    where
      flip : (b : Bool) → false ≡ not b → b ≡ true
      flip true r = refl
      flip false r = absurd (false≢true r)

  told : (w : ℕ) → at w ≡ 0 → is_gt (before w) ≡ false
  told w e = flip (is_gt (before w)) (sym (ap is_lt e) ∙ h w)
    where
      flip : (b : Bool) → true ≡ not b → b ≡ false
      flip true r = absurd (false≢true (sym r))
      flip false r = refl

  -- with a elements below `at` and more than n that have it: in front of the last of these, what is not above `before` ends at a
  start_is : (a n : ℕ) → Split at l a (suc n) → after_of (search_of before (take (a + n) l)) ≡ a
  start_is a n p =
      let m = take (a + n) l in
      let s = sorted_take (a + n) in
      let x = count_by (λ w. is_lt (before w)) m in
      let y = count_by (λ w. is_eq (before w)) m in
      let q : Split before m x y = splits before m s in
      let long : length m ≡ a + n = omega (arith, length-take (a + n) l, p.within) in
      let high : x + y ≤ a =
      ⊎_elim
      (λ (none : n ≤ 0). omega (arith, q.within, long))
      (λ (some : 0 < n).
      above_from before m x y a q (omega (arith, long))
      (ap (λ (w : ℕ). is_gt (before w)) (get_or-take (a + n) l a 0 (omega arith)) ∙ told_not (get_or l a 0) (p.mid a (omega arith) (omega arith))))
      (le_or_lt n 0) in
      let low : a ≤ x + y =
      ⊎_elim
      (λ (none : a ≤ 0). omega arith)
      (λ (some : 0 < a).
      let r : a - 1 < x + y =
      below_to before m x y (a - 1) q (omega (arith, long))
      (ap (λ (w : ℕ). is_gt (before w)) (get_or-take (a + n) l (a - 1) 0 (omega arith)) ∙ told (get_or l (a - 1) 0) (p.low (a - 1) (omega arith))) in
      omega arith)
      (le_or_lt a 0) in
      after_search before m s ∙ omega arith

-- ---- the rows of segments that tile y sorts

module _ (l : List ℕ) (o : Ordered (tile_y_of cpu) l) where
  sorted_rows : (t : ℤ) → Ordered (order_at (TileY t)) l
  sorted_rows t =
      record {
        up =
            λ i j p q.
            rank_up t (tile_of (tile_y_of cpu (get_or l i 0))) (tile_of (tile_y_of cpu (get_or l j 0)))
            (tile_order (tile_y_of cpu (get_or l i 0)) (tile_y_of cpu (get_or l j 0)) (o.up i j p q));
      }

  -- the part from the place of tile row t on is the segments that have it
  tile_row : (t : ℤ) → between (row_place t l).start (row_place t l).end l ≡ filter (λ w. is_eq (order_at (TileY t) w)) l
  unfolding row_place place_by
  tile_row t =
      ap (λ (p : Place). between (place_by t l p).start (place_by t l p).end l) (sorted_search at l s)
      ∙ by (count_by (λ w. is_eq (at w)) l) refl
    where
      at : ℕ → ℕ
      at = order_at (TileY t)

      s : Ordered at l
      s = sorted_rows t

      a : ℕ
      a = count_by (λ w. is_lt (at w)) l

      by : (b : ℕ) → count_by (λ w. is_eq (at w)) l ≡ b → between (place_by t l (last_place a b)).start (place_by t l (last_place a b)).end l ≡ filter (λ w. is_eq (at w)) l
      by zero e = sym (having_part at l s ∙ ap (λ (n : ℕ). take n (drop a l)) e)
      by (suc n) e =
          let split : Split at l a (suc n) = subst (λ (b : ℕ). Split at l a b) e (splits at l s) in
          let count : suc (a + n) - a ≡ count_by (λ w. is_eq (at w)) l = omega (arith, e) in
          ap (λ (start : ℕ). between start (suc (a + n)) l)
          (start_is at (order_at (TileY (t -ℤ pos 1))) l (sorted_rows (t -ℤ pos 1)) (λ w. neighbours (tile_of (tile_y_of cpu w)) t) a n split)
          ∙ ap (λ (k : ℕ). take k (drop a l)) count
          ∙ sym (having_part at l s)

  -- the part of row j, for every j: the stored tile number is j + 1, modulo 65,536
  pub row_part_lem : (j : ℕ) → row_part j l ≡ filter (λ w. eqb (tile_y_of cpu w) ((j + 1) % 65536)) l
  unfolding row_part
  row_part_lem j =
      tile_row (cast_of j)
      ∙ filter_ext (λ w. is_eq (order_at (TileY (cast_of j)) w)) (λ w. eqb (tile_y_of cpu w) ((j + 1) % 65536)) l
      (λ w. is_row_lem (tile_y_of cpu w) j (omega arith))

  -- what is not skipped
  pub not_negative_lem : not_negative l ≡ filter (λ w. leb 1 (tile_y_of cpu w)) l
  unfolding not_negative rows_start
  not_negative_lem =
      let f : ℕ → ℕ = λ w. tile_y_of cpu w in
      let key : order_at (TileYNotNegative false) ≡ (λ w. compare_bool (leb 1 (f w)) false) =
      fun_ext (λ w. ap (λ (b : Bool). compare_bool b false) (ap (λ (z : ℤ). le_z z (tile_of (f w))) (sym (tile_suc 0)) ∙ le_tile 1 (f w))) in
      ap (λ (at : ℕ → ℕ). drop (past_of (search_of at l)) l) key
      ∙ ap (λ (p : Place). drop (past_of p) l) (search_below f 1 l o)
      ∙ ap (λ (n : ℕ). drop n l) (past_last (count_by (λ w. ltb (f w) 1) l))
      ∙ from_part f 1 l o
    where
      past_last : (n : ℕ) → past_of (last_place 0 n) ≡ n
      past_last zero = refl
      past_last (suc n) = ap suc (omega arith)
