-- A row in order, cut tile by tile: what is left from the end of the tiles before on begins at this tile or later, so that its last word is
-- where the tile ends. Assumes nothing.
use Rattle.std.specs.Prelude.{◌≡◌, ◌&&◌, ◌∷◌, ◌+◌, ◌≤◌, ◌<◌}
use Rattle.laws.proofs.Prelude.{refl, ap, ap₂, sym, ◌∙◌, fun_ext, Bool, true, false, cond, ⊎_elim, List, [], ℕ, suc}
use Rattle.laws.proofs.Prelude.{add-one, arith, lt-ltb, le-ltb, le-leb, lt-leb, eq-eqb, ne_eqb, ltb, leb, eqb, pos, length, drop, length-drop}
use Rattle.laws.proofs.Prelude.{get_or-drop, filter, count_by, filter_ext, filter_twice, le_or_lt}
use Rattle.laws.proofs.Filtered.{length_filter}
use Rattle.pixel_segment.specs.Field.{cpu, tile_of, tile_x_of}
use Rattle.pixel_segment.specs.Order.{is_lt, is_eq, compare_of, compare_bool}
use Rattle.pixel_segment.proofs.Heights.{cpu_keyed}
use Rattle.pixel_segment.proofs.Lexical.{compare_less, compare_equal, compare_greater}
use Rattle.segment_rows.specs.Rows.{is_row, Ordered, Words}
use Rattle.segment_rows.specs.Search.{search_of, after_of, between, left_part, tile_part, up_to_tile}
use Rattle.segment_rows.proofs.Keys.{tile_suc, compare_tile, is_lt_lem, is_eq_lem, sorted_by, tile_x_ordered}
use Rattle.segment_rows.proofs.TileParts.{count_ext, after_search, after_below, below_part, from_part, tile_part_lem, left_part_lem}

-- ---- by a number

one_of : (m k : ℕ) → cond (is_lt (compare_of m k)) 1 0 + cond (is_eq (compare_of m k)) 1 0 ≡ cond (ltb m (suc k)) 1 0
one_of m k =
    ⊎_elim
    (λ (p : m ≤ k).
    ⊎_elim
    (λ (q : k ≤ m). rw (compare_equal m k (omega arith), lt-ltb m (suc k) (omega arith)))
    (λ (q : m < k). rw (compare_less m k q, lt-ltb m (suc k) (omega arith)))
    (le_or_lt k m))
    (λ (p : k < m). rw (compare_greater m k p, le-ltb m (suc k) (omega arith)))
    (le_or_lt m k)

-- those below k and those that are k are those below the next number
below_next : (f : ℕ → ℕ) (k : ℕ) (l : List ℕ) → count_by (λ w. is_lt (compare_of (f w) k)) l + count_by (λ w. is_eq (compare_of (f w) k)) l ≡ count_by (λ w. ltb (f w) (suc k)) l
below_next f k [] = refl
below_next f k (w ∷ ws) = omega (arith, one_of (f w) k, below_next f k ws)

-- up to the last element with the number k stand all that are at most k
up_to_part : (f : ℕ → ℕ) (k : ℕ) (l : List ℕ) → Ordered f l → between 0 (after_of (search_of (λ w. compare_of (f w) k) l)) l ≡ filter (λ w. ltb (f w) (suc k)) l
up_to_part f k l o =
    let same : after_of (search_of (λ w. compare_of (f w) k) l) ≡ after_of (search_of (λ w. compare_bool (leb (suc k) (f w)) false) l) =
    after_search (λ w. compare_of (f w) k) l (sorted_by f k l o) ∙ below_next f k l ∙ sym (after_below f (suc k) l o) in
    ap (λ (n : ℕ). between 0 n l) same ∙ below_part f (suc k) l o

-- what is left of a list in order is in order
ordered_rest : (f : ℕ → ℕ) (n : ℕ) (l : List ℕ) → Ordered f l → Ordered f (drop n l)
ordered_rest f n l o =
    record {
      up =
          λ i j p q.
          let inside : n + j < length l = omega (arith, length-drop n l) in
          rw (get_or-drop n l i 0, get_or-drop n l j 0) (o.up (n + i) (n + j) (omega arith) inside);
    }

both : (m k : ℕ) → (leb k m && ltb m (suc k)) ≡ eqb m k
both m k =
    ⊎_elim
    (λ (p : k ≤ m).
    ⊎_elim
    (λ (q : m ≤ k). rw (le-leb k m p, lt-ltb m (suc k) (omega arith), eq-eqb m k (omega arith)))
    (λ (q : k < m). rw (le-leb k m p, le-ltb m (suc k) (omega arith), ne_eqb m k (λ e. omega arith)))
    (le_or_lt m k))
    (λ (p : m < k). rw (lt-leb k m p, ne_eqb m k (λ e. omega arith)))
    (le_or_lt k m)

counted : (p : ℕ → Bool) (l : List ℕ) → length (filter p l) ≡ count_by p l
counted p [] = refl
counted p (w ∷ ws) = by (p w) (counted p ws)
  where
    by : (t : Bool) → length (filter p ws) ≡ count_by p ws → length (cond t (w ∷ filter p ws) (filter p ws)) ≡ cond t 1 0 + count_by p ws
    by true e = omega (arith, e)
    by false e = omega (arith, e)

-- ---- by the tile

module _ (ty t : ℕ) (row : List ℕ) (s : Words row) (h : is_row cpu ty row ≡ true) where
  ordered : Ordered (tile_x_of cpu) row
  ordered = tile_x_ordered cpu cpu_keyed ty row s h

  left_count : length (left_part (tile_of t) row) ≡ count_by (λ w. ltb (tile_x_of cpu w) t) row
  left_count = ap length (left_part_lem ty t row s h) ∙ counted (λ w. ltb (tile_x_of cpu w) t) row

  own_count : length (tile_part (tile_of t) row) ≡ count_by (λ w. eqb (tile_x_of cpu w) t) row
  own_count = ap length (tile_part_lem ty t row s h) ∙ counted (λ w. eqb (tile_x_of cpu w) t) row

  cut_stored : up_to_tile (tile_of t) (drop (length (left_part (tile_of t) row)) row) ≡ tile_part (tile_of t) row
  unfolding up_to_tile
  cut_stored =
      let n = length (left_part (tile_of t) row) in
      let rest = drop n row in
      let rest_is : rest ≡ filter (λ w. leb t (tile_x_of cpu w)) row = ap (λ (k : ℕ). drop k row) left_count ∙ from_part (tile_x_of cpu) t row ordered in
      ap (λ (at : ℕ → ℕ). between 0 (after_of (search_of at rest)) rest) (fun_ext (λ w. compare_tile (tile_x_of cpu w) t))
      ∙ up_to_part (tile_x_of cpu) t rest (ordered_rest (tile_x_of cpu) n row ordered)
      ∙ ap (filter (λ w. ltb (tile_x_of cpu w) (suc t))) rest_is
      ∙ filter_twice (λ w. leb t (tile_x_of cpu w)) (λ w. ltb (tile_x_of cpu w) (suc t)) row
      ∙ filter_ext (λ w. leb t (tile_x_of cpu w) && ltb (tile_x_of cpu w) (suc t)) (λ w. eqb (tile_x_of cpu w) t) row (λ w. both (tile_x_of cpu w) t)
      ∙ sym (tile_part_lem ty t row s h)

  within_stored : length (left_part (tile_of t) row) ≤ length row
  within_stored = rw (left_part_lem ty t row s h) (length_filter (λ w. ltb (tile_x_of cpu w) t) row)

next_stored : (ty t : ℕ) (row : List ℕ) → Words row → is_row cpu ty row ≡ true → length (left_part (tile_of t) row) + length (tile_part (tile_of t) row) ≡ length (left_part (tile_of (suc t)) row)
next_stored ty t row s h =
    let left = left_count ty t row s h ∙ count_ext (λ w. ltb (tile_x_of cpu w) t) (λ w. is_lt (compare_of (tile_x_of cpu w) t)) row (λ w. sym (is_lt_lem (tile_x_of cpu w) t)) in
    let own = own_count ty t row s h ∙ count_ext (λ w. eqb (tile_x_of cpu w) t) (λ w. is_eq (compare_of (tile_x_of cpu w) t)) row (λ w. sym (is_eq_lem (tile_x_of cpu w) t)) in
    ap₂ ◌+◌ left own ∙ below_next (tile_x_of cpu) t row ∙ sym (left_count ty (suc t) row s h)

module _ (ty m : ℕ) (row : List ℕ) (s : Words row) (h : is_row cpu ty row ≡ true) where
  -- the segments left of a tile are some of the row's
  pub left_within : length (left_part (pos m) row) ≤ length row
  left_within = rw tile_suc at (within_stored ty (suc m) row s h)

  -- past them the tile's own stand first, and its last word is where they end
  pub cut : up_to_tile (pos m) (drop (length (left_part (pos m) row)) row) ≡ tile_part (pos m) row
  cut = simp tile_suc at (cut_stored ty (suc m) row s h)

  -- there those left of the next tile end
  pub cut_next : length (left_part (pos m) row) + length (tile_part (pos m) row) ≡ length (left_part (pos (m + 1)) row)
  cut_next = rw add-one (simp tile_suc at (next_stored ty (suc m) row s h))
