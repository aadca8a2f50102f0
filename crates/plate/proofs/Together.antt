-- The rows of a plate one after another, and what holds of every plate. Assumes nothing.
use Rattle.std.specs.Prelude.{◌≡◌, ◌&&◌, ◌∷◌, ◌++◌, ◌+◌, ◌-◌, ◌%◌, ◌≤◌, ◌<◌, Option, None}
use Rattle.laws.proofs.Prelude.{refl, ap, ap₂, sym, ◌∙◌, Bool, true, false, cond, not, and-true, ⊎_elim, List, [], ℕ, zero, suc}
use Rattle.laws.proofs.Prelude.{arith, le-leb, lt-leb, leb-true, eq-eqb, ne_eqb, eqb-true, leb, eqb, ℤ, get_or, all, filter}
use Rattle.laws.proofs.Prelude.{left, right, both, same, le_or_lt, all_at, all_intro, filter_all, filter_none, filter_ext, filter_twice}
use Rattle.laws.proofs.Filtered.{all_own}
use Rattle.pixel_segment.specs.Field.{cpu, tile_of, tile_y_of}
use Rattle.pixel_segment.specs.Order.{order_key}
use Rattle.segment_rows.specs.Rows.{ascends, is_row, Ordered, Words}
use Rattle.segment_rows.specs.Search.{Place, found, absent, search_of, order_at, between}
use Rattle.segment_rows.specs.declared.search.Key.TheVariants.{TileY}
use Rattle.segment_rows.proofs.Ascending.{from_ordered, from_intro}
use Rattle.pixel_segment.proofs.Heights.{cpu_keyed}
use Rattle.segment_rows.proofs.Rows.{tile_y_ordered}
use Rattle.segment_rows.proofs.TileLayers.{filter_ascends}
use Rattle.plate.specs.Crop.{is_in_crop}
use Rattle.plate.specs.Rows.{cast_of, place_by, row_place, not_negative, row_part}
use Rattle.plate.specs.Print as printing
use Rattle.plate.specs.Print.{skipped, part_in, printed_part, printed_below}
use Rattle.plate.specs.Sorted.{is_printed, RowsOf, InRows, RowEdges}
use Rattle.plate.proofs.Finding.{found_tile}
use Rattle.plate.proofs.Neighbours.{compares, is_row_lem, cast_again}
use Rattle.plate.proofs.Sorted.{row_part_lem, not_negative_lem}

-- ---- lists that a number sorts

-- the elements up to n and then those of n + 1 are those up to n + 1
step : (f : ℕ → ℕ) (n : ℕ) (l : List ℕ) → Ordered f l → filter (λ w. leb (f w) n) l ++ filter (λ w. eqb (f w) (suc n)) l ≡ filter (λ w. leb (f w) (suc n)) l
step f n [] o = refl
step f n (x ∷ xs) o =
    let rest = step f n xs (record { up = λ i j p q. o.up (suc i) (suc j) (omega arith) (omega arith) }) in
    ⊎_elim
    (λ (p : f x ≤ n).
    rw (le-leb (f x) n p, ne_eqb (f x) (suc n) (λ e. omega arith), le-leb (f x) (suc n) (omega arith)) (ap (λ (r : List ℕ). x ∷ r) rest))
    (λ (p : n < f x).
    ⊎_elim
    (λ (q : f x ≤ suc n).
    let none : filter (λ w. leb (f w) n) xs ≡ [] = past p in
    rw (lt-leb (f x) n p, eq-eqb (f x) (suc n) (omega arith), le-leb (f x) (suc n) q)
    (ap (λ (r : List ℕ). r ++ (x ∷ filter (λ w. eqb (f w) (suc n)) xs)) none
    ∙ ap (λ (r : List ℕ). x ∷ r) (ap (λ (r : List ℕ). r ++ filter (λ w. eqb (f w) (suc n)) xs) (sym none) ∙ rest)))
    (λ (q : suc n < f x).
    rw (lt-leb (f x) n p, ne_eqb (f x) (suc n) (λ e. omega arith), lt-leb (f x) (suc n) q) rest)
    (le_or_lt (f x) (suc n)))
    (le_or_lt (f x) n)
  where
    past : n < f x → filter (λ w. leb (f w) n) xs ≡ []
    past p =
        filter_none (λ w. leb (f w) n) xs
        (all_intro (λ w. not (leb (f w) n)) xs 0
        (λ i h.
        let q : f x ≤ f (get_or xs i 0) = o.up 0 (suc i) (omega arith) (omega arith) in
        ap not (lt-leb (f (get_or xs i 0)) n (omega arith))))

-- some elements of a sorted list are sorted
filter_ordered : (f : ℕ → ℕ) (p : ℕ → Bool) (l : List ℕ) → Ordered f l → Ordered f (filter p l)
filter_ordered f p l o =
    record { up = from_ordered f 0 (filter p l) (filter_ascends f p 0 l (from_intro f 0 l (λ i h. omega arith) o.up)) }

-- ---- the rows one after another

-- the part of one row
part_is : (l : List ℕ) → Ordered (tile_y_of cpu) l → (j : ℕ) → j < 65535 → row_part j l ≡ filter (λ w. eqb (tile_y_of cpu w) (suc j)) l
part_is l o j h =
    let e : (j + 1) % 65536 ≡ suc j = omega arith in
    row_part_lem l o j ∙ ap (λ (n : ℕ). filter (λ w. eqb (tile_y_of cpu w) n) l) e

-- a stored tile number is that of row j and in the crop exactly where row j is
picked : (crop : Option (ℕ × ℕ)) (m j : ℕ) → ((leb 1 m && is_in_crop crop (m - 1)) && eqb m (suc j)) ≡ (is_in_crop crop j && eqb m (suc j))
picked crop m j =
    same ((leb 1 m && is_in_crop crop (m - 1)) && eqb m (suc j)) (is_in_crop crop j && eqb m (suc j))
    (λ p.
    let q = right (leb 1 m && is_in_crop crop (m - 1)) (eqb m (suc j)) p in
    both (is_in_crop crop j) (eqb m (suc j))
    (ap (is_in_crop crop) (sym (before q)) ∙ right (leb 1 m) (is_in_crop crop (m - 1)) (left (leb 1 m && is_in_crop crop (m - 1)) (eqb m (suc j)) p))
    q)
    (λ p.
    let q = right (is_in_crop crop j) (eqb m (suc j)) p in
    both (leb 1 m && is_in_crop crop (m - 1)) (eqb m (suc j))
    (both (leb 1 m) (is_in_crop crop (m - 1)) (le-leb 1 m (omega (arith, eqb-true m (suc j) q))) (ap (is_in_crop crop) (before q) ∙ left (is_in_crop crop j) (eqb m (suc j)) p))
    q)
  where
    before : eqb m (suc j) ≡ true → m - 1 ≡ j
    before q = omega (arith, eqb-true m (suc j) q)

module _ (crop : Option (ℕ × ℕ)) (l : List ℕ) (o : Ordered (tile_y_of cpu) l) where
  -- what is not skipped by `for_each_row`, and what of it is in the crop
  rest : List ℕ
  rest = filter (λ w. leb 1 (tile_y_of cpu w)) l

  shown : List ℕ
  shown = filter (is_printed crop) l

  shown_ordered : Ordered (tile_y_of cpu) shown
  unfolding shown
  shown_ordered = filter_ordered (tile_y_of cpu) (is_printed crop) l o

  -- what is printed of one row
  printed : (j : ℕ) → j < 65535 → printed_part crop j (not_negative l) ≡ filter (λ w. eqb (tile_y_of cpu w) (suc j)) (filter (is_printed crop) l)
  unfolding rest row_part
  printed j h =
      ap (printed_part crop j) (not_negative_lem l o)
      ∙ by (is_in_crop crop j)
      ∙ sym (filter_twice (is_printed crop) (λ w. eqb (tile_y_of cpu w) (suc j)) l ∙ filter_ext (λ w. is_printed crop w && eqb (tile_y_of cpu w) (suc j)) (λ w. is_in_crop crop j && eqb (tile_y_of cpu w) (suc j)) l (λ w. picked crop (tile_y_of cpu w) j))
    where
      inside : (w : ℕ) → (leb 1 (tile_y_of cpu w) && eqb (tile_y_of cpu w) (suc j)) ≡ eqb (tile_y_of cpu w) (suc j)
      inside w =
          ap (λ (t : Bool). t && eqb (tile_y_of cpu w) (suc j)) (sym (and-true (leb 1 (tile_y_of cpu w)))) ∙ picked None (tile_y_of cpu w) j

      by : (t : Bool) → part_in (cond t (printing.row (row_place (cast_of j) rest).start (row_place (cast_of j) rest).end) skipped) rest ≡ filter (λ w. t && eqb (tile_y_of cpu w) (suc j)) l
      by true =
          part_is rest (filter_ordered (tile_y_of cpu) (λ w. leb 1 (tile_y_of cpu w)) l o) j h
          ∙ filter_twice (λ w. leb 1 (tile_y_of cpu w)) (λ w. eqb (tile_y_of cpu w) (suc j)) l
          ∙ filter_ext (λ w. leb 1 (tile_y_of cpu w) && eqb (tile_y_of cpu w) (suc j)) (λ w. eqb (tile_y_of cpu w) (suc j)) l inside
      by false = sym (filter_none (λ w. false) l (all_intro (λ w. true) l 0 (λ i p. refl)))

  rows : (n : ℕ) → n ≤ 65535 → printed_below crop n (not_negative l) ≡ filter (λ w. leb (tile_y_of cpu w) n) shown
  unfolding printed_below shown
  rows zero h =
      sym
      (filter_none (λ w. leb (tile_y_of cpu w) 0) shown
      (all_intro (λ w. not (leb (tile_y_of cpu w) 0)) shown 0
      (λ i p.
      let m = tile_y_of cpu (get_or shown i 0) in
      let q = leb-true 1 m (left (leb 1 m) (is_in_crop crop (m - 1)) (all_at (is_printed crop) shown (all_own (is_printed crop) l) i 0 p)) in
      ap not (lt-leb m 0 (omega (arith, q))))))
  rows (suc n) h = ap₂ ◌++◌ (rows n (omega arith)) (printed n (omega arith)) ∙ step (tile_y_of cpu) n shown shown_ordered

  rows_once : (n : ℕ) → n ≤ 65535 → printed_below crop n (not_negative l) ≡ filter (λ w. is_printed crop w && leb (tile_y_of cpu w) n) l
  unfolding shown
  rows_once n h = rows n h ∙ filter_twice (is_printed crop) (λ w. leb (tile_y_of cpu w) n) l

  -- every tile number is below 2,048
  rows_whole : (n : ℕ) → 2047 ≤ n → n ≤ 65535 → printed_below crop n (not_negative l) ≡ filter (is_printed crop) l
  unfolding shown
  rows_whole n g h =
      rows n h
      ∙ filter_all (λ w. leb (tile_y_of cpu w) n) shown
      (all_intro (λ w. leb (tile_y_of cpu w) n) shown 0 (λ i p. le-leb (tile_y_of cpu (get_or shown i 0)) n (omega arith)))

pub sorted_rows : (l : List ℕ) → Ordered (tile_y_of cpu) l → RowsOf l
sorted_rows l o =
    record {
      kept = not_negative_lem l o;
      part = part_is l o;
      once = λ crop n h. rows_once crop l o n h;
      whole = λ crop n g h. rows_whole crop l o n g h;
      uncropped =
          λ n g h.
          rows_whole None l o n g h
          ∙ filter_ext (is_printed None) (λ w. leb 1 (tile_y_of cpu w)) l (λ w. and-true (leb 1 (tile_y_of cpu w)))
          ∙ sym (not_negative_lem l o);
      last = row_part_lem l o 65535;
    }

-- ---- segments in the painter's order: tile y leads it

module _ (l : List ℕ) (s : Words l) (h : ascends (order_key cpu) l ≡ true) where
  by_tile_y : Ordered (tile_y_of cpu) l
  by_tile_y =
      record {
        up =
            λ i j p q.
            tile_y_ordered cpu cpu_keyed (get_or l i 0) (get_or l j 0) (s.small i) (s.small j) (from_ordered (order_key cpu) 0 l h i j p q);
      }

  pub rows_in_order : RowsOf l
  rows_in_order = sorted_rows l by_tile_y

  pub in_rows : InRows l
  in_rows =
      record {
        part = λ j p. rw (part_is l by_tile_y j (omega arith)) (passes j l h);
        printed =
            λ crop j p.
            rw (printed crop l by_tile_y j (omega arith))
            (passes j (filter (is_printed crop) l) (filter_ascends (order_key cpu) (is_printed crop) 0 l h));
      }
    where
      passes : (j : ℕ) (m : List ℕ) → ascends (order_key cpu) m ≡ true → is_row cpu (suc j) (filter (λ w. eqb (tile_y_of cpu w) (suc j)) m) ≡ true
      passes j m e =
          let p : ℕ → Bool = λ w. eqb (tile_y_of cpu w) (suc j) in
          both (ascends (order_key cpu) (filter p m)) (all p (filter p m)) (filter_ascends (order_key cpu) p 0 m e) (all_own p m)

-- ---- every plate

pub edges : (l : List ℕ) → RowEdges l
unfolding row_part row_place place_by
edges l =
    record {
      outside = λ crop j e. rw e;
      inside = λ crop j e. rw e;
      empty = λ j g h. by j g h (search_of (order_at (TileY (cast_of j))) l) refl;
      again = λ j. ap (λ (t : ℤ). between (row_place t l).start (row_place t l).end l) (cast_again j);
    }
  where
    by : (j : ℕ) → 2047 ≤ j → j < 65535 → (p : Place) → search_of (order_at (TileY (cast_of j))) l ≡ p → between (place_by (cast_of j) l p).start (place_by (cast_of j) l p).end l ≡ []
    by j g h (found i) e =
        let m = tile_y_of cpu (get_or l i 0) in
        let small : m < 2048 = omega arith in
        let is : eqb m ((j + 1) % 65536) ≡ true = sym (is_row_lem m j small) ∙ compares (tile_of m) (cast_of j) (found_tile (cast_of j) l i e) in
        absurd (omega (arith, small, eqb-true m ((j + 1) % 65536) is))
    by j g h (absent i) e = refl
