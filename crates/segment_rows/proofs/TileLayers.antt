-- A tile's part of a row in order ascends by layer. Assumes nothing.
use Rattle.std.specs.Prelude.{◌≡◌, ◌∷◌, ◌+◌, ◌*◌, ◌^◌, ◌≤◌, ◌<◌}
use Rattle.laws.proofs.Prelude.{refl, sym, subst₂, ◌∙◌, Bool, true, false, cond, ⊎_elim, List, [], ℕ, arith}
use Rattle.laws.proofs.Prelude.{leb-true, le-leb, eqb-true, lt-ltb, ltb-true, ltb, leb, eqb, lit<, length, get_or, all, filter, left, right, both}
use Rattle.laws.proofs.Prelude.{all_at, all_intro, le_or_lt, all_kept}
use lib.ListN.{get_or-eq_default}
use Rattle.laws.proofs.Filtered.{all_own}
use Rattle.pixel_segment.specs.Field.{cpu, tile_x_of, tile_y_of, layer_id_of}
use Rattle.pixel_segment.specs.Order.{order_key}
use Rattle.segment_rows.specs.Rows.{ascends_from, ascends, is_row, Ordered, Words}
use Rattle.segment_rows.proofs.Ascending.{from_ordered}
use Rattle.pixel_segment.proofs.Heights.{cpu_keyed}
use Rattle.pixel_segment.proofs.Lexical.{keyed}
use Rattle.pixel_segment.specs.Layout.{Keyed}

-- ---- filtered lists

lower : (f : ℕ → ℕ) (j k : ℕ) (l : List ℕ) → j ≤ k → ascends_from f k l ≡ true → ascends_from f j l ≡ true
unfolding ascends_from
lower f j k [] h e = refl
lower f j k (w ∷ ws) h e =
    both (leb j (f w)) (ascends_from f (f w) ws)
    (le-leb j (f w) (let a = leb-true k (f w) (left (leb k (f w)) (ascends_from f (f w) ws) e) in omega arith))
    (right (leb k (f w)) (ascends_from f (f w) ws) e)

-- a list that ascends still does with some of its elements left out
pub filter_ascends : (f : ℕ → ℕ) (p : ℕ → Bool) (k : ℕ) (l : List ℕ) → ascends_from f k l ≡ true → ascends_from f k (filter p l) ≡ true
unfolding ascends_from
filter_ascends f p k [] e = refl
filter_ascends f p k (w ∷ ws) e = by (p w) (filter_ascends f p (f w) ws (right (leb k (f w)) (ascends_from f (f w) ws) e))
  where
    low : leb k (f w) ≡ true
    low = left (leb k (f w)) (ascends_from f (f w) ws) e

    by : (t : Bool) → ascends_from f (f w) (filter p ws) ≡ true → ascends_from f k (cond t (w ∷ filter p ws) (filter p ws)) ≡ true
    by true rest = both (leb k (f w)) (ascends_from f (f w) (filter p ws)) low rest
    by false rest = lower f k (f w) (filter p ws) (leb-true k (f w) low) rest

-- ---- words

small_all : (l : List ℕ) → Words l → all (λ w. ltb w (2 ^ 64)) l ≡ true
small_all l s = all_intro (λ w. ltb w (2 ^ 64)) l 0 (λ i h. lt-ltb (get_or l i 0) (2 ^ 64) (s.small i))

all_small : (l : List ℕ) → all (λ w. ltb w (2 ^ 64)) l ≡ true → Words l
all_small l h = record { small = by }
  where
    by : (i : ℕ) → get_or l i 0 < 2 ^ 64
    by i =
        ⊎_elim
        (λ (p : length l ≤ i). rw (get_or-eq_default l 0 p) (lit< tt))
        (λ (p : i < length l). ltb-true (get_or l i 0) (2 ^ 64) (all_at (λ w. ltb w (2 ^ 64)) l h i 0 p))
        (le_or_lt (length l) i)

pub filter_words : (p : ℕ → Bool) (l : List ℕ) → Words l → Words (filter p l)
filter_words p l s = all_small (filter p l) (all_kept p (λ w. ltb w (2 ^ 64)) l (small_all l s))

-- ---- a tile's part

digits_le : (a b x y l m : ℕ) → a * 2 ^ 33 + (x * 2 ^ 21 + l) ≤ b * 2 ^ 33 + (y * 2 ^ 21 + m) → a ≡ b → x ≡ y → l ≤ m
digits_le a b x y l m h p q = omega arith

inside : (ws : List ℕ) → Keyed ws → (v w : ℕ) → v < 2 ^ 64 → w < 2 ^ 64 → order_key ws v ≤ order_key ws w → tile_y_of ws v ≡ tile_y_of ws w → tile_x_of ws v ≡ tile_x_of ws w → layer_id_of ws v ≤ layer_id_of ws w
inside ws table v w hv hw k ey ex =
    digits_le (tile_y_of ws v) (tile_y_of ws w) (tile_x_of ws v) (tile_x_of ws w) (layer_id_of ws v) (layer_id_of ws w)
    (subst₂ ◌≤◌ (keyed ws table v hv) (keyed ws table w hw) k) ey ex

module _ (ws : List ℕ) (table : Keyed ws) (ty t : ℕ) (row : List ℕ) (s : Words row) (h : is_row ws ty row ≡ true) where
  part : List ℕ
  part = filter (λ w. eqb (tile_x_of ws w) t) row

  pub layers_ordered_in : Ordered (layer_id_of ws) (filter (λ w. eqb (tile_x_of ws w) t) row)
  unfolding part
  layers_ordered_in =
      record {
        up =
            λ i j p q.
            let g : i < length part = omega arith in
            let up = filter_ascends (order_key ws) (λ w. eqb (tile_x_of ws w) t) 0 row (left (ascends (order_key ws) row) (all (λ w. eqb (tile_y_of ws w) ty) row) h) in
            let in_row = all_kept (λ w. eqb (tile_x_of ws w) t) (λ w. eqb (tile_y_of ws w) ty) row (right (ascends (order_key ws) row) (all (λ w. eqb (tile_y_of ws w) ty) row) h) in
            let in_tile = all_own (λ w. eqb (tile_x_of ws w) t) row in
            let words = filter_words (λ w. eqb (tile_x_of ws w) t) row s in
            inside ws table (get_or part i 0) (get_or part j 0) (words.small i) (words.small j)
            (from_ordered (order_key ws) 0 part up i j p q)
            (eqb-true (tile_y_of ws (get_or part i 0)) ty (all_at (λ w. eqb (tile_y_of ws w) ty) part in_row i 0 g)
            ∙ sym (eqb-true (tile_y_of ws (get_or part j 0)) ty (all_at (λ w. eqb (tile_y_of ws w) ty) part in_row j 0 q)))
            (eqb-true (tile_x_of ws (get_or part i 0)) t (all_at (λ w. eqb (tile_x_of ws w) t) part in_tile i 0 g)
            ∙ sym (eqb-true (tile_x_of ws (get_or part j 0)) t (all_at (λ w. eqb (tile_x_of ws w) t) part in_tile j 0 q)));
      }

-- in tiles 16 pixels high
pub layers_ordered : (ty t : ℕ) (row : List ℕ) → Words row → is_row cpu ty row ≡ true → Ordered (layer_id_of cpu) (filter (λ w. eqb (tile_x_of cpu w) t) row)
layers_ordered ty t row s h = layers_ordered_in cpu cpu_keyed ty t row s h
