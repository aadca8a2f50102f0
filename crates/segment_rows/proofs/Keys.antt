-- The keys of the painter on rows in order: how they compare by stored numbers, and that a row is sorted by each. Assumes nothing.
use Rattle.std.specs.Prelude.{◌≡◌, ◌/◌, ◌%◌, ◌^◌, ◌≤◌, ◌<◌}
use Rattle.laws.proofs.Prelude.{refl, ap, ap₂, sym, ◌∙◌, Bool, true, false, cond, ⊎_elim, List, ℕ, zero, suc, arith}
use Rattle.laws.proofs.Prelude.{lt-ltb, le-ltb, le-leb, lt-leb, eq-eqb, ne_eqb, eqb-true, ltb, leb, eqb, pos, negsuc, length, get_or, lt_z, le_z, all}
use Rattle.laws.proofs.Prelude.{left, right, all_at, le_or_lt, equal, difference}
use lib.Dec.{leb-suc-suc}
use Rattle.pixel_segment.specs.Field.{tile_of, tile_x_of, tile_y_of}
use Rattle.pixel_segment.specs.Order.{is_lt, is_eq, compare_of, compareℤ, compare_bool, order_key}
use Rattle.segment_rows.specs.Rows.{ascends, is_row, Ordered, Words}
use Rattle.segment_rows.proofs.Ascending.{from_ordered}
use Rattle.pixel_segment.proofs.Lexical.{compare_less, compare_equal, compare_greater}
use Rattle.pixel_segment.specs.Layout.{Keyed}

-- ---- tile numbers compare as their stored forms do

pub tile_suc : (n : ℕ) → tile_of (suc n) ≡ pos n
unfolding tile_of
tile_suc n = equal (tile_of (suc n)) (pos n) (omega (arith, difference (suc n) 1))

pub tile_zero : tile_of 0 ≡ negsuc 0
unfolding tile_of
tile_zero = refl

pub lt_tile : (m n : ℕ) → lt_z (tile_of m) (tile_of n) ≡ ltb m n
lt_tile zero zero = ap₂ lt_z tile_zero tile_zero
lt_tile zero (suc n) = ap₂ lt_z tile_zero (tile_suc n) ∙ sym (lt-ltb 0 (suc n) (omega arith))
lt_tile (suc m) zero = ap₂ lt_z (tile_suc m) tile_zero ∙ sym (le-ltb (suc m) 0 (omega arith))
lt_tile (suc m) (suc n) = ap₂ lt_z (tile_suc m) (tile_suc n) ∙ sym (leb-suc-suc (suc m) n)

pub le_tile : (m n : ℕ) → le_z (tile_of m) (tile_of n) ≡ leb m n
le_tile zero zero = ap₂ le_z tile_zero tile_zero
le_tile zero (suc n) = ap₂ le_z tile_zero (tile_suc n) ∙ sym (le-leb 0 (suc n) (omega arith))
le_tile (suc m) zero = ap₂ le_z (tile_suc m) tile_zero ∙ sym (lt-leb (suc m) 0 (omega arith))
le_tile (suc m) (suc n) = ap₂ le_z (tile_suc m) (tile_suc n) ∙ sym (leb-suc-suc m n)

pub compare_tile : (m n : ℕ) → compareℤ (tile_of m) (tile_of n) ≡ compare_of m n
compare_tile m n = ap₂ (λ (a b : Bool). cond a 0 (cond b 2 1)) (lt_tile m n) (lt_tile n m)

-- ---- what a comparison tells

pub is_lt_lem : (m n : ℕ) → is_lt (compare_of m n) ≡ ltb m n
is_lt_lem m n =
    ⊎_elim
    (λ (p : m ≤ n).
    ⊎_elim
    (λ (q : n ≤ m). ap is_lt (compare_equal m n (omega arith)) ∙ sym (le-ltb m n q))
    (λ (q : m < n). ap is_lt (compare_less m n q) ∙ sym (lt-ltb m n q))
    (le_or_lt n m))
    (λ (p : n < m). ap is_lt (compare_greater m n p) ∙ sym (le-ltb m n (omega arith)))
    (le_or_lt m n)

pub is_eq_lem : (m n : ℕ) → is_eq (compare_of m n) ≡ eqb m n
is_eq_lem m n =
    ⊎_elim
    (λ (p : m ≤ n).
    ⊎_elim
    (λ (q : n ≤ m). ap is_eq (compare_equal m n (omega arith)) ∙ sym (eq-eqb m n (omega arith)))
    (λ (q : m < n). ap is_eq (compare_less m n q) ∙ sym (ne_eqb m n (λ e. omega arith)))
    (le_or_lt n m))
    (λ (p : n < m). ap is_eq (compare_greater m n p) ∙ sym (ne_eqb m n (λ e. omega arith)))
    (le_or_lt m n)

-- a greater key has no lower rank
pub rank_up : (k m n : ℕ) → m ≤ n → compare_of m k ≤ compare_of n k
rank_up k m n h =
    ⊎_elim
    (λ (p : k ≤ n).
    ⊎_elim
    (λ (q : n ≤ k). rw (compare_equal n k (omega arith)) (at_most_one (omega arith)))
    (λ (q : k < n). rw (compare_greater n k q) (at_most_two (ltb m k) (ltb k m)))
    (le_or_lt n k))
    (λ (p : n < k). rw (compare_less n k p, compare_less m k (omega arith)) (omega arith))
    (le_or_lt k n)
  where
    at_most_two : (s t : Bool) → cond s 0 (cond t 2 1) ≤ 2
    at_most_two true t = omega arith
    at_most_two false true = omega arith
    at_most_two false false = omega arith

    at_most_one : m ≤ k → compare_of m k ≤ 1
    at_most_one p =
        ⊎_elim
        (λ (r : k ≤ m). rw (compare_equal m k (omega arith)) (omega arith))
        (λ (r : m < k). rw (compare_less m k r) (omega arith))
        (le_or_lt k m)

-- ---- a list that a number sorts is sorted by every key of it

pub sorted_by : (f : ℕ → ℕ) (k : ℕ) (l : List ℕ) → Ordered f l → Ordered (λ w. compare_of (f w) k) l
sorted_by f k l o = record { up = λ i j p q. rank_up k (f (get_or l i 0)) (f (get_or l j 0)) (o.up i j p q) }

-- whether the number is at least k, looked for false
pub sorted_at_least : (f : ℕ → ℕ) (k : ℕ) (l : List ℕ) → Ordered f l → Ordered (λ w. compare_bool (leb k (f w)) false) l
sorted_at_least f k l o = record { up = λ i j p q. rising (f (get_or l i 0)) (f (get_or l j 0)) (o.up i j p q) }
  where
    low : (b : Bool) → 1 ≤ compare_bool b false
    low true = omega arith
    low false = omega arith

    rising : (m n : ℕ) → m ≤ n → compare_bool (leb k m) false ≤ compare_bool (leb k n) false
    rising m n h =
        ⊎_elim
        (λ (p : k ≤ m). rw (le-leb k m p, le-leb k n (omega arith)) (omega arith))
        (λ (p : m < k). rw (lt-leb k m p) (low (leb k n)))
        (le_or_lt k m)

-- ---- rows in order, at every tile height

key_tile_x : (a b : ℕ) → a ≤ b → a / 2 ^ 33 ≡ b / 2 ^ 33 → a / 2 ^ 21 % 2 ^ 12 ≤ b / 2 ^ 21 % 2 ^ 12
key_tile_x a b h e = omega arith

pub tile_x_ordered : (ws : List ℕ) → Keyed ws → (ty : ℕ) (row : List ℕ) → Words row → is_row ws ty row ≡ true → Ordered (tile_x_of ws) row
tile_x_ordered ws table ty row s h = record { up = up }
  where
    inside : (v w : ℕ) → v < 2 ^ 64 → w < 2 ^ 64 → order_key ws v ≤ order_key ws w → tile_y_of ws v ≡ tile_y_of ws w → tile_x_of ws v ≤ tile_x_of ws w
    inside v w hv hw k e =
        rw (table.tile_x v, table.tile_x w)
        (key_tile_x (order_key ws v) (order_key ws w) k (sym (table.tile_y v hv) ∙ e ∙ table.tile_y w hw))

    up : (i j : ℕ) → i ≤ j → j < length row → tile_x_of ws (get_or row i 0) ≤ tile_x_of ws (get_or row j 0)
    up i j p q =
        let key = from_ordered (order_key ws) 0 row (left (ascends (order_key ws) row) (all (λ w. eqb (tile_y_of ws w) ty) row) h) i j p q in
        let in_row = right (ascends (order_key ws) row) (all (λ w. eqb (tile_y_of ws w) ty) row) h in
        let a = eqb-true (tile_y_of ws (get_or row i 0)) ty (all_at (λ w. eqb (tile_y_of ws w) ty) row in_row i 0 (omega arith)) in
        let b = eqb-true (tile_y_of ws (get_or row j 0)) ty (all_at (λ w. eqb (tile_y_of ws w) ty) row in_row j 0 q) in
        inside (get_or row i 0) (get_or row j 0) (s.small i) (s.small j) key (a ∙ sym b)
