-- The doubled areas of a tile, one pixel row after another: the pixels passed hold d, the others their own double areas, and the row's sum is the
-- cover that comes in with what lies left of the column. Over any widths whose local y stays below the height n. Assumes nothing.
use Rattle.std.specs.Prelude.{◌≡◌, ◌+◌, ◌*◌, ◌/◌, ◌%◌, ◌≤◌, ◌<◌, ◌+ℤ◌, ◌*ℤ◌}
use Rattle.laws.proofs.Prelude.{refl, sym, ap, ◌∙◌, true, false, List, ⊎_elim, ℕ, div-add-mod'}
use Rattle.laws.proofs.Prelude.{arith, eq-eqb, ne_eqb, lt-ltb, le-ltb, digits_lt, digits_div, digits_mod, eqb, ℤ, pos, nat_abs}
use Rattle.laws.proofs.Prelude.{+ℤ_assoc, +ℤ_idr, length, set, length-set, get_or-set_same, get_or-set_other, eq_or_ne, is_tabulate, abs_add, sumℤ}
use Rattle.pixel_segment.specs.Field.{local_y_of, cover_of, double_area_of, width_of}
use Rattle.cover_statements.specs.Area.{is_own, cover_before, own_area, doubled_area, areas_of}
use Rattle.cover_statements.specs.InnerCell.{Accumulated}
use Rattle.cover_statements.specs.InnerRows.{is_pixel_done, held_at, RowsDone}
use Rattle.cover_statements.specs.Cover.{cover_at}
use Rattle.cover_statements.proofs.Areas.{and-false, before_none, before_next, before_bound, below_next, area_bound}
use Rattle.cover_statements.proofs.Carries.{Light}
use Rattle.cover_statements.proofs.Cells.{cells_at}
use Rattle.cover_statements.proofs.Columns.{cells_length}
use Rattle.cover_statements.proofs.Planes.{row_below, column_below}

-- ---- which pixels are done

past_none : (n k : ℕ) → is_pixel_done n 0 0 k ≡ false
past_none n k = rw (le-ltb (k % n) 0 (omega arith), le-ltb (k / n) 0 (omega arith)) (and-false (eqb (k % n) 0))

past_all : (n k : ℕ) → k < 16 * n → is_pixel_done n n 0 k ≡ true
past_all n k h = rw (lt-ltb (k % n) n (row_below n k h)) refl

-- a row with 16 columns is one row more
past_row : (n y k : ℕ) → k < 16 * n → is_pixel_done n (y + 1) 0 k ≡ is_pixel_done n y 16 k
past_row n y k h =
    ⊎_elim
    (λ (e : k % n ≡ y).
    rw (e, lt-ltb y (y + 1) (omega arith), le-ltb y y (omega arith), eq-eqb y y refl, lt-ltb (k / n) 16 (column_below n k h)) refl)
    (λ (e : k % n ≡ y → ⊥).
    rw (below_next (k % n) y e, ne_eqb (k % n) y e, le-ltb (k / n) 0 (omega arith), and-false (eqb (k % n) (y + 1))) refl)
    (eq_or_ne (k % n) y)

-- one column more is one pixel more
past_other : (n y x k : ℕ) → (k ≡ x * n + y → ⊥) → is_pixel_done n y (x + 1) k ≡ is_pixel_done n y x k
past_other n y x k d =
    ⊎_elim
    (λ (e : k % n ≡ y).
    let ne : k / n ≡ x → ⊥ = λ q. d (sym (div-add-mod' k n) ∙ rw (e, q) refl) in
    rw (below_next (k / n) x ne) refl)
    (λ (e : k % n ≡ y → ⊥). rw (ne_eqb (k % n) y e) refl)
    (eq_or_ne (k % n) y)

-- ---- the rows one after another

module _ {ws : List ℕ} {n : ℕ} {cs : List ℤ} {part : List ℕ} {cells : List ℤ} where
  pub rows_end : {areas : List ℤ} → RowsDone ws n cs part cells n 0 areas → areas ≡ areas_of ws n (cover_at cs) part
  unfolding areas_of
  rows_end {areas} c =
      is_tabulate (16 * n) (λ k. doubled_area ws (cover_at cs) part (k / n) (k % n)) (pos 0) areas c.long
      (λ k l. c.area k l ∙ ap (held_at ws n cs part k) (past_all n k l))

  pub row_end_step : (y : ℕ) {areas : List ℤ} → RowsDone ws n cs part cells y 16 areas → RowsDone ws n cs part cells (y + 1) 0 areas
  row_end_step y c =
      record {
        long = c.long;
        cells_are = c.cells_are;
        area = λ k h. c.area k h ∙ sym (ap (held_at ws n cs part k) (past_row n y k h));
      }

  module _ (low : (w : ℕ) → local_y_of ws w < n) where
    pub rows_start : {areas : List ℤ} → Accumulated ws n part areas cells → RowsDone ws n cs part cells 0 0 areas
    rows_start {areas} a =
        record {
          long = ap length a.areas_are ∙ cells_length ws n (double_area_of ws) part;
          cells_are = a.covers_are;
          area =
              λ k h.
              ap (λ (l : List ℤ). cover_at l k) a.areas_are
              ∙ cells_at ws n low (double_area_of ws) part k h
              ∙ sym (ap (held_at ws n cs part k) (past_none n k));
        }

    module _ (y x : ℕ) {areas : List ℤ} (c : RowsDone ws n cs part cells y x areas) (ly : y < n) (lx : x < 16) where
      -- the pixel is still as it was
      own_still : cover_at areas (x * n + y) ≡ own_area ws x y part
      own_still =
          c.area (x * n + y) (digits_lt lx ly)
          ∙ rw (digits_mod x ly, digits_div x ly, le-ltb y y (omega arith), le-ltb x x (omega arith), and-false (eqb y y)) refl

      own_cover : cover_at cells (x * n + y) ≡ sumℤ (is_own ws x y) (cover_of ws) part
      own_cover =
          ap (λ (t : List ℤ). cover_at t (x * n + y)) c.cells_are
          ∙ cells_at ws n low (cover_of ws) part (x * n + y) (digits_lt lx ly)
          ∙ rw (digits_mod x ly, digits_div x ly) refl

      module _ {cover sum : ℤ} (ec : cover_at cs y ≡ cover) (es : sum ≡ cover +ℤ cover_before ws x y part) where
        d_is : pos 32 *ℤ sum +ℤ cover_at areas (x * n + y) ≡ doubled_area ws (cover_at cs) part x y
        unfolding doubled_area
        d_is = rw (es, own_still, ec) refl

        pub sum_is : sum +ℤ cover_at cells (x * n + y) ≡ cover +ℤ cover_before ws (x + 1) y part
        sum_is =
            rw (own_cover, es, before_next ws x y part)
            (+ℤ_assoc cover (cover_before ws x y part) (sumℤ (is_own ws x y) (cover_of ws) part))

        pub row_next : {k : ℕ} {v : ℤ} → k ≡ x * n + y → v ≡ pos 32 *ℤ sum +ℤ cover_at areas (x * n + y) → RowsDone ws n cs part cells y (x + 1) (set areas k v)
        row_next {k} {v} p ev =
            record {
              long = length-set areas k v ∙ c.long;
              cells_are = c.cells_are;
              area =
                  λ j q.
                  ⊎_elim
                  (λ (s : j ≡ k).
                  let m : j % n ≡ y = rw (s, p) (digits_mod x ly) in
                  let d : j / n ≡ x = rw (s, p) (digits_div x ly) in
                  let room : k < length areas = rw (c.long, p) (digits_lt lx ly) in
                  let at : cover_at (set areas k v) j ≡ v = ap (λ (i : ℕ). cover_at (set areas k v) i) s ∙ get_or-set_same areas k v (pos 0) room in
                  at ∙ ev ∙ d_is ∙ rw (m, d, le-ltb y y (omega arith), eq-eqb y y refl, lt-ltb x (x + 1) (omega arith)) refl)
                  (λ (s : j ≡ k → ⊥).
                  get_or-set_other areas k j v (pos 0) s
                  ∙ c.area j q
                  ∙ sym (ap (held_at ws n cs part j) (past_other n y x j (λ e. s (e ∙ sym p)))))
                  (eq_or_ne j k);
            }

-- ---- bounds, where number 9 does not apply

-- what a column asks of the machine: its pixel's own double area and its cover, added to the sum
pub record Fitting (sum own cell : ℤ) : Type 0 where
  pub now_fits : nat_abs sum ≤ 127
  pub d_fits : nat_abs (pos 32 *ℤ sum +ℤ own) ≤ 8001
  pub next_fits : nat_abs (sum +ℤ cell) ≤ 127

module _ {ws : List ℕ} {n : ℕ} {cs : List ℤ} {part : List ℕ} where
  sum_small : (y x : ℕ) {cover : ℤ} → y < n → cover_at cs y ≡ cover → Light ws n cs part → nat_abs (cover +ℤ cover_before ws x y part) ≤ 127
  sum_small y x {cover} ly ec l =
      rw (← ec) (omega (arith, l.at y ly, abs_add (cover_at cs y) (cover_before ws x y part), before_bound ws x y part))

  module _ (low : (w : ℕ) → local_y_of ws w < n) (six : width_of ws 5 ≡ 6) where
    pub row_fits : (y x : ℕ) {cells areas : List ℤ} (c : RowsDone ws n cs part cells y x areas) (ly : y < n) (lx : x < 16) {cover sum : ℤ} → cover_at cs y ≡ cover
        → sum ≡ cover +ℤ cover_before ws x y part → Light ws n cs part → Fitting sum (cover_at areas (x * n + y)) (cover_at cells (x * n + y))
    row_fits y x c ly lx ec es l =
        record {
          now_fits = rw (es) (sum_small y x ly ec l);
          d_fits = rw (d_is low y x c ly lx ec es) (area_bound ws six (cover_at cs) part x y (l.at y ly));
          next_fits = rw (sum_is low y x c ly lx ec es) (sum_small y (x + 1) ly ec l);
        }

pub first_sum : (ws : List ℕ) (part : List ℕ) (y : ℕ) (cover : ℤ) → cover ≡ cover +ℤ cover_before ws 0 y part
first_sum ws part y cover = sym (ap (λ (z : ℤ). cover +ℤ z) (before_none ws y part) ∙ +ℤ_idr cover)
