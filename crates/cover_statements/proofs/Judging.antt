-- Number 9 judged in the pass that sums up: at word i, the loads of each row so far and the tables of cells so far. No load is above 127, and no
-- entry of a table is above m times the load of its row (m is 1 for covers and 63 for double areas), so no sum outgrows its type. Over any
-- widths whose local y stays below the height n. Assumes nothing.
use Rattle.std.specs.Prelude.{◌≡◌, ◌+◌, ◌*◌, ◌%◌, ◌≤◌, ◌<◌, ◌+ℤ◌}
use Rattle.laws.proofs.Prelude.{refl, sym, ap, ◌∙◌, true, false, cond, List, ⊎_elim, ℕ, add_assoc, add-zero}
use Rattle.laws.proofs.Prelude.{mul-le-mul_left, arith, eq-eqb, ne_eqb, le-leb, lt-leb, digits_lt, digits_mod, eqb, ℤ, pos, nat_abs, +ℤ_idl}
use Rattle.laws.proofs.Prelude.{+ℤ_idr, +ℤ_assoc, length, get_or, drop, set, length-set, length-replicate, every_intro, add_one, entry_one, eq_or_ne}
use Rattle.laws.proofs.Prelude.{is_tabulate, abs_add, sum_step, sum_end, sumℤ}
use native.Mathlib.Nat.{mul-add}
use Rattle.laws.proofs.Every.{every_fails}
use Rattle.pixel_segment.specs.Field.{local_x_of, local_y_of}
use Rattle.cover_statements.specs.Carry.{in_row, abs_cover, load_in}
use Rattle.cover_statements.specs.InnerCell.{cell_of, cells_of, no_cells}
use Rattle.cover_statements.specs.Cover.{cover_at}
use Rattle.cover_statements.specs.InnerLoad.{loads_of, all_light}
use Rattle.cover_statements.proofs.Filled.{get_d_default}
use Rattle.cover_statements.proofs.Loads.{loads_light}
use Rattle.cover_statements.proofs.Tables.{keyed}

pub record Loaded (ws : List ℕ) (n : ℕ) (part incoming : List ℕ) (i : ℕ) (loads : List ℕ) : Type 0 where
  pub reached : i ≤ length part
  pub long : length loads ≡ n
  pub same : (y : ℕ) → y < n → get_or loads y 0 + load_in ws y (drop i part) ≡ get_or incoming y 0 + load_in ws y part
  pub light : (y : ℕ) → y < n → get_or loads y 0 ≤ 127

pub record Summed (ws : List ℕ) (n m : ℕ) (f : ℕ → ℤ) (part : List ℕ) (i : ℕ) (loads : List ℕ) (table : List ℤ) : Type 0 where
  pub long : length table ≡ 16 * n
  pub same : (k : ℕ) → k < 16 * n → cover_at table k +ℤ keyed (cell_of ws n) f k (drop i part) ≡ keyed (cell_of ws n) f k part
  pub within : (k : ℕ) → k < 16 * n → nat_abs (cover_at table k) ≤ m * get_or loads (k % n) 0

-- ---- the loads

module _ {ws : List ℕ} {n : ℕ} {part incoming : List ℕ} where
  pub load_start : length incoming ≡ n → ((y : ℕ) → y < n → get_or incoming y 0 ≤ 127) → Loaded ws n part incoming 0 incoming
  load_start e h = record { reached = omega arith; long = e; same = λ y l. refl; light = h }

  module _ {i : ℕ} {loads : List ℕ} (c : Loaded ws n part incoming i loads) where
    module _ (h : i < length part) (low : local_y_of ws (get_or part i 0) < n) where
      step : (y : ℕ) → load_in ws y (drop i part) ≡ cond (in_row ws y (get_or part i 0)) (abs_cover ws (get_or part i 0)) 0 + load_in ws y (drop (i + 1) part)
      step y = sum_step ◌+◌ 0 (in_row ws y) (abs_cover ws) part i h

      raised : (y : ℕ) → get_or (add_one ◌+◌ 0 (local_y_of ws) (abs_cover ws) loads (get_or part i 0)) y 0 ≡ get_or loads y 0 + cond (in_row ws y (get_or part i 0)) (abs_cover ws (get_or part i 0)) 0
      raised y = entry_one ◌+◌ 0 add-zero add_assoc (local_y_of ws) (abs_cover ws) loads (get_or part i 0) y (rw c.long low)

      light_one : get_or loads (local_y_of ws (get_or part i 0)) 0 + abs_cover ws (get_or part i 0) ≤ 127 → (y : ℕ) → y < n → get_or loads y 0 + cond (in_row ws y (get_or part i 0)) (abs_cover ws (get_or part i 0)) 0 ≤ 127
      light_one few y l =
          let own = local_y_of ws (get_or part i 0) in
          ⊎_elim
          (λ (e : own ≡ y). rw (← e, eq-eqb own own refl) few)
          (λ (d : own ≡ y → ⊥). rw (ne_eqb own y d) (omega (arith, c.light y l)))
          (eq_or_ne own y)

      -- the next word's load, at its row y, where it stays within 127
      pub load_next : {y v : ℕ} → y ≡ local_y_of ws (get_or part i 0) → v ≡ get_or loads y 0 + abs_cover ws (get_or part i 0) → v ≤ 127 → Loaded ws n part incoming (i + 1) (set loads y v)
      load_next {y} {v} p e few =
          rw (e, p)
          (record {
            reached = omega arith;
            long = length-set loads _ _ ∙ c.long;
            same = λ r l. rw (raised r) (omega (arith, c.same r l, step r));
            light = λ r l. rw (raised r) (light_one (rw (e, p) at few) r l);
          })

      -- where it does not, number 9 applies
      pub load_refused : {y v : ℕ} → y ≡ local_y_of ws (get_or part i 0) → v ≡ get_or loads y 0 + abs_cover ws (get_or part i 0) → 127 < v → all_light (loads_of ws n incoming part) ≡ false
      load_refused {y} {v} p e many =
          let own = local_y_of ws (get_or part i 0) in
          loads_light ws n incoming part
          ∙ every_fails n _ own low
          (lt-leb (get_or incoming own 0 + load_in ws own part) 127
          (omega (arith, rw (e, p) at many, c.same own low, rw (eq-eqb own own refl) at (step own))))

    -- all words are in
    pub load_accepted : length part ≤ i → all_light (loads_of ws n incoming part) ≡ true
    load_accepted h =
        loads_light ws n incoming part
        ∙ every_intro n _
        (λ y l.
        le-leb (get_or incoming y 0 + load_in ws y part) 127
        (omega (arith, c.same y l, c.light y l, sum_end ◌+◌ 0 (in_row ws y) (abs_cover ws) part i h)))

-- ---- a table of cells

module _ {ws : List ℕ} {n m : ℕ} {f : ℕ → ℤ} {part : List ℕ} where
  pub sum_start : {loads : List ℕ} {table : List ℤ} → length table ≡ 16 * n → ((k : ℕ) → cover_at table k ≡ pos 0) → Summed ws n m f part 0 loads table
  sum_start e h =
      record {
        long = e;
        same = λ k l. rw (h k) (+ℤ_idl (keyed (cell_of ws n) f k part));
        within = λ k l. rw (h k) (omega arith);
      }

  module _ {i : ℕ} {loads : List ℕ} {table : List ℤ} (c : Summed ws n m f part i loads table) where
    module _ (h : i < length part) (left : local_x_of ws (get_or part i 0) < 16) (low : local_y_of ws (get_or part i 0) < n) (heavy : (w : ℕ) → nat_abs (f w) ≤ m * abs_cover ws w) where
      place : cell_of ws n (get_or part i 0) < 16 * n
      place = digits_lt left low

      row : cell_of ws n (get_or part i 0) % n ≡ local_y_of ws (get_or part i 0)
      row = digits_mod (local_x_of ws (get_or part i 0)) low

      entry : (k : ℕ) → cover_at (add_one ◌+ℤ◌ (pos 0) (cell_of ws n) f table (get_or part i 0)) k ≡ cover_at table k +ℤ cond (eqb (cell_of ws n (get_or part i 0)) k) (f (get_or part i 0)) (pos 0)
      entry k = entry_one ◌+ℤ◌ (pos 0) +ℤ_idr +ℤ_assoc (cell_of ws n) f table (get_or part i 0) k (rw c.long place)

      -- at the word's own cell
      own : nat_abs (cover_at table (cell_of ws n (get_or part i 0)) +ℤ f (get_or part i 0)) ≤ m * (get_or loads (local_y_of ws (get_or part i 0)) 0 + abs_cover ws (get_or part i 0))
      own =
          let w = get_or part i 0 in
          let k = cell_of ws n w in
          rw (mul-add m (get_or loads (local_y_of ws w) 0) (abs_cover ws w))
          (omega (arith, abs_add (cover_at table k) (f w), rw row at (c.within k place), heavy w))

      -- what is stored there is within m times 127
      pub sum_fits : {k y v : ℕ} → k ≡ cell_of ws n (get_or part i 0) → y ≡ local_y_of ws (get_or part i 0) → v ≡ get_or loads y 0 + abs_cover ws (get_or part i 0) → v ≤ 127
          → nat_abs (cover_at table k +ℤ f (get_or part i 0)) ≤ m * 127
      sum_fits {k} {y} {v} q p e few = rw q (omega (arith, own, mul-le-mul_left m (rw (e, p) at few)))

      -- the next word, at its cell k and with the load of its row y raised
      pub sum_next : {k y v : ℕ} {u : ℤ} → length loads ≡ n → k ≡ cell_of ws n (get_or part i 0) → y ≡ local_y_of ws (get_or part i 0) → v ≡ get_or loads y 0 + abs_cover ws (get_or part i 0) → u ≡ cover_at table k +ℤ f (get_or part i 0)
          → Summed ws n m f part (i + 1) (set loads y v) (set table k u)
      sum_next {k} {y} {v} {u} e q p ev eu =
          rw (eu, q, ev, p)
          (record {
            long = length-set table _ _ ∙ c.long;
            same =
                λ j l.
                rw (entry j)
                (+ℤ_assoc (cover_at table j) (cond (eqb (cell_of ws n (get_or part i 0)) j) (f (get_or part i 0)) (pos 0)) (keyed (cell_of ws n) f j (drop (i + 1) part))
                ∙ ap (λ (z : ℤ). cover_at table j +ℤ z) (sym (sum_step ◌+ℤ◌ (pos 0) (λ v. eqb (cell_of ws n v) j) f part i h))
                ∙ c.same j l);
            within = λ j l. rw (entry j, load (j % n)) (by j l);
          })
        where
          load : (r : ℕ) → get_or (add_one ◌+◌ 0 (local_y_of ws) (abs_cover ws) loads (get_or part i 0)) r 0 ≡ get_or loads r 0 + cond (eqb (local_y_of ws (get_or part i 0)) r) (abs_cover ws (get_or part i 0)) 0
          load r = entry_one ◌+◌ 0 add-zero add_assoc (local_y_of ws) (abs_cover ws) loads (get_or part i 0) r (rw e low)

          by : (j : ℕ) → j < 16 * n → nat_abs (cover_at table j +ℤ cond (eqb (cell_of ws n (get_or part i 0)) j) (f (get_or part i 0)) (pos 0)) ≤ m * (get_or loads (j % n) 0 + cond (eqb (local_y_of ws (get_or part i 0)) (j % n)) (abs_cover ws (get_or part i 0)) 0)
          by j l =
              let w = get_or part i 0 in
              let cell = cell_of ws n w in
              let y = local_y_of ws w in
              ⊎_elim
              (λ (s : cell ≡ j). rw (← s, row, eq-eqb cell cell refl, eq-eqb y y refl) own)
              (λ (s : cell ≡ j → ⊥).
              let more : get_or loads (j % n) 0 ≤ get_or loads (j % n) 0 + cond (eqb y (j % n)) (abs_cover ws w) 0 = omega arith in
              rw (ne_eqb cell j s, +ℤ_idr (cover_at table j)) (omega (arith, c.within j l, mul-le-mul_left m more)))
              (eq_or_ne cell j)

    pub sum_whole : length part ≤ i → table ≡ cells_of ws n f part
    unfolding cells_of
    sum_whole h =
        is_tabulate (16 * n) (λ k. sumℤ (λ w. eqb (cell_of ws n w) k) f part) (pos 0) table c.long
        (λ k l.
        sym (+ℤ_idr (cover_at table k))
        ∙ ap (λ (z : ℤ). cover_at table k +ℤ z) (sym (sum_end ◌+ℤ◌ (pos 0) (λ w. eqb (cell_of ws n w) k) f part i h))
        ∙ c.same k l)

-- a table of zeros
pub sum_zeros : {ws : List ℕ} {n m : ℕ} {f : ℕ → ℤ} {part loads : List ℕ} {table : List ℤ} → table ≡ no_cells n → Summed ws n m f part 0 loads table
unfolding no_cells
sum_zeros {n = n} e = sum_start (ap length e ∙ length-replicate (16 * n) (pos 0)) (λ k. ap (λ (l : List ℤ). cover_at l k) e ∙ get_d_default {a = pos 0} (16 * n) k)
