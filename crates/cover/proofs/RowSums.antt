-- The covers of each pixel row summed onto those that come in, in the pass that judges number 9: at word i, the sums so far. None is above the
-- load of its row, so none outgrows its type where the loads stay within 127. Over any widths whose local y stays below the height n. Assumes
-- nothing.
use Rattle.std.specs.Prelude.{◌≡◌, ◌+◌, ◌≤◌, ◌<◌, ◌+ℤ◌}
use Rattle.laws.proofs.Prelude.{refl, sym, ap, ◌∙◌, cond, List, map, ℕ, add_assoc, add-zero, arith, ℤ, pos, nat_abs, +ℤ_idr}
use Rattle.laws.proofs.Prelude.{+ℤ_assoc, length, get_or, drop, set, length-set, List·getD-map, add_one, entry_one, is_tabulate, abs_add, abs_cond}
use Rattle.laws.proofs.Prelude.{sum_step, sum_end}
use Rattle.pixel_segment.specs.Field.{local_y_of, cover_of}
use Rattle.cover_statements.specs.Carry.{in_row, abs_cover, cover_in, carry_of}
use Rattle.cover_statements.specs.Cover.{cover_at}

pub record RowSums (ws : List ℕ) (n : ℕ) (part : List ℕ) (old : List ℤ) (i : ℕ) (loads : List ℕ) (sums : List ℤ) : Type 0 where
  pub long : length sums ≡ n
  pub same : (y : ℕ) → y < n → cover_at sums y +ℤ cover_in ws y (drop i part) ≡ cover_at old y +ℤ cover_in ws y part
  pub within : (y : ℕ) → y < n → nat_abs (cover_at sums y) ≤ get_or loads y 0

module _ {ws : List ℕ} {n : ℕ} {part : List ℕ} {old : List ℤ} where
  -- the incoming covers, and their absolute values as loads
  pub rows_start : {loads : List ℕ} → length old ≡ n → loads ≡ map nat_abs old → RowSums ws n part old 0 loads old
  rows_start e m =
      record {
        long = e;
        same = λ y l. refl;
        within = λ y l. rw m (omega (arith, List·getD-map nat_abs old y (pos 0)));
      }

  module _ {i : ℕ} {loads : List ℕ} {sums : List ℤ} (c : RowSums ws n part old i loads sums) where
    module _ (h : i < length part) (low : local_y_of ws (get_or part i 0) < n) where
      -- what is stored at the word's row y is within the load v that it has then
      pub rows_fit : {y v : ℕ} → y ≡ local_y_of ws (get_or part i 0) → v ≡ get_or loads y 0 + abs_cover ws (get_or part i 0) → nat_abs (cover_at sums y +ℤ cover_of ws (get_or part i 0)) ≤ v
      rows_fit {y} {v} p e =
          let w = get_or part i 0 in
          omega (arith, e, abs_add (cover_at sums y) (cover_of ws w), rw (← p) at (c.within (local_y_of ws w) low))

      entry : (y : ℕ) → cover_at (add_one ◌+ℤ◌ (pos 0) (local_y_of ws) (cover_of ws) sums (get_or part i 0)) y ≡ cover_at sums y +ℤ cond (in_row ws y (get_or part i 0)) (cover_of ws (get_or part i 0)) (pos 0)
      entry y = entry_one ◌+ℤ◌ (pos 0) +ℤ_idr +ℤ_assoc (local_y_of ws) (cover_of ws) sums (get_or part i 0) y (rw c.long low)

      -- the next word, at its row y, whose load becomes v
      pub rows_next : {y v : ℕ} {u : ℤ} → length loads ≡ n → y ≡ local_y_of ws (get_or part i 0) → v ≡ get_or loads y 0 + abs_cover ws (get_or part i 0) → u ≡ cover_at sums y +ℤ cover_of ws (get_or part i 0)
          → RowSums ws n part old (i + 1) (set loads y v) (set sums y u)
      rows_next {y} {v} {u} e p ev eu =
          rw (eu, ev, p)
          (record {
            long = length-set sums _ _ ∙ c.long;
            same =
                λ r l.
                rw (entry r)
                (+ℤ_assoc (cover_at sums r) (cond (in_row ws r (get_or part i 0)) (cover_of ws (get_or part i 0)) (pos 0)) (cover_in ws r (drop (i + 1) part))
                ∙ ap (λ (z : ℤ). cover_at sums r +ℤ z) (sym (sum_step ◌+ℤ◌ (pos 0) (in_row ws r) (cover_of ws) part i h))
                ∙ c.same r l);
            within =
                λ r l.
                rw (entry r, load r)
                (omega (
                  arith,
                  c.within r l,
                  abs_add (cover_at sums r) (cond (in_row ws r (get_or part i 0)) (cover_of ws (get_or part i 0)) (pos 0)),
                  abs_cond (in_row ws r (get_or part i 0)) (cover_of ws (get_or part i 0)),
                ));
          })
        where
          load : (r : ℕ) → get_or (add_one ◌+◌ 0 (local_y_of ws) (abs_cover ws) loads (get_or part i 0)) r 0 ≡ get_or loads r 0 + cond (in_row ws r (get_or part i 0)) (abs_cover ws (get_or part i 0)) 0
          load r = entry_one ◌+◌ 0 add-zero add_assoc (local_y_of ws) (abs_cover ws) loads (get_or part i 0) r (rw e low)

    -- all words are in
    pub rows_end : length part ≤ i → sums ≡ carry_of ws n old part
    unfolding carry_of
    rows_end h =
        is_tabulate n (λ y. cover_at old y +ℤ cover_in ws y part) (pos 0) sums c.long
        (λ y l.
        sym (+ℤ_idr (cover_at sums y))
        ∙ ap (λ (z : ℤ). cover_at sums y +ℤ z) (sym (sum_end ◌+ℤ◌ (pos 0) (in_row ws y) (cover_of ws) part i h))
        ∙ c.same y l)
