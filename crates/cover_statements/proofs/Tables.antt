-- A table of sums, an entry for each value of a key, as a loop over a part makes it: at word i, the table so far. The sums are whole numbers,
-- and the absolute values still to come bound them, so that no sum outgrows its type on the way. Assumes nothing.
use Rattle.std.specs.Prelude.{◌≡◌, ◌+◌, ◌≤◌, ◌<◌, ◌+ℤ◌}
use Rattle.laws.proofs.Prelude.{refl, sym, ap, ◌∙◌, cond, List, ℕ, arith, eq-eqb, eqb, ℤ, pos, nat_abs, +ℤ_assoc, +ℤ_idr}
use Rattle.laws.proofs.Prelude.{length, get_or, drop, set, length-set, entry_one, is_tabulate, abs_add, abs_cond, sum_step, sum_end, tabulate, sumℤ}
use Rattle.laws.proofs.Prelude.{sumℕ}

abbrev pub at : List ℤ → ℕ → ℤ
at table k = get_or table k (pos 0)

-- the words with key k: what f says of them, summed, and its absolute values
abbrev pub keyed : (ℕ → ℕ) → (ℕ → ℤ) → ℕ → List ℕ → ℤ
keyed key f k part = sumℤ (λ w. eqb (key w) k) f part

abbrev pub weighed : (ℕ → ℕ) → (ℕ → ℤ) → ℕ → List ℕ → ℕ
weighed key f k part = sumℕ (λ w. eqb (key w) k) (λ w. nat_abs (f w)) part

pub record Filling (key : ℕ → ℕ) (f : ℕ → ℤ) (n bound : ℕ) (part : List ℕ) (old : List ℤ) (i : ℕ) (table : List ℤ) : Type 0 where
  pub reached : i ≤ length part
  pub long : length table ≡ n
  pub same : (k : ℕ) → k < n → at table k +ℤ keyed key f k (drop i part) ≡ at old k +ℤ keyed key f k part
  pub small : (k : ℕ) → k < n → nat_abs (at table k) + weighed key f k (drop i part) ≤ bound

module _ {key : ℕ → ℕ} {f : ℕ → ℤ} {n bound : ℕ} {part : List ℕ} {old : List ℤ} where
  pub fill_start : length old ≡ n → ((k : ℕ) → k < n → nat_abs (at old k) + weighed key f k part ≤ bound) → Filling key f n bound part old 0 old
  fill_start e h = record { reached = omega arith; long = e; same = λ k p. refl; small = h }

  module _ {i : ℕ} {table : List ℤ} (c : Filling key f n bound part old i table) (h : i < length part) (low : key (get_or part i 0) < n) where
    -- an entry of the table with the word's own added
    entry : (k : ℕ) → at (set table (key (get_or part i 0)) (at table (key (get_or part i 0)) +ℤ f (get_or part i 0))) k ≡ at table k +ℤ cond (eqb (key (get_or part i 0)) k) (f (get_or part i 0)) (pos 0)
    entry k = entry_one ◌+ℤ◌ (pos 0) +ℤ_idr +ℤ_assoc key f table (get_or part i 0) k (rw c.long low)

    filled : Filling key f n bound part old (i + 1) (set table (key (get_or part i 0)) (at table (key (get_or part i 0)) +ℤ f (get_or part i 0)))
    filled =
        let w = get_or part i 0 in
        record {
          reached = omega arith;
          long = length-set table _ _ ∙ c.long;
          same =
              λ k p.
              rw (entry k)
              (+ℤ_assoc (at table k) (cond (eqb (key w) k) (f w) (pos 0)) (keyed key f k (drop (i + 1) part))
              ∙ ap (λ (z : ℤ). at table k +ℤ z) (sym (sum_step ◌+ℤ◌ (pos 0) (λ v. eqb (key v) k) f part i h))
              ∙ c.same k p);
          small =
              λ k p.
              rw (entry k)
              (omega (
                arith,
                c.small k p,
                sum_step ◌+◌ 0 (λ v. eqb (key v) k) (λ v. nat_abs (f v)) part i h,
                abs_add (at table k) (cond (eqb (key w) k) (f w) (pos 0)),
                abs_cond (eqb (key w) k) (f w),
              ));
        }

    -- the next word, at its key k
    pub fill_next : {k : ℕ} {v : ℤ} → k ≡ key (get_or part i 0) → v ≡ at table k +ℤ f (get_or part i 0) → Filling key f n bound part old (i + 1) (set table k v)
    fill_next p e = rw (e, p) filled

    -- what is stored there is within the bound
    pub fill_fits : {k : ℕ} → k ≡ key (get_or part i 0) → nat_abs (at table k +ℤ f (get_or part i 0)) ≤ bound
    fill_fits {k} p =
        let w = get_or part i 0 in
        rw p
        (omega (
          arith,
          c.small (key w) low,
          rw (eq-eqb (key w) (key w) refl) at (sum_step ◌+◌ 0 (λ v. eqb (key v) (key w)) (λ v. nat_abs (f v)) part i h),
          abs_add (at table (key w)) (f w),
        ))

  -- at the end, an entry and the whole table
  pub fill_at : {i : ℕ} {table : List ℤ} → Filling key f n bound part old i table → length part ≤ i → (k : ℕ) → k < n → at table k ≡ at old k +ℤ keyed key f k part
  fill_at {i} {table} c h k p =
      sym (+ℤ_idr (at table k))
      ∙ ap (λ (z : ℤ). at table k +ℤ z) (sym (sum_end ◌+ℤ◌ (pos 0) (λ w. eqb (key w) k) f part i h))
      ∙ c.same k p

  pub fill_end : {i : ℕ} {table : List ℤ} → Filling key f n bound part old i table → length part ≤ i → table ≡ tabulate n (λ k. at old k +ℤ keyed key f k part)
  fill_end {i} {table} c h = is_tabulate n (λ k. at old k +ℤ keyed key f k part) (pos 0) table c.long (fill_at c h)
