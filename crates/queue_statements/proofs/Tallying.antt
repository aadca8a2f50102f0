-- Words added at their places, one after the other: at word i, the sums and loads so far. A sum is never larger than its load, and no load is
-- above 127. Assumes nothing.
use Rattle.std.specs.Prelude.{◌≡◌, ◌+◌, ◌≤◌, ◌<◌, ◌+ℤ◌}
use Rattle.laws.proofs.Prelude.{refl, sym, ap, ◌∙◌, Bool, true, false, cond, ⊎_elim, List, ℕ, add_assoc, add-zero, arith, eq-eqb}
use Rattle.laws.proofs.Prelude.{ne_eqb, leb-true, leb-false, eqb, ℤ, pos, nat_abs, +ℤ_idl, +ℤ_idr, +ℤ_assoc, length, get_or, drop, length-set}
use Rattle.laws.proofs.Prelude.{sum_by, add_one, entry_one, eq_or_ne, equal, whole, abs_add, abs_cond, sum_step, sum_end}
use Rattle.pixel_segment.specs.Field.{cpu, cover_of}
use Rattle.cover_statements.specs.Carry.{abs_cover}
use Rattle.cover_statements.specs.Cover.{cover_at}
use Rattle.cover_statements.proofs.Tables.{keyed, weighed}
use Rattle.queue_statements.specs.InnerSums.{load_with, Placing, Placed}

-- a word's own goes from what is left to the table
module _ {A : Type 0} (add : A → A → A) (z : A) (idr : (a : A) → add a z ≡ a) (assoc : (a b c : A) → add (add a b) c ≡ add a (add b c)) (key : ℕ → ℕ) (f : ℕ → A) where
  moved : (table : List A) (words : List ℕ) (i k : ℕ) → i < length words → key (get_or words i 0) < length table → add (get_or (add_one add z key f table (get_or words i 0)) k z) (sum_by add z (λ v. eqb (key v) k) f (drop (i + 1) words)) ≡ add (get_or table k z) (sum_by add z (λ v. eqb (key v) k) f (drop i words))
  moved table words i k h p =
      let w = get_or words i 0 in
      ap (λ (a : A). add a (sum_by add z (λ v. eqb (key v) k) f (drop (i + 1) words))) (entry_one add z idr assoc key f table w k p)
      ∙ assoc (get_or table k z) (cond (eqb (key w) k) (f w) z) (sum_by add z (λ v. eqb (key v) k) f (drop (i + 1) words))
      ∙ ap (add (get_or table k z)) (sym (sum_step add z (λ v. eqb (key v) k) f words i h))

pub record Tallying (key : ℕ → ℕ) (left : List ℕ) (i : ℕ) (sums : List ℤ) (loads : List ℕ) : Type 0 where
  pub reached : i ≤ length left
  pub sums_long : length sums ≡ 4096
  pub loads_long : length loads ≡ 4096
  pub keys : (j : ℕ) → j < length left → key (get_or left j 0) < 4096
  pub covers : (k : ℕ) → cover_at sums k +ℤ keyed key (cover_of cpu) k (drop i left) ≡ keyed key (cover_of cpu) k left
  pub weights : (k : ℕ) → get_or loads k 0 + weighed key (cover_of cpu) k (drop i left) ≡ weighed key (cover_of cpu) k left
  pub within : (k : ℕ) → nat_abs (cover_at sums k) ≤ get_or loads k 0
  pub light : (k : ℕ) → get_or loads k 0 ≤ 127

-- an absolute value of 0
zero_abs : (a : ℤ) → nat_abs a ≡ 0 → a ≡ pos 0
zero_abs a h = equal a (pos 0) (omega (arith, whole a))

pub tally_start : {key : ℕ → ℕ} {left : List ℕ} {sums : List ℤ} {loads : List ℕ} → length sums ≡ 4096 → length loads ≡ 4096 → ((j : ℕ) → j < length left → key (get_or left j 0) < 4096) → ((k : ℕ) → nat_abs (cover_at sums k) ≡ 0) → ((k : ℕ) → get_or loads k 0 ≡ 0) → Tallying key left 0 sums loads
tally_start {key} {left} {sums} {loads} s l h a b =
    record {
      reached = omega arith;
      sums_long = s;
      loads_long = l;
      keys = h;
      covers = λ k. rw (zero_abs (cover_at sums k) (a k)) (+ℤ_idl (keyed key (cover_of cpu) k left));
      weights = λ k. omega (arith, b k);
      within = λ k. omega (arith, a k);
      light = λ k. omega (arith, b k);
    }

module _ {key : ℕ → ℕ} {left : List ℕ} {i : ℕ} {sums : List ℤ} {loads : List ℕ} (c : Tallying key left i sums loads) where
  module _ {place : ℕ} (h : i < length left) (p : place ≡ key (get_or left i 0)) where
    pub tally_placing : Placing place sums loads
    tally_placing =
        record {
          in_sums = omega (arith, c.keys i h, c.sums_long);
          in_loads = omega (arith, c.keys i h, c.loads_long);
          within = c.within place;
        }

    -- the entries with the word's own added
    sum_one : (k : ℕ) → cover_at (add_one ◌+ℤ◌ (pos 0) key (cover_of cpu) sums (get_or left i 0)) k ≡ cover_at sums k +ℤ cond (eqb (key (get_or left i 0)) k) (cover_of cpu (get_or left i 0)) (pos 0)
    sum_one k = entry_one ◌+ℤ◌ (pos 0) +ℤ_idr +ℤ_assoc key (cover_of cpu) sums (get_or left i 0) k (omega (arith, c.keys i h, c.sums_long))

    load_one : (k : ℕ) → get_or (add_one ◌+◌ 0 key (abs_cover cpu) loads (get_or left i 0)) k 0 ≡ get_or loads k 0 + cond (eqb (key (get_or left i 0)) k) (abs_cover cpu (get_or left i 0)) 0
    load_one k = entry_one ◌+◌ 0 add-zero add_assoc key (abs_cover cpu) loads (get_or left i 0) k (omega (arith, c.keys i h, c.loads_long))

    -- within 127 at the word's place, as elsewhere
    light_one : load_with loads (key (get_or left i 0)) (get_or left i 0) ≤ 127 → (k : ℕ) → get_or loads k 0 + cond (eqb (key (get_or left i 0)) k) (abs_cover cpu (get_or left i 0)) 0 ≤ 127
    light_one few k =
        ⊎_elim
        (λ (e : key (get_or left i 0) ≡ k). rw (← e, eq-eqb (key (get_or left i 0)) (key (get_or left i 0)) refl) few)
        (λ (n : key (get_or left i 0) ≡ k → ⊥). rw (ne_eqb (key (get_or left i 0)) k n) (omega (arith, c.light k)))
        (eq_or_ne (key (get_or left i 0)) k)

    added : load_with loads (key (get_or left i 0)) (get_or left i 0) ≤ 127 → Tallying key left (i + 1) (add_one ◌+ℤ◌ (pos 0) key (cover_of cpu) sums (get_or left i 0)) (add_one ◌+◌ 0 key (abs_cover cpu) loads (get_or left i 0))
    added few =
        let w = get_or left i 0 in
        record {
          reached = omega arith;
          sums_long = length-set sums (key w) _ ∙ c.sums_long;
          loads_long = length-set loads (key w) _ ∙ c.loads_long;
          keys = c.keys;
          covers = λ k. moved ◌+ℤ◌ (pos 0) +ℤ_idr +ℤ_assoc key (cover_of cpu) sums left i k h (omega (arith, c.keys i h, c.sums_long)) ∙ c.covers k;
          weights = λ k. moved ◌+◌ 0 add-zero add_assoc key (abs_cover cpu) loads left i k h (omega (arith, c.keys i h, c.loads_long)) ∙ c.weights k;
          within =
              λ k.
              rw (sum_one k, load_one k)
              (omega (
                arith,
                c.within k,
                abs_add (cover_at sums k) (cond (eqb (key w) k) (cover_of cpu w) (pos 0)),
                abs_cond (eqb (key w) k) (cover_of cpu w),
              ));
          light = λ k. rw (load_one k) (light_one few k);
        }

    module _ {r : Bool} {sums' : List ℤ} {loads' : List ℕ} (a : Placed place (get_or left i 0) sums loads r sums' loads') where
      pub tally_next : r ≡ true → Tallying key left (i + 1) sums' loads'
      tally_next e =
          let few : load_with loads place (get_or left i 0) ≤ 127 = leb-true (load_with loads place (get_or left i 0)) 127 (sym a.light ∙ e) in
          rw (a.sums_are, a.loads_are, e, p) (added (rw p at few))

      -- the place of a word that is refused is heavy in the end
      pub tally_heavy : r ≡ false → 127 < weighed key (cover_of cpu) (key (get_or left i 0)) left
      tally_heavy e =
          let w = get_or left i 0 in
          let many : 127 < load_with loads place w = leb-false (load_with loads place w) 127 (sym a.light ∙ e) in
          omega (
            arith,
            rw p at many,
            c.weights (key w),
            rw (eq-eqb (key w) (key w) refl) at (sum_step ◌+◌ 0 (λ v. eqb (key v) (key w)) (abs_cover cpu) left i h),
          )

  -- all words are in
  module _ (h : length left ≤ i) where
    pub tally_sums : (k : ℕ) → cover_at sums k ≡ keyed key (cover_of cpu) k left
    tally_sums k =
        sym (+ℤ_idr (cover_at sums k))
        ∙ ap (λ (y : ℤ). cover_at sums k +ℤ y) (sym (sum_end ◌+ℤ◌ (pos 0) (λ w. eqb (key w) k) (cover_of cpu) left i h))
        ∙ c.covers k

    pub tally_light : (k : ℕ) → weighed key (cover_of cpu) k left ≤ 127
    tally_light k = omega (arith, c.weights k, c.light k, sum_end ◌+◌ 0 (λ w. eqb (key w) k) (abs_cover cpu) left i h)
