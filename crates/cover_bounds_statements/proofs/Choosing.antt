-- Laws of chosen covers, for every table of seven widths: the words of a part with other covers, d in the order of the covers, and the loads of a
-- choice within those of the heavier bounds. Assumes nothing.
use Rattle.std.specs.Prelude.{◌≡◌, ◌+◌, ◌*◌, ◌≤◌, ◌<◌, ◌+ℤ◌, ◌*ℤ◌}
use Rattle.laws.proofs.Prelude.{sym, ap, ap₂, ◌∙◌, Bool, true, false, cond, List, ⊎_elim, ℕ, arith, le-leb, lt-leb, leb, ℤ}
use Rattle.laws.proofs.Prelude.{pos, nat_abs, length, get_or, le_or_lt, whole, length_tabulate, get_d_tabulate, AtMost}
use Rattle.laws.proofs.Parts.{sum_most, times_most}
use Rattle.laws.proofs.Sums.{sumℤ_le, sumℕ_each}
use Rattle.pixel_segment.specs.Field.{local_x_of, local_y_of, multiplier_of, cover_of, double_area_of}
use Rattle.pixel_segment.specs.Pack.{with_cover}
use Rattle.pixel_segment.proofs.Covers.{with_field, with_cover_lem}
use Rattle.cover_statements.specs.Area.{is_before, is_own, cover_before, own_area, doubled_area}
use Rattle.cover_statements.specs.Carry.{in_row, abs_cover, load_in}
use Rattle.cover_statements.specs.InnerCell.{cell_of}
use Rattle.cover_bounds_statements.specs.Chosen.{chosen, chosen_area, HeldCovers, heavier, Ordered}
use Rattle.pixel_segment.specs.Layout.{Layout}

-- ---- the words

module _ (ws part : List ℕ) (cover : ℕ → ℤ) where
  pub chosen_length : length (chosen ws part cover) ≡ length part
  unfolding chosen
  chosen_length = length_tabulate (length part) _

  pub chosen_at : (i : ℕ) → i < length part → get_or (chosen ws part cover) i 0 ≡ with_cover ws (get_or part i 0) (cover i)
  unfolding chosen
  chosen_at i h = get_d_tabulate (length part) (λ j. with_cover ws (get_or part j 0) (cover j)) 0 i h

  -- fields by name: the chosen cover, and all else of the word that was there
  module _ (layout : Layout ws) (i : ℕ) (h : i < length part) where
    pub chosen_x : local_x_of ws (get_or (chosen ws part cover) i 0) ≡ local_x_of ws (get_or part i 0)
    chosen_x = ap (local_x_of ws) (chosen_at i h) ∙ with_field ws (get_or part i 0) (cover i) layout 3 (omega arith)

    pub chosen_y : local_y_of ws (get_or (chosen ws part cover) i 0) ≡ local_y_of ws (get_or part i 0)
    chosen_y = ap (local_y_of ws) (chosen_at i h) ∙ with_field ws (get_or part i 0) (cover i) layout 4 (omega arith)

    pub chosen_cell : (n : ℕ) → cell_of ws n (get_or (chosen ws part cover) i 0) ≡ cell_of ws n (get_or part i 0)
    chosen_cell n = ap₂ (λ (x y : ℕ). x * n + y) chosen_x chosen_y

    pub chosen_multiplier : multiplier_of ws (get_or (chosen ws part cover) i 0) ≡ multiplier_of ws (get_or part i 0)
    chosen_multiplier = ap (multiplier_of ws) (chosen_at i h) ∙ with_field ws (get_or part i 0) (cover i) layout 5 (omega arith)

    module _ (held : HeldCovers ws (length part) cover) where
      pub chosen_cover : cover_of ws (get_or (chosen ws part cover) i 0) ≡ cover i
      chosen_cover =
          ap (cover_of ws) (chosen_at i h) ∙ with_cover_lem ws (get_or part i 0) (cover i) layout (held.at i h).0 (held.at i h).1

      pub chosen_double_area : double_area_of ws (get_or (chosen ws part cover) i 0) ≡ pos (multiplier_of ws (get_or part i 0)) *ℤ cover i
      unfolding double_area_of
      chosen_double_area = rw (chosen_multiplier, chosen_cover)

-- ---- d in the order of the covers

cond_most : (t : Bool) (a b : ℤ) → AtMost a b → AtMost (cond t a (pos 0)) (cond t b (pos 0))
cond_most true a b h = h
cond_most false a b h = omega arith

module _ (ws : List ℕ) (layout : Layout ws) (part : List ℕ) (f g : ℕ → ℤ) where
  same_long : length (chosen ws part f) ≡ length (chosen ws part g)
  same_long = chosen_length ws part f ∙ sym (chosen_length ws part g)

  module _ (hf : HeldCovers ws (length part) f) (hg : HeldCovers ws (length part) g) (o : Ordered (length part) f g) (c y : ℕ) where
    before_most : AtMost (cover_before ws c y (chosen ws part f)) (cover_before ws c y (chosen ws part g))
    before_most =
        sumℤ_le (is_before ws c y) (is_before ws c y) (cover_of ws) (cover_of ws) (chosen ws part f) (chosen ws part g) same_long
        (λ i l.
        let h : i < length part = rw (chosen_length ws part f) at l in
        rw (
          chosen_y ws part f layout i h,
          chosen_x ws part f layout i h,
          chosen_cover ws part f layout i h hf,
          chosen_y ws part g layout i h,
          chosen_x ws part g layout i h,
          chosen_cover ws part g layout i h hg,
        )
        (cond_most (is_before ws c y (get_or part i 0)) (f i) (g i) (o.at i h)))

    own_most : AtMost (own_area ws c y (chosen ws part f)) (own_area ws c y (chosen ws part g))
    own_most =
        sumℤ_le (is_own ws c y) (is_own ws c y) (double_area_of ws) (double_area_of ws) (chosen ws part f) (chosen ws part g) same_long
        (λ i l.
        let h : i < length part = rw (chosen_length ws part f) at l in
        let m = multiplier_of ws (get_or part i 0) in
        rw (
          chosen_y ws part f layout i h,
          chosen_x ws part f layout i h,
          chosen_double_area ws part f layout i h hf,
          chosen_y ws part g layout i h,
          chosen_x ws part g layout i h,
          chosen_double_area ws part g layout i h hg,
        )
        (cond_most (is_own ws c y (get_or part i 0)) (pos m *ℤ f i) (pos m *ℤ g i) (times_most m (f i) (g i) (o.at i h))))

    -- the higher the covers and the carry, the higher d
    pub area_most : (carry carry' : ℕ → ℤ) → AtMost (carry y) (carry' y) → AtMost (chosen_area ws carry part f c y) (chosen_area ws carry' part g c y)
    unfolding doubled_area
    area_most carry carry' k =
        let a = carry y +ℤ cover_before ws c y (chosen ws part f) in
        let b = carry' y +ℤ cover_before ws c y (chosen ws part g) in
        sum_most (pos 32 *ℤ a) (pos 32 *ℤ b) (own_area ws c y (chosen ws part f)) (own_area ws c y (chosen ws part g))
        (times_most 32 a b (sum_most (carry y) (carry' y) (cover_before ws c y (chosen ws part f)) (cover_before ws c y (chosen ws part g)) k before_most))
        own_most

-- ---- loads

-- a number within its bounds is no heavier than the heavier of them
pub within_heavier : (a b v : ℤ) → AtMost a v → AtMost v b → nat_abs v ≤ nat_abs (heavier a b)
within_heavier a b v h k =
    ⊎_elim
    (λ (p : nat_abs a ≤ nat_abs b). rw (le-leb (nat_abs a) (nat_abs b) p) (omega (arith, whole a, whole b, whole v)))
    (λ (p : nat_abs b < nat_abs a). rw (lt-leb (nat_abs a) (nat_abs b) p) (omega (arith, whole a, whole b, whole v)))
    (le_or_lt (nat_abs a) (nat_abs b))

-- the heavier is one of the two
pub heavier_is : (P : ℤ → Type 0) (a b : ℤ) → P a → P b → P (heavier a b)
heavier_is P a b p q = by (leb (nat_abs a) (nat_abs b))
  where
    by : (t : Bool) → P (cond t b a)
    by true = q
    by false = p

cond_le : (t : Bool) (a b : ℕ) → a ≤ b → cond t a 0 ≤ cond t b 0
cond_le true a b h = h
cond_le false a b h = omega arith

module _ (ws : List ℕ) (layout : Layout ws) (part : List ℕ) (f g : ℕ → ℤ) (hf : HeldCovers ws (length part) f) (hg : HeldCovers ws (length part) g) where
  -- lighter covers, of each segment, load a row less
  pub load_le : (y : ℕ) → ((i : ℕ) → i < length part → nat_abs (f i) ≤ nat_abs (g i)) → load_in ws y (chosen ws part f) ≤ load_in ws y (chosen ws part g)
  load_le y o =
      sumℕ_each (in_row ws y) (in_row ws y) (abs_cover ws) (abs_cover ws) (chosen ws part f) (chosen ws part g) (same_long ws layout part f g)
      (λ i l.
      let h : i < length part = rw (chosen_length ws part f) at l in
      rw (
        chosen_y ws part f layout i h,
        chosen_cover ws part f layout i h hf,
        chosen_y ws part g layout i h,
        chosen_cover ws part g layout i h hg,
      )
      (cond_le (in_row ws y (get_or part i 0)) (nat_abs (f i)) (nat_abs (g i)) (o i h)))
