-- Segments run the other way: of a part of mild covers, each word the other's opposite, covers, carries and d are negated exactly; loads, whether a
-- cover is empty or full, weights, coverages and planes are the same. Assumes nothing.
use Rattle.std.specs.Prelude.{◌≡◌, ◌&&◌, ◌∷◌, ◌+◌, ◌-◌, ◌%◌, ◌<◌, ◌+ℤ◌, ◌*ℤ◌}
use Rattle.laws.proofs.Prelude.{refl, ap, ap₂, sym, ◌∙◌, Bool, true, cond, List, [], map, ℕ, zero, suc, min}
use Rattle.laws.proofs.Prelude.{mod-eq_of_lt, arith, eqb-true, eq-eqb, eqb, ltb, leb, lit<, ℤ, pos, neg_ℤ, nat_abs, List·getD-map, modℤ}
use Rattle.laws.proofs.Prelude.{tabulate, every, sumℤ, left, right, same, all_kept, all_map, filter_map, remainder, difference}
use native.Mathlib.Nat.{mod_self}
use lib.IntN.{neg_ℤ-+ℤ}
use Rattle.laws.proofs.Maps.{map_tabulate}
use Rattle.laws.proofs.Mod.{opposite}
use Rattle.laws.proofs.Parts.{abs_neg, times_neg}
use Rattle.laws.proofs.Sums.{cond_neg}
use Rattle.weight_table.specs.Rest.{rest_weight}
use Rattle.pixel_segment.specs.Field.{local_x_of, cover_of, double_area_of}
use Rattle.pixel_segment.specs.Opposite.{opposite_of}
use Rattle.pixel_segment.proofs.Opposite.{Wide, is_mild, are_mild, opposite_field, mild_cover, mild_area}
use Rattle.styling.specs.declared.FillRule.{FillRule}
use Rattle.styling.specs.declared.FillRule.TheVariants.{NonZero, EvenOdd}
use Rattle.cover_statements.specs.Area.{is_before, is_own, cover_before, own_area, doubled_area}
use Rattle.cover_statements.specs.Carry.{in_row, cover_in, load_in, is_light, carry_of}
use Rattle.cover_statements.specs.Cover.{cover_at, empty_at, full_at, is_empty, is_full}
use Rattle.cover_statements.specs.Coverage.{coverage_of}
use Rattle.cover_statements.specs.Opposite.{negated}
use Rattle.cover_statements.specs.Plane.{in_places, plane_of}
use Rattle.cover_statements.specs.Weight.{weight_of}
use Rattle.cover_statements.specs.WholeRow.{in_tile, left_of_tile, part_of, segments_left, left_cover, row_plane}

-- ---- numbers

-- by the remainder r of a number by m: the opposite's is 0 where r is, and m - r else
by_rest : {A : Type 0} (f : ℕ → A) (m r : ℕ) → r < m → ((k : ℕ) → suc k < m → f (m - suc k) ≡ f (suc k)) → f ((m - r) % m) ≡ f r
by_rest f m zero h turn = ap f (ap (λ (n : ℕ). n % m) (m_0 m) ∙ mod_self m)
  where
    m_0 : (m : ℕ) → m - 0 ≡ m
    m_0 m = omega arith
by_rest f m (suc r) h turn =
    let low : m - suc r < m = omega arith in
    ap f (mod-eq_of_lt low) ∙ turn r h

empty_neg : (rule : FillRule) (c : ℤ) → empty_at rule (neg_ℤ c) ≡ empty_at rule c
empty_neg NonZero c = ap (λ (n : ℕ). eqb n 0) (abs_neg c)
empty_neg EvenOdd c =
    ap (λ (n : ℕ). eqb n 0) (opposite 32 c (lit< tt))
    ∙ by_rest (λ n. eqb n 0) 32 (modℤ 32 c) (remainder 32 c (lit< tt)).low
    (λ k h. same (eqb (32 - suc k) 0) (eqb (suc k) 0) (λ e. absurd (omega (arith, eqb-true (32 - suc k) 0 e))) (λ e. absurd (omega (arith, eqb-true (suc k) 0 e))))

full_neg : (rule : FillRule) (c : ℤ) → full_at rule (neg_ℤ c) ≡ full_at rule c
full_neg NonZero c = ap (λ (n : ℕ). leb 16 n) (abs_neg c)
full_neg EvenOdd c =
    ap (λ (n : ℕ). eqb n 16) (opposite 32 c (lit< tt))
    ∙ by_rest (λ n. eqb n 16) 32 (modℤ 32 c) (remainder 32 c (lit< tt)).low
    (λ k h. same (eqb (32 - suc k) 16) (eqb (suc k) 16) (λ e. eq-eqb (suc k) 16 (omega (arith, eqb-true (32 - suc k) 16 e))) (λ e. eq-eqb (32 - suc k) 16 (omega (arith, eqb-true (suc k) 16 e))))

pub weight_neg : (rule : FillRule) (d : ℤ) → weight_of rule (neg_ℤ d) ≡ weight_of rule d
weight_neg NonZero d = ap (λ (n : ℕ). min n 512) (abs_neg d)
weight_neg EvenOdd d =
    ap rest_weight (opposite 1024 d (lit< tt))
    ∙ by_rest rest_weight 1024 (modℤ 1024 d) (remainder 1024 d (lit< tt)).low
    (λ k h. omega (arith, difference (1024 - suc k) 512, difference (suc k) 512))

-- ---- covers

pub at_neg : (covers : List ℤ) (y : ℕ) → cover_at (negated covers) y ≡ neg_ℤ (cover_at covers y)
at_neg covers y = List·getD-map neg_ℤ covers y (pos 0)

pub empty_opposite : (rule : FillRule) (covers : List ℤ) → is_empty rule (negated covers) ≡ is_empty rule covers
unfolding is_empty
empty_opposite rule covers = all_map neg_ℤ (empty_at rule) (empty_at rule) (empty_neg rule) covers

pub full_opposite : (rule : FillRule) (covers : List ℤ) → is_full rule (negated covers) ≡ is_full rule covers
unfolding is_full
full_opposite rule covers = all_map neg_ℤ (full_at rule) (full_at rule) (full_neg rule) covers

-- ---- parts

module _ {ws : List ℕ} (wide : Wide ws) where
  row_same : (y w : ℕ) → in_row ws y (opposite_of ws w) ≡ in_row ws y w
  row_same y w = ap (λ (n : ℕ). eqb n y) (opposite_field ws wide.layout w 4 (lit< tt))

  -- a sum over opposites, by a test that they keep
  sum_opposite : (p : ℕ → Bool) (f : ℕ → ℤ) → ((w : ℕ) → p (opposite_of ws w) ≡ p w) → ((w : ℕ) → is_mild ws w ≡ true → f (opposite_of ws w) ≡ neg_ℤ (f w))
      → (l : List ℕ) → are_mild ws l ≡ true → sumℤ p f (map (opposite_of ws) l) ≡ neg_ℤ (sumℤ p f l)
  sum_opposite p f hp hf [] m = refl
  sum_opposite p f hp hf (w ∷ l) m =
      ap₂ ◌+ℤ◌
      (ap₂ (λ (t : Bool) (a : ℤ). cond t a (pos 0)) (hp w) (hf w (left (is_mild ws w) (are_mild ws l) m)) ∙ cond_neg (p w) (f w))
      (sum_opposite p f hp hf l (right (is_mild ws w) (are_mild ws l) m))
      ∙ sym (neg_ℤ-+ℤ (cond (p w) (f w) (pos 0)) (sumℤ p f l))

  module _ (part : List ℕ) (mild : are_mild ws part ≡ true) where
    pub cover_opposite : (y : ℕ) → cover_in ws y (map (opposite_of ws) part) ≡ neg_ℤ (cover_in ws y part)
    cover_opposite y = sum_opposite (in_row ws y) (cover_of ws) (row_same y) (mild_cover wide) part mild

    pub load_opposite : (y : ℕ) → load_in ws y (map (opposite_of ws) part) ≡ load_in ws y part
    load_opposite y = by part mild
      where
        by : (l : List ℕ) → are_mild ws l ≡ true → load_in ws y (map (opposite_of ws) l) ≡ load_in ws y l
        by [] m = refl
        by (w ∷ l) m =
            ap₂ ◌+◌
            (ap₂ (λ (t : Bool) (n : ℕ). cond t n 0) (row_same y w) (ap nat_abs (mild_cover wide w (left (is_mild ws w) (are_mild ws l) m)) ∙ abs_neg (cover_of ws w)))
            (by l (right (is_mild ws w) (are_mild ws l) m))

    -- number 9
    pub light_opposite : (n : ℕ) (covers : List ℤ) → is_light ws n (negated covers) (map (opposite_of ws) part) ≡ is_light ws n covers part
    unfolding is_light
    light_opposite n covers = λ i. every n (λ y. leb (ap₂ ◌+◌ (ap nat_abs (at_neg covers y) ∙ abs_neg (cover_at covers y)) (load_opposite y) i) 127)

    pub carry_opposite : (n : ℕ) (covers : List ℤ) → carry_of ws n (negated covers) (map (opposite_of ws) part) ≡ negated (carry_of ws n covers part)
    unfolding carry_of
    carry_opposite n covers =
        (λ i. tabulate n (λ y. (ap₂ ◌+ℤ◌ (at_neg covers y) (cover_opposite y) ∙ sym (neg_ℤ-+ℤ (cover_at covers y) (cover_in ws y part))) i))
        ∙ sym (map_tabulate neg_ℤ n (λ y. cover_at covers y +ℤ cover_in ws y part))

    -- d of each pixel
    pub area_opposite : (incoming : ℕ → ℤ) (c y : ℕ) → doubled_area ws (λ r. neg_ℤ (incoming r)) (map (opposite_of ws) part) c y ≡ neg_ℤ (doubled_area ws incoming part c y)
    unfolding doubled_area
    area_opposite incoming c y =
        let before = cover_before ws c y part in
        let own = own_area ws c y part in
        let x_same : (w : ℕ) → local_x_of ws (opposite_of ws w) ≡ local_x_of ws w = λ w. opposite_field ws wide.layout w 3 (lit< tt) in
        let is-before = sum_opposite (is_before ws c y) (cover_of ws) (λ w. ap₂ ◌&&◌ (row_same y w) (ap (λ (x : ℕ). ltb x c) (x_same w))) (mild_cover wide) part mild in
        let is-own = sum_opposite (is_own ws c y) (double_area_of ws) (λ w. ap₂ ◌&&◌ (row_same y w) (ap (λ (x : ℕ). eqb x c) (x_same w))) (mild_area wide) part mild in
        ap₂ ◌+ℤ◌
        (ap (λ (a : ℤ). pos 32 *ℤ a) (ap (λ (b : ℤ). neg_ℤ (incoming y) +ℤ b) is-before ∙ sym (neg_ℤ-+ℤ (incoming y) before)) ∙ times_neg 32 (incoming y +ℤ before))
        is-own
        ∙ sym (neg_ℤ-+ℤ (pos 32 *ℤ (incoming y +ℤ before)) own)

    pub plane_opposite : (n : ℕ) (rule : FillRule) (incoming : ℕ → ℤ) → plane_of ws n rule (λ r. neg_ℤ (incoming r)) (map (opposite_of ws) part) ≡ plane_of ws n rule incoming part
    plane_opposite n rule incoming =
        λ i. in_places n (λ c y. coverage_of ((ap (weight_of rule) (area_opposite incoming c y) ∙ weight_neg rule (doubled_area ws incoming part c y)) i))

  -- ---- the whole row

  tile_same : (t id w : ℕ) → in_tile ws t id (opposite_of ws w) ≡ in_tile ws t id w
  tile_same t id w = ap₂ (λ (x l : ℕ). eqb x t && eqb l id) (opposite_field ws wide.layout w 1 (lit< tt)) (opposite_field ws wide.layout w 2 (lit< tt))

  left_same : (t id w : ℕ) → left_of_tile ws t id (opposite_of ws w) ≡ left_of_tile ws t id w
  left_same t id w = ap₂ (λ (x l : ℕ). ltb x t && eqb l id) (opposite_field ws wide.layout w 1 (lit< tt)) (opposite_field ws wide.layout w 2 (lit< tt))

  pub part_opposite : (t id : ℕ) (row : List ℕ) → part_of ws t id (map (opposite_of ws) row) ≡ map (opposite_of ws) (part_of ws t id row)
  part_opposite t id row = filter_map (opposite_of ws) (in_tile ws t id) (in_tile ws t id) (tile_same t id) row

  module _ (row : List ℕ) (mild : are_mild ws row ≡ true) where
    pub left_cover_opposite : (t id y : ℕ) → left_cover ws t id (map (opposite_of ws) row) y ≡ neg_ℤ (left_cover ws t id row y)
    unfolding left_cover
    left_cover_opposite t id y =
        ap (cover_in ws y) (filter_map (opposite_of ws) (left_of_tile ws t id) (left_of_tile ws t id) (left_same t id) row)
        ∙ cover_opposite (segments_left ws t id row) (all_kept (left_of_tile ws t id) (is_mild ws) row mild) y

    pub row_plane_opposite : (n : ℕ) (rule : FillRule) (t id : ℕ) → row_plane ws n rule t id (map (opposite_of ws) row) ≡ row_plane ws n rule t id row
    row_plane_opposite n rule t id =
        (λ i. plane_of ws n rule (λ y. left_cover_opposite t id y i) (part_opposite t id row i))
        ∙ plane_opposite (part_of ws t id row) (all_kept (in_tile ws t id) (is_mild ws) row mild) n rule (left_cover ws t id row)
