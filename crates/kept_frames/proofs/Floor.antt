-- *None* by the third pass: a unmasked layer hides all below it, and every unmasked layer from it up is unchanged.
use Rattle.std.specs.Prelude.{◌≡◌, ◌&&◌, ◌⊎◌, ◌≤◌, ◌<◌}
use Rattle.laws.proofs.Prelude.{refl, sym, ap, subst, ◌∙◌, Bool, true, false, cond, not, false≢true, List, inl, inr, ⊎_elim, ℕ, zero}
use Rattle.laws.proofs.Prelude.{suc, arith, eqb-true, eqb-false, not-true, eqb, length, get_or, left, right, either}
use Rattle.styling.specs.declared.Color.{Color}
use Rattle.styling.specs.Style.{is_opaque, solid_color}
use Rattle.pass_statements.specs.Clips.{marks_of}
use Rattle.pass_statements.specs.Covered.{first_of, opaque_of, is_partial, hides, tells, look_at, item_at, covered_from, are_clips_unchanged, start_of, covered_of}
use Rattle.pass_statements.specs.Decide.{are_solid, decision_by, shown_of, passed_of}
use Rattle.pass_statements.specs.declared.item.Item.{Item}
use Rattle.pass_statements.specs.declared.covered.Covered.{Covered}
use Rattle.pass_statements.specs.declared.covered.InterestingCover.{InterestingCover}
use Rattle.pass_statements.specs.declared.covered.InterestingCover.TheVariants.{Absent, Opaque, Incomplete}
use Rattle.pass_statements.specs.Decision as decision
use Rattle.pass_statements.specs.Decision.{TileDecision, solid, paint}
use Rattle.pass_statements.proofs.Covering.{look_past, look_on, look_last}

-- ---- the decision

pub record NoneBy (first : InterestingCover) (unchanged : Bool) : Type 0 where
  pub color : Color
  pub is_opaque : first ≡ Opaque color
  pub is_unchanged : unchanged ≡ true

abbrev is_none : TileDecision → Bool
is_none decision.none = true
is_none (solid color below) = false
is_none paint = false

not_solid : (t : Bool) (c : Color) (n : ℕ) → cond t (solid c n) paint ≡ decision.none → ⊥
not_solid true c n e = false≢true (ap is_none e)
not_solid false c n e = false≢true (ap is_none e)

pub none_by : (first : InterestingCover) (unchanged : Bool) (clear : Color) (shown : List Item) → decision_by first unchanged clear shown ≡ decision.none
    → NoneBy first unchanged
none_by Incomplete u clear shown e = absurd (false≢true (ap is_none e))
none_by (Opaque c) true clear shown e = record { color = c; is_opaque = refl; is_unchanged = refl }
none_by (Opaque c) false clear shown e = absurd (not_solid (are_solid 1 shown) c 1 e)
none_by Absent u clear shown e = absurd (not_solid (are_solid 0 shown) clear 0 e)

-- ---- the loop

pub record Floor (items : List Item) (unmasked unclipped : List Bool) (n : ℕ) : Type 0 where
  pub place : ℕ
  pub listed : place < n
  pub is_unmasked : get_or unmasked place false ≡ true
  pub hides_all : hides (item_at items place) (get_or unclipped place false) ≡ true
  pub unchanged : (i : ℕ) → place ≤ i → i < n → get_or unmasked i false ≡ true → (item_at items i).unchanged ≡ true
  pub whole : (i : ℕ) → place ≤ i → i < n → get_or unmasked i false ≡ true → is_partial (item_at items i) (get_or unclipped i false) ≡ false

abbrev is_told : InterestingCover → Bool
is_told Absent = false
is_told (Opaque c) = true
is_told Incomplete = false

abbrev seen_by : Covered → Bool
seen_by c = c.unchanged

abbrev first_by : Covered → InterestingCover
first_by c = c.first

module _ (items : List Item) (unmasked unclipped : List Bool) where
  abbrev go : ℕ → Covered → Covered
  go n found = covered_from items unmasked unclipped n found

  abbrev look : ℕ → Covered → Covered
  look i found = look_at (item_at items i) (get_or unclipped i false) i found

  go_end : (found : Covered) → go zero found ≡ found
  unfolding covered_from
  go_end found = refl

  still : (n : ℕ) (found : Covered) → seen_by (go n found) ≡ true → seen_by found ≡ true
  still zero found h = sym (ap seen_by (go_end found)) ∙ h
  still (suc i) found h = by (get_or unmasked i false) refl (hides (item_at items i) (get_or unclipped i false)) refl (still i found) (still i (look i found))
    where
      by : (s : Bool) → get_or unmasked i false ≡ s → (t : Bool) → hides (item_at items i) (get_or unclipped i false) ≡ t
          → (seen_by (go i found) ≡ true → seen_by found ≡ true) → (seen_by (go i (look i found)) ≡ true → seen_by (look i found) ≡ true) → seen_by found ≡ true
      by false e t d r q = r (sym (ap seen_by (look_past items unmasked unclipped i found e)) ∙ h)
      by true e true d r q = left (seen_by found) (item_at items i).unchanged (sym (ap seen_by (look_last items unmasked unclipped i found e d)) ∙ h)
      by true e false d r q = left (seen_by found) (item_at items i).unchanged (q (sym (ap seen_by (look_on items unmasked unclipped i found e d)) ∙ h))

  stuck : (n : ℕ) (found : Covered) → first_by found ≡ Incomplete → first_by (go n found) ≡ Incomplete
  stuck zero found e = ap first_by (go_end found) ∙ e
  stuck (suc i) found e = by (get_or unmasked i false) refl (hides (item_at items i) (get_or unclipped i false)) refl (stuck i found e) (stuck i (look i found) first)
    where
      first : first_by (look i found) ≡ Incomplete
      first = ap (λ (c : InterestingCover). first_of c (tells (item_at items i) (get_or unclipped i false))) e

      by : (s : Bool) → get_or unmasked i false ≡ s → (t : Bool) → hides (item_at items i) (get_or unclipped i false) ≡ t → first_by (go i found) ≡ Incomplete
          → first_by (go i (look i found)) ≡ Incomplete → first_by (go (suc i) found) ≡ Incomplete
      by false w t d r q = ap first_by (look_past items unmasked unclipped i found w) ∙ r
      by true w true d r q = ap first_by (look_last items unmasked unclipped i found w d) ∙ first
      by true w false d r q = ap first_by (look_on items unmasked unclipped i found w d) ∙ q

  more : (n : ℕ) → Floor items unmasked unclipped n → (get_or unmasked n false ≡ true → (item_at items n).unchanged ≡ true)
      → (get_or unmasked n false ≡ true → is_partial (item_at items n) (get_or unclipped n false) ≡ false) → Floor items unmasked unclipped (suc n)
  more n f h w =
      record {
        place = f.place;
        listed = omega (arith, f.listed);
        is_unmasked = f.is_unmasked;
        hides_all = f.hides_all;
        unchanged = λ i p q s. ⊎_elim
            (λ e. let is = eqb-true i n e in subst (λ (j : ℕ). (item_at items j).unchanged ≡ true) (sym is) (h (subst (λ (j : ℕ). get_or unmasked j false ≡ true) is s)))
            (λ e. f.unchanged i p (below i n q (eqb-false i n e)) s)
            (either (eqb i n));
        whole = λ i p q s. ⊎_elim
            (λ e. let is = eqb-true i n e in subst (λ (j : ℕ). is_partial (item_at items j) (get_or unclipped j false) ≡ false) (sym is) (w (subst (λ (j : ℕ). get_or unmasked j false ≡ true) is s)))
            (λ e. f.whole i p (below i n q (eqb-false i n e)) s)
            (either (eqb i n));
      }
    where
      below : (i n : ℕ) → i < suc n → (i ≡ n → ⊥) → i < n
      below i n q e = omega (arith, q, e)

  -- a layer that does not hide: it is partial, or tells nothing
  tells_by : (x : Item) (free : Bool) → hides x free ≡ false → (tells x free ≡ Incomplete) ⊎ ((tells x free ≡ Absent) × (is_partial x free ≡ false))
  tells_by x free d = by (is_partial x free) (is_opaque x.func) d
    where
      by : (a o : Bool) → (not a && o) ≡ false
          → (cond a Incomplete (cond o (opaque_of (solid_color x.func)) Absent) ≡ Incomplete) ⊎ ((cond a Incomplete (cond o (opaque_of (solid_color x.func)) Absent) ≡ Absent) × (a ≡ false))
      by true o e = inl refl
      by false true e = absurd (false≢true (sym e))
      by false false e = inr (refl, refl)

  pub floor : (n : ℕ) (found : Covered) (c : Color) → first_by found ≡ Absent → first_by (go n found) ≡ Opaque c → seen_by (go n found) ≡ true
      → Floor items unmasked unclipped n
  floor zero found c a o u = absurd (false≢true (sym (ap is_told (ap first_by (go_end found) ∙ a)) ∙ ap is_told o))
  floor (suc i) found c a o u = by (get_or unmasked i false) refl (hides (item_at items i) (get_or unclipped i false)) refl (floor i found c a) (λ q. floor i (look i found) c q)
    where
      kept : (k : Covered) → go (suc i) found ≡ k → (first_by k ≡ Opaque c) × (seen_by k ≡ true)
      kept k e = (sym (ap first_by e) ∙ o, sym (ap seen_by e) ∙ u)

      first : first_by (look i found) ≡ tells (item_at items i) (get_or unclipped i false)
      first = ap (λ (k : InterestingCover). first_of k (tells (item_at items i) (get_or unclipped i false))) a

      on : get_or unmasked i false ≡ true → hides (item_at items i) (get_or unclipped i false) ≡ false
          → (first_by (look i found) ≡ Absent → first_by (go i (look i found)) ≡ Opaque c → seen_by (go i (look i found)) ≡ true → Floor items unmasked unclipped i) → (first_by (go i (look i found)) ≡ Opaque c) × (seen_by (go i (look i found)) ≡ true) → Floor items unmasked unclipped (suc i)
      on w d r (o', u') =
          ⊎_elim
          (λ t. absurd (false≢true (sym (ap is_told (stuck i (look i found) (first ∙ t))) ∙ ap is_told o')))
          (λ (t, v). more i (r (first ∙ t) o' u') (λ s. right (seen_by found) (item_at items i).unchanged (still i (look i found) u')) (λ s. v))
          (tells_by (item_at items i) (get_or unclipped i false) d)

      last : get_or unmasked i false ≡ true → hides (item_at items i) (get_or unclipped i false) ≡ true
          → (first_by (look i found) ≡ Opaque c) × (seen_by (look i found) ≡ true) → Floor items unmasked unclipped (suc i)
      last w d (o', u') =
          record {
            place = i;
            listed = omega arith;
            is_unmasked = w;
            hides_all = d;
            unchanged = λ j p q s. let is : i ≡ j = omega (arith, p, q) in subst (λ (k : ℕ). (item_at items k).unchanged ≡ true) is (right (seen_by found) (item_at items i).unchanged u');
            whole = λ j p q s. let is : i ≡ j = omega (arith, p, q) in subst (λ (k : ℕ). is_partial (item_at items k) (get_or unclipped k false) ≡ false) is (not-true (is_partial (item_at items i) (get_or unclipped i false)) (left (not (is_partial (item_at items i) (get_or unclipped i false))) (is_opaque (item_at items i).func) d));
          }

      past : get_or unmasked i false ≡ false → (first_by (go i found) ≡ Opaque c → seen_by (go i found) ≡ true → Floor items unmasked unclipped i)
          → (first_by (go i found) ≡ Opaque c) × (seen_by (go i found) ≡ true) → Floor items unmasked unclipped (suc i)
      past w r (o', u') = more i (r o' u') (λ s. absurd (false≢true (sym w ∙ s))) (λ s. absurd (false≢true (sym w ∙ s)))

      by : (s : Bool) → get_or unmasked i false ≡ s → (t : Bool) → hides (item_at items i) (get_or unclipped i false) ≡ t
          → (first_by (go i found) ≡ Opaque c → seen_by (go i found) ≡ true → Floor items unmasked unclipped i)
          → (first_by (look i found) ≡ Absent → first_by (go i (look i found)) ≡ Opaque c → seen_by (go i (look i found)) ≡ true → Floor items unmasked unclipped i) → Floor items unmasked unclipped (suc i)
      by false w t d r q = past w r (kept (go i found) (look_past items unmasked unclipped i found w))
      by true w true d r q = last w d (kept (look i found) (look_last items unmasked unclipped i found w d))
      by true w false d r q = on w d q (kept (go i (look i found)) (look_on items unmasked unclipped i found w d))

-- ---- *none* by the second and the third pass

module _ (clear : Color) (removed : Bool) (items : List Item) (e : (passed_of clear removed items).decision ≡ decision.none) where
  abbrev found : Covered
  found = covered_of items (marks_of items).unmasked (marks_of items).unclipped removed

  pub none_found : NoneBy found.first found.unchanged
  none_found = none_by found.first found.unchanged clear (shown_of found.skipped.0 items (marks_of items).unmasked) e

  -- no layer was removed, and no listed clip is changed (W-208)
  pub none_start : (not removed && are_clips_unchanged items) ≡ true
  none_start = still items (marks_of items).unmasked (marks_of items).unclipped (length items) (start_of items removed) none_found.is_unchanged
