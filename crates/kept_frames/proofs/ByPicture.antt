-- The decision of a work without a count rests on its paintings and the clear colour alone. Assumes nothing.
use Rattle.std.specs.Prelude.{◌≡◌, ◌&&◌, ◌||◌, ◌∷◌, ◌+◌, ◌≤◌, ◌<◌}
use Rattle.laws.proofs.Prelude.{refl, sym, ap, ap₂, subst, fun_ext, ◌∙◌, Bool, true, false, cond, not, false≢true, List, []}
use Rattle.laws.proofs.Prelude.{map, ⊎_elim, None, ℕ, zero, suc, arith, le-leb, lt-leb, leb, length, get_or, drop, all}
use Rattle.laws.proofs.Prelude.{either}
use Rattle.styling.specs.Style.{is_clipped_of, is_opaque, solid_color}
use Rattle.styling.specs.declared.Color.{Color}
use Rattle.styling.specs.declared.Func.{Func}
use Rattle.styling.specs.declared.Func.TheVariants.{Draw, Clip}
use Rattle.pass_statements.specs.Clips.{is_clip, marks_of}
use Rattle.pass_statements.specs.Covered.{first_of, opaque_of, hides, tells, look_at, item_at, covered_from, start_of, covered_of}
use Rattle.pass_statements.specs.Decide.{shown_from, has_color, are_solid, decision_by}
use Rattle.pass_statements.specs.Decision.{TileDecision, solid, paint}
use Rattle.pass_statements.specs.Rules.{needs_clip, is_ascending, is_free}
use Rattle.pass_statements.specs.declared.item.Item.{Item}
use Rattle.pass_statements.specs.declared.covered.Covered.{Covered}
use Rattle.pass_statements.specs.declared.covered.InterestingCover.{InterestingCover}
use Rattle.pass_statements.specs.declared.covered.InterestingCover.TheVariants.{Absent, Opaque, Incomplete}
use Rattle.pass_statements.proofs.Covering.{look_past, look_on, look_last, skipped_by}
use Rattle.pass_statements.proofs.Deciding.{unmasked_long}
use Rattle.pass_statements.proofs.Outcomes.{ruled_at}
use Rattle.kept_frames.specs.Picture.{shown_afresh, Stroke, picture_of, decision_afresh}
use Rattle.kept_frames.specs.Right.{DecisionByPicture}
use Rattle.kept_frames.proofs.Strokes.{Plainly, plainly, plainly_in, strokes_plainly}
use Rattle.kept_frames.proofs.Changed.{changed_stays, afresh_passed}

-- ---- the first cover that tells, among places and among shown layers

first_end : (c : InterestingCover) → first_of c Absent ≡ c
first_end Absent = refl
first_end (Opaque color) = refl
first_end Incomplete = refl

first_assoc : (a b c : InterestingCover) → first_of a (first_of b c) ≡ first_of (first_of a b) c
first_assoc Absent b c = refl
first_assoc (Opaque color) b c = refl
first_assoc Incomplete b c = refl

-- from place n - 1 down
up_to : (ℕ → InterestingCover) → ℕ → InterestingCover
up_to g zero = Absent
up_to g (suc n) = first_of (g n) (up_to g n)

same_up : (n : ℕ) (g h : ℕ → InterestingCover) → ((i : ℕ) → i < n → g i ≡ h i) → up_to g n ≡ up_to h n
unfolding up_to
same_up zero g h e = refl
same_up (suc n) g h e = ap₂ first_of (e n (omega arith)) (same_up n g h (λ i l. e i (omega (arith, l))))

-- the lowest place is looked at last
up_front : (g : ℕ → InterestingCover) (n : ℕ) → up_to g (suc n) ≡ first_of (up_to (λ i. g (suc i)) n) (g 0)
unfolding up_to
up_front g zero = first_end (g 0)
up_front g (suc n) = ap (first_of (g (suc n))) (up_front g n) ∙ first_assoc (g (suc n)) (up_to (λ i. g (suc i)) n) (g 0)

-- among layers, ascending, by what each of them tells
first_in : (Item → InterestingCover) → List Item → InterestingCover
first_in t [] = Absent
first_in t (x ∷ xs) = first_of (first_in t xs) (t x)

-- what the layer in place i tells, if it is shown
abbrev placed : (Item → InterestingCover) → ℕ → ℕ → List Item → List Bool → ℕ → InterestingCover
placed t skipped k xs ss i = cond (get_or ss i false && leb skipped (i + k)) (t (item_at xs i)) Absent

up_shown : (t : Item → InterestingCover) (skipped k : ℕ) (xs : List Item) (ss : List Bool) → length ss ≡ length xs
    → up_to (placed t skipped k xs ss) (length xs) ≡ first_in t (shown_from k skipped xs ss)
unfolding shown_from up_to first_in
up_shown t skipped k [] ss n = refl
up_shown t skipped k (x ∷ xs) [] n = absurd (omega (arith, n))
up_shown t skipped k (x ∷ xs) (s ∷ ss) n =
    up_front (placed t skipped k (x ∷ xs) (s ∷ ss)) (length xs)
    ∙ ap₂ first_of (same_up (length xs) (λ i. placed t skipped k (x ∷ xs) (s ∷ ss) (suc i)) (placed t skipped (suc k) xs ss) (λ i l. moved i)
    ∙ up_shown t skipped (suc k) xs ss (omega (arith, n)))
    (let z : 0 + k ≡ k = omega arith in ap (λ (m : ℕ). cond (s && leb skipped m) (t x) Absent) z)
    ∙ by (s && leb skipped k)
  where
    moved : (i : ℕ) → placed t skipped k (x ∷ xs) (s ∷ ss) (suc i) ≡ placed t skipped (suc k) xs ss i
    moved i = let z : suc i + k ≡ i + suc k = omega arith in ap (λ (m : ℕ). cond (get_or ss i false && leb skipped m) (t (item_at xs i)) Absent) z

    by : (b : Bool)
        → first_of (first_in t (shown_from (suc k) skipped xs ss)) (cond b (t x) Absent) ≡ first_in t (cond b (x ∷ shown_from (suc k) skipped xs ss) (shown_from (suc k) skipped xs ss))
    by true = refl
    by false = first_end (first_in t (shown_from (suc k) skipped xs ss))

-- ---- the third pass finds it

module _ (items : List Item) (us cs : List Bool) where
  abbrev told : ℕ → ℕ → InterestingCover
  told skipped i = cond (get_or us i false && leb skipped i) (tells (item_at items i) (get_or cs i false)) Absent

  abbrev go : ℕ → Covered → Covered
  go n found = covered_from items us cs n found

  abbrev look : ℕ → Covered → Covered
  look i found = look_at (item_at items i) (get_or cs i false) i found

  -- below the first that is not skipped nobody tells
  none_below : (skipped n : ℕ) → n ≤ skipped → up_to (told skipped) n ≡ Absent
  unfolding up_to
  none_below skipped zero h = refl
  none_below skipped (suc n) h =
      ap₂ first_of (ap (λ (b : Bool). cond b (tells (item_at items n) (get_or cs n false)) Absent)
      (hidden (get_or us n false) (leb skipped n) (lt-leb skipped n (omega (arith, h))))) (none_below skipped n (omega (arith, h)))
    where
      hidden : (a b : Bool) → b ≡ false → (a && b) ≡ false
      hidden true b e = e
      hidden false b e = refl

  -- what the places below n tell comes after what was found before
  abbrev FoundFirst : ℕ → InterestingCover → Covered → Type 0
  FoundFirst n before c = c.first ≡ first_of before (up_to (told c.skipped.0) n)

  found_first : (n : ℕ) (found : Covered) → found.skipped.0 ≡ 0 → FoundFirst n found.first (go n found)
  unfolding covered_from up_to
  found_first zero found z = sym (first_end found.first)
  found_first (suc i) found z =
      by (get_or us i false) refl (hides (item_at items i) (get_or cs i false)) refl (found_first i found z) (λ e. found_first i (look i found) e)
    where
      last : hides (item_at items i) (get_or cs i false) ≡ true → (look i found).skipped.0 ≡ i
      last h = rw h refl

      by : (a : Bool) → get_or us i false ≡ a → (b : Bool) → hides (item_at items i) (get_or cs i false) ≡ b
          → FoundFirst i found.first (go i found)
          → ((look i found).skipped.0 ≡ 0 → FoundFirst i (look i found).first (go i (look i found)))
          → FoundFirst (suc i) found.first (go (suc i) found)
      by false e b h r q =
          let here = tells (item_at items i) (get_or cs i false) in
          subst (FoundFirst (suc i) found.first) (sym (look_past items us cs i found e))
          (r ∙ ap (λ (t : Bool). first_of found.first
          (first_of (cond (t && leb (go i found).skipped.0 i) here Absent) (up_to (told (go i found).skipped.0) i))) (sym e))
      by true e true h r q =
          let here = tells (item_at items i) (get_or cs i false) in
          let mine : here ≡ told i i = rw (e, le-leb i i (omega arith)) refl in
          subst (FoundFirst (suc i) found.first) (sym (look_last items us cs i found e h))
          (subst (λ (k : ℕ). first_of found.first here ≡ first_of found.first (up_to (told k) (suc i))) (sym (last h))
          (ap (first_of found.first) (sym (first_end here) ∙ ap₂ first_of mine (sym (none_below i i (omega arith))))))
      by true e false h r q =
          let here = tells (item_at items i) (get_or cs i false) in
          let seen = look i found in
          let k = (go i seen).skipped.0 in
          let zeroed : seen.skipped.0 ≡ 0 = rw h z in
          let low : k ≤ i = ⊎_elim (λ p. omega (arith, p, zeroed)) (λ p. omega (arith, p.listed)) (skipped_by items us cs i seen) in
          let mine : here ≡ told k i = rw (e, le-leb k i low) refl in
          subst (FoundFirst (suc i) found.first) (sym (look_on items us cs i found e h))
          (q zeroed ∙ sym (first_assoc found.first here (up_to (told k) i)) ∙ ap
          (λ (t : InterestingCover). first_of found.first (first_of t (up_to (told k) i))) mine)

-- ---- what a layer tells, by its record and whether it needs a clip

abbrev tells_by : Plainly → InterestingCover
tells_by p = cond (p.needs || not p.layer.full) Incomplete (cond (is_opaque p.layer.func) (opaque_of (solid_color p.layer.func)) Absent)

clip_uncut : (f : Func) → is_clip f ≡ true → is_clipped_of f ≡ false
clip_uncut (Draw style) e = absurd (false≢true e)
clip_uncut (Clip span) e = refl

module _ (items : List Item) (up : is_ascending items ≡ true) where
  pub needs_at : (i : ℕ) → i < length items
      → (is_clipped_of (item_at items i).func && not (is_free items i)) ≡ needs_clip items (item_at items i).func (item_at items i).id
  needs_at i l =
      ⊎_elim
      (λ k. rw (clip_uncut (item_at items i).func k) refl)
      (λ k. ap (λ (b : Bool). is_clipped_of (item_at items i).func && not b) (ruled_at items up (record { listed = l; draws = k })).unclipped_is ∙ freed
      (is_clipped_of (item_at items i).func) _)
      (either (is_clip (item_at items i).func))
    where
      freed : (c f : Bool) → (c && not (c && f)) ≡ (c && not f)
      freed true f = refl
      freed false f = refl

  abbrev says : Item → InterestingCover
  says x = tells_by (plainly_in items x)

  first_shown : (covered_of items (marks_of items).unmasked (marks_of items).unclipped true).first ≡ first_in says (shown_afresh items)
  first_shown =
      let us = (marks_of items).unmasked in
      let cs = (marks_of items).unclipped in
      let skipped = (covered_of items us cs true).skipped.0 in
      found_first items us cs (length items) (start_of items true) refl
      ∙ same_up (length items) (told items us cs skipped) (placed says skipped 0 items us) each
      ∙ up_shown says skipped 0 items us (unmasked_long items)
    where
      each : (i : ℕ) → i < length items
          → told items (marks_of items).unmasked (marks_of items).unclipped (covered_of items (marks_of items).unmasked (marks_of items).unclipped true).skipped.0 i
          ≡ placed says (covered_of items (marks_of items).unmasked (marks_of items).unclipped true).skipped.0 0 items (marks_of items).unmasked i
      each i l =
          let us = (marks_of items).unmasked in
          let skipped = (covered_of items us (marks_of items).unclipped true).skipped.0 in
          let x = item_at items i in
          let z : i ≡ i + 0 = omega arith in
          ap (λ (m : ℕ). cond (get_or us i false && leb skipped m) (tells x (is_free items i)) Absent) z
          ∙ ap (λ (b : Bool). cond (get_or us i false && leb skipped (i + 0))
          (cond (b || not x.full) Incomplete (cond (is_opaque x.func) (opaque_of (solid_color x.func)) Absent)) Absent) (needs_at i l)

-- ---- the decision, by records and needs

first_told : List Plainly → InterestingCover
first_told [] = Absent
first_told (p ∷ ps) = first_of (first_told ps) (tells_by p)

first_told_lem : (items xs : List Item) → first_in (λ x. tells_by (plainly_in items x)) xs ≡ first_told (map (plainly_in items) xs)
unfolding first_in first_told
first_told_lem items [] = refl
first_told_lem items (x ∷ xs) = ap (λ (c : InterestingCover). first_of c (tells_by (plainly_in items x))) (first_told_lem items xs)

abbrev solid_from : List Plainly → ℕ → Bool
solid_from ps n = all (λ p. has_color (solid_color p.layer.func)) (drop n ps)

solid_from_lem : (items xs : List Item) (n : ℕ) → are_solid n xs ≡ solid_from (map (plainly_in items) xs) n
solid_from_lem items [] zero = refl
solid_from_lem items [] (suc n) = refl
solid_from_lem items (x ∷ xs) zero = ap (λ (b : Bool). has_color (solid_color x.func) && b) (solid_from_lem items xs zero)
solid_from_lem items (x ∷ xs) (suc n) = solid_from_lem items xs n

abbrev decision_for : InterestingCover → (ℕ → Bool) → Color → TileDecision
decision_for Incomplete areAll clear = paint
decision_for (Opaque color) areAll clear = cond (areAll 1) (solid color 1) paint
decision_for Absent areAll clear = cond (areAll 0) (solid clear 0) paint

decision_for_lem : (c : InterestingCover) (clear : Color) (shown : List Item) → decision_by c false clear shown ≡ decision_for c (λ n. are_solid n shown) clear
decision_for_lem Incomplete clear shown = refl
decision_for_lem (Opaque color) clear shown = refl
decision_for_lem Absent clear shown = refl

by_picture : (clear : Color) (items : List Item) → is_ascending items ≡ true
    → decision_afresh clear items ≡ decision_for (first_told (map plainly (picture_of items))) (solid_from (map plainly (picture_of items))) clear
by_picture clear items up =
    let us = (marks_of items).unmasked in
    let cs = (marks_of items).unclipped in
    let shown = shown_afresh items in
    let found = covered_of items us cs true in
    let strokes = strokes_plainly items shown None None in
    afresh_passed clear items
    ∙ ap (λ (b : Bool). decision_by found.first b clear shown) (changed_stays items us cs (length items) (start_of items true) refl)
    ∙ decision_for_lem found.first clear shown
    ∙ ap₂ (λ (c : InterestingCover) (f : ℕ → Bool). decision_for c f clear)
    (first_shown items up ∙ first_told_lem items shown ∙ ap first_told (sym strokes))
    (fun_ext (λ n. solid_from_lem items shown n ∙ ap (λ (ps : List Plainly). solid_from ps n) (sym strokes)))

pub decision_by_picture : DecisionByPicture
decision_by_picture clear items items' up up' e =
    by_picture clear items up
    ∙ ap (λ (ss : List Stroke). decision_for (first_told (map plainly ss)) (solid_from (map plainly ss)) clear) e
    ∙ sym (by_picture clear items' up')
