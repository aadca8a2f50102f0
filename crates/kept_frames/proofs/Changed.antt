-- Whether layers were removed, and flags, matter to a decision in one way alone: it may be *none*. Else it is that of a work without a count, and the shown
-- layers are the same in any case. Assumes nothing.
use Rattle.std.specs.Prelude.{◌≡◌, ◌&&◌, ◌⊎◌, None}
use Rattle.laws.proofs.Prelude.{refl, sym, ap, ap₂, ◌∙◌, Bool, true, false, List, inl, inr, ⊎_elim, ℕ, zero, suc, length}
use Rattle.laws.proofs.Prelude.{get_or}
use Rattle.styling.specs.declared.Color.{Color}
use Rattle.pass_statements.specs.Clips.{marks_of}
use Rattle.pass_statements.specs.Covered.{hides, look_at, item_at, covered_from, start_of, covered_of}
use Rattle.pass_statements.specs.Decide.{Outcome, decision_by, shown_of, passed_of, outcome_of}
use Rattle.pass_statements.specs.Decision as decision
use Rattle.pass_statements.specs.Unchanged.{were_removed}
use Rattle.pass_statements.specs.declared.item.Item.{Item}
use Rattle.pass_statements.specs.declared.covered.Covered.{Covered}
use Rattle.pass_statements.specs.declared.covered.InterestingCover.{InterestingCover}
use Rattle.pass_statements.specs.declared.covered.InterestingCover.TheVariants.{Absent, Opaque, Incomplete}
use Rattle.pass_statements.proofs.Covering.{look_past, look_on, look_last}
use Rattle.pass_statements.proofs.Outcomes.{outcome_passed}
use Rattle.kept_frames.specs.Picture.{decision_afresh}
use Rattle.kept_frames.specs.Right.{WorkedAfresh}
use Rattle.kept_frames.proofs.Afresh.{removed_no_part}

-- the first cover that tells does not rest on what is known of flags and removals
module _ (items : List Item) (unmasked unclipped : List Bool) where
  abbrev first : ℕ → Covered → InterestingCover
  first n f = (covered_from items unmasked unclipped n f).first

  same_first : (n : ℕ) (f g : Covered) → f.first ≡ g.first → first n f ≡ first n g
  unfolding covered_from
  same_first zero f g e = e
  same_first (suc i) f g e =
      by (get_or unmasked i false) refl (hides (item_at items i) (get_or unclipped i false)) refl (same_first i f g e) (λ u v q. same_first i u v q)
    where
      by : (a : Bool) → get_or unmasked i false ≡ a → (b : Bool) → hides (item_at items i) (get_or unclipped i false) ≡ b
          → first i f ≡ first i g
          → ((u v : Covered) → u.first ≡ v.first → first i u ≡ first i v)
          → first (suc i) f ≡ first (suc i) g
      by false w b h r on =
          ap (λ (c : Covered). c.first) (look_past items unmasked unclipped i f w) ∙ r ∙ sym
          (ap (λ (c : Covered). c.first) (look_past items unmasked unclipped i g w))
      by true w false h r on =
          ap (λ (c : Covered). c.first) (look_on items unmasked unclipped i f w h)
          ∙ on (look_at (item_at items i) (get_or unclipped i false) i f) (look_at (item_at items i) (get_or unclipped i false) i g) (rw e refl)
          ∙ sym (ap (λ (c : Covered). c.first) (look_on items unmasked unclipped i g w h))
      by true w true h r on =
          ap (λ (c : Covered). c.first) (look_last items unmasked unclipped i f w h)
          ∙ (rw e refl)
          ∙ sym (ap (λ (c : Covered). c.first) (look_last items unmasked unclipped i g w h))

-- once something is changed it stays so
pub changed_stays : (items : List Item) (unmasked unclipped : List Bool) (n : ℕ) (f : Covered) → f.unchanged ≡ false
    → (covered_from items unmasked unclipped n f).unchanged ≡ false
unfolding covered_from
changed_stays items unmasked unclipped zero f e = e
changed_stays items unmasked unclipped (suc i) f e =
    by (get_or unmasked i false) refl (hides (item_at items i) (get_or unclipped i false)) refl (changed_stays items unmasked unclipped i f e)
    (λ g q. changed_stays items unmasked unclipped i g q)
  where
    by : (a : Bool) → get_or unmasked i false ≡ a → (b : Bool) → hides (item_at items i) (get_or unclipped i false) ≡ b
        → (covered_from items unmasked unclipped i f).unchanged ≡ false
        → ((g : Covered) → g.unchanged ≡ false → (covered_from items unmasked unclipped i g).unchanged ≡ false)
        → (covered_from items unmasked unclipped (suc i) f).unchanged ≡ false
    by false w b h r on = ap (λ (c : Covered). c.unchanged) (look_past items unmasked unclipped i f w) ∙ r
    by true w false h r on =
        ap (λ (c : Covered). c.unchanged) (look_on items unmasked unclipped i f w h) ∙ on (look_at (item_at items i) (get_or unclipped i false) i f)
        (ap (λ (b : Bool). b && (item_at items i).unchanged) e)
    by true w true h r on =
        ap (λ (c : Covered). c.unchanged) (look_last items unmasked unclipped i f w h) ∙ ap (λ (b : Bool). b && (item_at items i).unchanged) e

-- by the first cover: *none*, or the decision of changed layers
by_cover : (c : InterestingCover) (u : Bool) (clear : Color) (shown : List Item)
    → (decision_by c u clear shown ≡ decision.none) ⊎ (decision_by c u clear shown ≡ decision_by c false clear shown)
by_cover Incomplete u clear shown = inr refl
by_cover Absent u clear shown = inr refl
by_cover (Opaque color) true clear shown = inl refl
by_cover (Opaque color) false clear shown = inr refl

pub passed_by : (clear : Color) (removed : Bool) (items : List Item)
    → ((passed_of clear removed items).decision ≡ decision.none) ⊎ (passed_of clear removed items ≡ passed_of clear true items)
passed_by clear removed items =
    let us = (marks_of items).unmasked in
    let cs = (marks_of items).unclipped in
    let found = covered_of items us cs removed in
    let cover = same_first items us cs (length items) (start_of items removed) (start_of items true) refl in
    let skip = removed_no_part items us cs removed in
    let changed = changed_stays items us cs (length items) (start_of items true) refl in
    ⊎_elim
    (λ e. inl e)
    (λ e.
    let same : (passed_of clear removed items).decision ≡ (passed_of clear true items).decision =
    e
    ∙ ap₂ (λ (x : InterestingCover) (n : ℕ). decision_by x false clear (shown_of n items us)) cover skip
    ∙ ap (λ (b : Bool). decision_by (covered_of items us cs true).first b clear (shown_of (covered_of items us cs true).skipped.0 items us)) (sym changed) in
    inr (λ i. record { decision = same i; unmasked = us; skipped = skip i }))
    (by_cover found.first found.unchanged clear (shown_of found.skipped.0 items us))

-- the decision without a count
pub afresh_passed : (clear : Color) (items : List Item) → decision_afresh clear items ≡ (passed_of clear true items).decision
afresh_passed clear items = ap (λ (o : Outcome). o.decision) (outcome_passed clear false None items refl)

pub worked_afresh : WorkedAfresh
worked_afresh clear clear_unchanged count items k =
    let o = outcome_passed clear clear_unchanged count items k in
    let removed = were_removed count (length items) in
    record {
      shown =
          ap (λ (x : Outcome). shown_of x.skipped items x.unmasked) o
          ∙ ap (λ (n : ℕ). shown_of n items (marks_of items).unmasked) (removed_no_part items (marks_of items).unmasked (marks_of items).unclipped removed);
      decision = by (ap (λ (x : Outcome). x.decision) o) (passed_by clear removed items);
    }
  where
    by : (outcome_of clear clear_unchanged count items).decision ≡ (passed_of clear (were_removed count (length items)) items).decision
        → ((passed_of clear (were_removed count (length items)) items).decision ≡ decision.none) ⊎ (passed_of clear (were_removed count (length items)) items ≡ passed_of clear true items)
        → ((outcome_of clear clear_unchanged count items).decision ≡ decision.none) ⊎ ((outcome_of clear clear_unchanged count items).decision ≡ decision_afresh clear items)
    by o (inl n) = inl (o ∙ n)
    by o (inr e) = inr (o ∙ ap (λ (x : Outcome). x.decision) e ∙ sym (afresh_passed clear items))
