-- What the scope says of the passes in words, proved of the definitions. Assumes nothing.
use Rattle.std.specs.Prelude.{◌≡◌, ◌&&◌, ◌||◌, ◌⊎◌, ◌≤◌, ◌<◌, Option, Some, None}
use Rattle.laws.proofs.Prelude.{refl, ap, ◌∙◌, Bool, true, false, not, and-true, and-false, inl, ⊎_elim, ⊎_map, List, [], ℕ}
use Rattle.laws.proofs.Prelude.{not-suc-le-zero, arith, ne_eqb, length, length-replicate, either}
use Rattle.styling.specs.declared.Color.{Color}
use Rattle.styling.specs.Style.{is_clipped_of}
use Rattle.pass_statements.specs.declared.item.Item.{Item}
use Rattle.pass_statements.specs.declared.covered.Covered.{Covered}
use Rattle.pass_statements.specs.Decision.{solid}
use Rattle.pass_statements.specs.Unchanged.{is_kept, were_removed}
use Rattle.pass_statements.specs.Clips.{Marks, marks_of}
use Rattle.pass_statements.specs.Covered.{item_at, covered_from, covered_of}
use Rattle.pass_statements.specs.Decide.{shown_from, shown_of, decision_by, passed_of, Outcome, outcome_of}
use Rattle.pass_statements.specs.Rules.{is_under, needs_clip, is_ascending, latest_below, is_unmasked, is_free, DrawAt, ClipAt, is_followed, is_clip_used, Hides, Over, Alike}
use Rattle.pass_statements.proofs.Covering.{skipped_by, hidden_skipped, unseen}
use Rattle.pass_statements.proofs.Deciding.{unmasked_long, unclipped_long}
use Rattle.pass_statements.proofs.Seen.{shown_alike}
use Rattle.pass_statements.proofs.Outcomes.{outcome_kept, outcome_passed, judged_at, clip_rule, ruled_at, free_rule, words_hide, over}

-- ---- the second pass

module _ (items : List Item) where
  pub record Lengths : Type 0 where
    pub unmasked : length (marks_of items).unmasked ≡ length items
    pub unclipped : length (marks_of items).unclipped ≡ length items

  -- it marks each listed layer
  pub lengths : Lengths
  lengths = record { unmasked = unmasked_long items; unclipped = unclipped_long items }

  -- 'A clip followed by another clip before a listed draw past its end is never judged for use; it stays shown unless full': in any list
  pub never_judged : {i : ℕ} → ClipAt items i → is_followed items i ≡ true → is_unmasked items i ≡ not (item_at items i).full
  never_judged {i} c f = judged_at items c ∙ rw f (and-true (not (item_at items i).full))

  module _ (ascending : is_ascending items ≡ true) where
    -- a clip is not masked off exactly where it is not full, and is followed or used
    pub unmasked_clip : {i : ℕ} → ClipAt items i → is_unmasked items i ≡ (not (item_at items i).full && (is_followed items i || is_clip_used items i))
    unmasked_clip c = clip_rule items ascending c

    -- a draw is masked off exactly where it is clipped and does not lie within the span of the latest clip
    pub unmasked_draw : {i : ℕ} → DrawAt items i → is_unmasked items i ≡ (not (is_clipped_of (item_at items i).func) || is_under (latest_below items i) (item_at items i).id)
    unmasked_draw d = (ruled_at items ascending d).unmasked_is

    -- 'A clipped draw before any clip, or past the span of the latest one, is masked off': and one within that span is not
    pub unmasked_clipped : {i : ℕ} → DrawAt items i → is_clipped_of (item_at items i).func ≡ true → is_unmasked items i ≡ is_under (latest_below items i) (item_at items i).id
    unmasked_clipped {i} d c = unmasked_draw d ∙ ap (λ (b : Bool). not b || is_under (latest_below items i) (item_at items i).id) c

    -- a clipped draw is drawn unclipped exactly where it needs no clip
    pub free_draw : {i : ℕ} → DrawAt items i → is_clipped_of (item_at items i).func ≡ true → is_free items i ≡ not (needs_clip items (item_at items i).func (item_at items i).id)
    free_draw d c = free_rule items ascending d c

    -- ---- the third pass

    -- a layer that is not masked off and hides what is under it lies at or below the first layer that is not skipped
    pub passed_hides : (clear : Color) (removed : Bool) {p : ℕ} → Hides items (passed_of clear removed items).unmasked p → p ≤ (passed_of clear removed items).skipped
    passed_hides clear removed {p} h = hidden_skipped items (marks_of items).unmasked (marks_of items).unclipped (length items) _ p (words_hide items ascending h)

    pub hides_skips : (clear : Color) (unchanged : Bool) (previous : Option ℕ) {p : ℕ} → is_kept unchanged previous items ≡ false
        → Hides items (outcome_of clear unchanged previous items).unmasked p → p ≤ (outcome_of clear unchanged previous items).skipped
    hides_skips clear unchanged previous e h =
        let is = outcome_passed clear unchanged previous items e in
        rw is (passed_hides clear (were_removed previous (length items)) (rw is at h))

    -- a layer that is passed over as covered lies under one that hides it
    pub passed_over : (clear : Color) (removed : Bool) (i : ℕ) → i < (passed_of clear removed items).skipped → Over items (passed_of clear removed items).unmasked i (passed_of clear removed items).skipped
    passed_over clear removed i h =
        ⊎_elim (λ e. absurd (omega arith)) (λ g. over items ascending i (passed_of clear removed items).skipped g h)
        (skipped_by items (marks_of items).unmasked (marks_of items).unclipped (length items) _)

    pub covered : (clear : Color) (unchanged : Bool) (previous : Option ℕ) (i : ℕ) → i < (outcome_of clear unchanged previous items).skipped
        → Over items (outcome_of clear unchanged previous items).unmasked i (outcome_of clear unchanged previous items).skipped
    covered clear unchanged previous i h =
        ⊎_elim (λ e. absurd (not-suc-le-zero (rw (outcome_kept clear unchanged previous items e) at h)))
        (λ e.
        let is = outcome_passed clear unchanged previous items e in
        rw is (passed_over clear (were_removed previous (length items)) i (rw is at h)))
        (either (is_kept unchanged previous items))

-- 'The full-cover pass doesn't look at masked layers when it judges "unchanged"', nor at anything else of theirs but whether a clip is changed
-- (W-208): lists that agree where nothing is masked off, and on whether a clip is changed, have one result. proofs/Repainting has what a mark does
module _ (items items' : List Item) where
  pub masked_unseen : (unmasked unclipped : List Bool) (removed : Bool) → Alike unmasked items items' → covered_of items unmasked unclipped removed ≡ covered_of items' unmasked unclipped removed
  masked_unseen unmasked unclipped removed a = rw (a.same_length, a.same_clips) (unseen items items' unmasked unclipped a.same_layer (length items') _)

  -- and so, where the second pass marks them alike, one outcome of both passes
  pub masked_passed : (clear : Color) (removed : Bool) → marks_of items ≡ marks_of items' → Alike (marks_of items).unmasked items items' → passed_of clear removed items ≡ passed_of clear removed items'
  masked_passed clear removed e a =
      let s = (marks_of items).unmasked in
      let u = (marks_of items).unclipped in
      let found = covered_of items s u removed in
      let same = masked_unseen s u removed a in
      let left = shown_alike found.skipped.0 items items' s a in
      ap (λ (l : List Item). record { decision = decision_by found.first found.unchanged clear l; unmasked = s; skipped = found.skipped.0 }) left
      ∙ ap (λ (f : Covered). record { decision = decision_by f.first f.unchanged clear (shown_of f.skipped.0 items' s); unmasked = s; skipped = f.skipped.0 }) same
      ∙ ap (λ (m : Marks). record {
        decision = decision_by (covered_of items' m.unmasked m.unclipped removed).first (covered_of items' m.unmasked m.unclipped removed).unchanged clear (shown_of (covered_of items' m.unmasked m.unclipped removed).skipped.0 items' m.unmasked);
        unmasked = m.unmasked;
        skipped = (covered_of items' m.unmasked m.unclipped removed).skipped.0;
      }) e

-- ---- all three

module _ (clear : Color) (unchanged : Bool) (previous : Option ℕ) (items : List Item) where
  pub outcome_long : length (outcome_of clear unchanged previous items).unmasked ≡ length items
  outcome_long =
      ⊎_elim
      (λ e. ap (λ (o : Outcome). length o.unmasked) (outcome_kept clear unchanged previous items e) ∙ length-replicate (length items) true)
      (λ e. ap (λ (o : Outcome). length o.unmasked) (outcome_passed clear unchanged previous items e) ∙ unmasked_long items)
      (either (is_kept unchanged previous items))

  -- the first layer that is not skipped is listed, unless none is skipped
  pub skipped_within : ((outcome_of clear unchanged previous items).skipped ≡ 0) ⊎ ((outcome_of clear unchanged previous items).skipped < length items)
  skipped_within =
      ⊎_elim (λ e. inl (ap (λ (o : Outcome). o.skipped) (outcome_kept clear unchanged previous items e)))
      (λ e. rw (outcome_passed clear unchanged previous items e) (⊎_map (λ q. q) (λ h. h.listed) (skipped_by items (marks_of items).unmasked (marks_of items).unclipped (length items) _)))
      (either (is_kept unchanged previous items))

-- 'An empty list with no keeping answers solid with the clear colour': where no count was kept, or another than 0, or the clear colour changed
module _ (clear : Color) where
  pub empty_solid : (unchanged : Bool) (previous : Option ℕ) → is_kept unchanged previous [] ≡ false → (outcome_of clear unchanged previous []).decision ≡ solid clear 0
  unfolding shown_from covered_from
  empty_solid unchanged previous e = ap (λ (o : Outcome). o.decision) (outcome_passed clear unchanged previous [] e)

  pub empty_new : (unchanged : Bool) → (outcome_of clear unchanged None []).decision ≡ solid clear 0
  empty_new unchanged = empty_solid unchanged None refl

  pub empty_counted : (unchanged : Bool) (n : ℕ) → (n ≡ 0 → ⊥) → (outcome_of clear unchanged (Some n) []).decision ≡ solid clear 0
  empty_counted unchanged n h = empty_solid unchanged (Some n) (rw (ne_eqb n 0 h) (and-false unchanged))

  pub empty_recolored : (previous : Option ℕ) → (outcome_of clear false previous []).decision ≡ solid clear 0
  empty_recolored None = empty_solid false None refl
  empty_recolored (Some n) = empty_solid false (Some n) refl
