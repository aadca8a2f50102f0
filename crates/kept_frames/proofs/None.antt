-- *None* is right wherever the count was kept by the rule, and no right rule is wider. Assumes nothing.
use Rattle.std.specs.Prelude.{◌≡◌, Some, None}
use Rattle.laws.proofs.Prelude.{refl, sym, ap, ◌∙◌, Bool, true, false, false≢true, List, ⊎_elim, length, left, either}
use Rattle.styling.specs.declared.Color.{Color}
use Rattle.pass_statements.specs.Decide.{Outcome, outcome_of}
use Rattle.pass_statements.specs.Decision as decision
use Rattle.pass_statements.specs.Unchanged.{is_kept, were_removed}
use Rattle.pass_statements.specs.declared.item.Item.{Item}
use Rattle.pass_statements.proofs.Outcomes.{outcome_passed}
use Rattle.kept_frames.specs.Alike.{layers_alike, same_bits, may_keep_count}
use Rattle.kept_frames.specs.Right.{Frames, ShowsSame, count_by, NoneRight, Widest, UncountedDrawn}
use Rattle.kept_frames.proofs.Kept.{first_pass_right}
use Rattle.kept_frames.proofs.Floor.{none_start}
use Rattle.kept_frames.proofs.Plain.{full_cover_right, alike_exact}

pub uncounted_drawn : UncountedDrawn
uncounted_drawn clear clear_unchanged now e =
    false≢true (none_start clear true now (sym (ap (λ (o : Outcome). o.decision) (outcome_passed clear clear_unchanged None now refl)) ∙ e))

module _ (clear clear' : Color) (clear_unchanged : Bool) (before now : List Item) (f : Frames before now) where
  counted : may_keep_count clear clear' before now ≡ true → (outcome_of clear' clear_unchanged (Some (length before)) now).decision ≡ decision.none
      → ShowsSame clear clear' before now
  counted may e =
      ⊎_elim
      (λ k. (first_pass_right clear clear' clear_unchanged before now f (left (same_bits clear clear') (layers_alike before now) may) k).1)
      (λ k. full_cover_right clear clear' (were_removed (Some (length before)) (length now)) before now f may
      (sym (ap (λ (o : Outcome). o.decision) (outcome_passed clear' clear_unchanged (Some (length before)) now k)) ∙ e))
      (either (is_kept clear_unchanged (Some (length before)) now))

  by_rule : (may : Bool) → may_keep_count clear clear' before now ≡ may → (outcome_of clear' clear_unchanged (count_by may before) now).decision ≡ decision.none
      → ShowsSame clear clear' before now
  by_rule true s h = counted s h
  by_rule false s h = absurd (uncounted_drawn clear' clear_unchanged now h)

pub none_right : NoneRight
none_right clear clear' clear_unchanged before now f e = by_rule clear clear' clear_unchanged before now f (may_keep_count clear clear' before now) refl e

pub widest : Widest
widest rule right clear clear' clear_unchanged before now f e allowed =
    alike_exact clear clear' before now
    (right clear clear' clear_unchanged before now f
    (ap (λ (may : Bool). (outcome_of clear' clear_unchanged (count_by may before) now).decision) allowed ∙ e)).drawn
