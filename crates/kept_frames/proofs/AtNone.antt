-- The keep rule matters only where the full-cover pass would keep the tile. Assumes nothing.
use Rattle.std.specs.Prelude.{◌≡◌, ◌⊎◌, Some, None}
use Rattle.laws.proofs.Prelude.{refl, sym, ap, ◌∙◌, true, inl, inr, length}
use Rattle.pass_statements.specs.Decide.{Outcome, passed_of, outcome_of}
use Rattle.pass_statements.specs.Decision as decision
use Rattle.pass_statements.specs.Unchanged.{were_removed}
use Rattle.pass_statements.proofs.Outcomes.{outcome_passed}
use Rattle.kept_frames.specs.Right.{RuleOnlyAtNone}
use Rattle.kept_frames.proofs.Changed.{passed_by}
use Rattle.kept_frames.proofs.Kept.{same_picture, kept_list}
use Rattle.kept_frames.proofs.Plain.{picture_alike}

pub rule_only_at_none : RuleOnlyAtNone
rule_only_at_none clear clear_unchanged before now f =
    record {
      first = λ k. picture_alike before now (same_picture before now (kept_list clear_unchanged before now f k).0);
      other =
          λ k. by (outcome_passed clear clear_unchanged (Some (length before)) now k)
          (passed_by clear (were_removed (Some (length before)) (length now)) now);
    }
  where
    by : outcome_of clear clear_unchanged (Some (length before)) now ≡ passed_of clear (were_removed (Some (length before)) (length now)) now
        → ((passed_of clear (were_removed (Some (length before)) (length now)) now).decision ≡ decision.none) ⊎ (passed_of clear (were_removed (Some (length before)) (length now)) now ≡ passed_of clear true now)
        → ((outcome_of clear clear_unchanged (Some (length before)) now).decision ≡ decision.none) ⊎ (outcome_of clear clear_unchanged (Some (length before)) now ≡ outcome_of clear clear_unchanged None now)
    by e (inl n) = inl (ap (λ (o : Outcome). o.decision) e ∙ n)
    by e (inr s) = inr (e ∙ s ∙ sym (outcome_passed clear clear_unchanged None now refl))
