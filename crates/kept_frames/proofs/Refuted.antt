-- The histories of specs/Wrong and the pictures of specs/Example, computed. Assumes nothing.
use Rattle.laws.proofs.Prelude.{refl, false≢true, inl, inr, of_bits, eq, odd}
use Rattle.styling.specs.Ascending.{strictly_ascends_from}
use Rattle.pass_statements.specs.Clips.{clips_from, step_of}
use Rattle.pass_statements.specs.Covered.{covered_from}
use Rattle.pass_statements.specs.Decide.{outcome_of, shown_from}
use Rattle.pass_statements.specs.Rules.{latest_clip}
use Rattle.kept_frames.specs.Picture.{strokes_from}
use Rattle.kept_frames.specs.Example.{PaintersClip}
use Rattle.kept_frames.specs.Wrong.{WronglyKept}

pub wrongly_kept : WronglyKept
unfolding strictly_ascends_from outcome_of clips_from step_of covered_from shown_from latest_clip strokes_from eq of_bits odd
wrongly_kept =
    record {
      exchange = record { frames = record { up_before = refl; up_now = refl; told = ((λ e. absurd (false≢true e)), ((λ e. inl refl), tt)) }; kept = refl; shown = refl; fresh = refl };
      hidden_change_lem = record { frames = record { up_before = refl; up_now = refl; told = ((λ e. inl refl), ((λ e. absurd (false≢true e)), tt)) }; kept = refl; shown = refl; fresh = refl };
      clip_turned_lem =
          record {
            frames = record { up_before = refl; up_now = refl; told = ((λ e. absurd (false≢true e)), ((λ e. inr (inl refl)), ((λ e. inr (inr (inl refl))), tt))) };
            kept = refl;
            shown = refl;
            fresh = refl;
          };
      clip_left_lem =
          record {
            frames = record { up_before = refl; up_now = refl; told = ((λ e. absurd (false≢true e)), ((λ e. inl refl), ((λ e. inr (inr (inl refl))), tt))) };
            kept = refl;
            shown = refl;
            fresh = refl;
          };
      otherwise =
          record {
            frames =
                record {
                  up_before = refl;
                  up_now = refl;
                  told = ((λ e. inl refl), ((λ e. inr (inl refl)), ((λ e. absurd (false≢true e)), ((λ e. inr (inr (inl refl))), tt))));
                };
            stays = refl;
            kept = refl;
            was = refl;
            is = refl;
            rule = refl;
          };
      since_last_frame = record { told = ((λ e. inl refl), ((λ e. inr (inl refl)), tt)); kept = refl; shown = refl; fresh = refl };
    }

pub painters_clip : PaintersClip
unfolding clips_from step_of covered_from shown_from latest_clip strokes_from eq of_bits
painters_clip = record { two_clips = refl; one_clip = refl; both_alive = refl; skipped_clip = refl }
