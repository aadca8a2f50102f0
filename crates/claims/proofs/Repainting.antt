-- The claims of specs/Repainting, cited. Assumes nothing.
use Rattle.pass_statements.proofs.Repainting as repainting
use Rattle.listing_runs.proofs.Marked as marked
use Rattle.claims.specs.Repainting.{ChangedClips}

pub changed_clips : ChangedClips
changed_clips =
    record {
      changed_clip_repaints = repainting.changed_clip_repaints;
      clip_mark = repainting.clip_mark;
      draw_mark = repainting.draw_mark;
      mark_read = repainting.mark_read;
      unmarked_clips = repainting.unmarked_clips;
      outcome_repaints = repainting.outcome_repaints;
      passed_repaints = repainting.passed_repaints;
      marks_alone = marked.marks_alone;
      marked_frames = marked.marked_frames;
    }
