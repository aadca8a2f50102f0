-- The claims of specs/Passes, cited. Assumes nothing.
use Rattle.row_driver.proofs.ShownIds as shown
use Rattle.pass_statements.proofs.Words as words
use Rattle.claims.specs.Passes.{PassesInWords}

pub passes_in_words : PassesInWords
passes_in_words =
    record {
      never_judged = words.never_judged;
      unmasked_clipped = words.unmasked_clipped;
      unmasked_draw = words.unmasked_draw;
      masked_unseen = words.masked_unseen;
      masked_passed = words.masked_passed;
      empty_solid = words.empty_solid;
      empty_new = words.empty_new;
      empty_counted = words.empty_counted;
      empty_recolored = words.empty_recolored;
      free_draw = words.free_draw;
      covered = words.covered;
      shown_ids = shown.shown_ids;
    }
