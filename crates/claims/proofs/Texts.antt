-- The claims of specs/Texts, cited. Assumes nothing.
use Rattle.lines.proofs.Examples as examples
use Rattle.job_text_statements.proofs.Laws as laws
use Rattle.job_statements.proofs.Packing as packing
use Rattle.claims.specs.Texts.{JobTexts}

pub job_texts : JobTexts
job_texts =
    record {
      complete = laws.complete;
      sound = laws.sound;
      read_back = packing.read_back;
      text_reads_back = packing.text_reads_back;
      line = examples.line;
    }
