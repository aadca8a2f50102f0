-- The claims of specs/Loads, cited. Assumes nothing.
use Rattle.std.specs.Prelude.{◌≡◌}
use Rattle.laws.proofs.Prelude.{refl, true, not, all}
use Rattle.decimal.specs.Parse.{parseℕ, more_digits}
use Rattle.load_statements.specs.Input.{parse_field, ask}
use Rattle.load_statements.proofs.Examples as examples
use Rattle.load_statements.proofs.Asking as asking
use Rattle.load_statements.proofs.Lengths as lengths
use Rattle.load_statements.proofs.Slots as slots
use Rattle.load_statements.proofs.Making as making
use Rattle.job_front.proofs.Fronts as fronts
use Rattle.claims.specs.Loads.{is_asked, good, bad, Loads}

-- lines at the ends, computed
asked : all is_asked good ≡ true
unfolding ask parse_field parseℕ more_digits
asked = refl

not_asked : all (λ s. not (is_asked s)) bad ≡ true
unfolding ask parse_field parseℕ more_digits
not_asked = refl

pub loads : Loads
loads =
    record {
      draws = examples.draws;
      four = examples.four;
      five = examples.five;
      greatest_seed = examples.greatest_seed;
      ask_complete = asking.ask_complete;
      ask_sound = asking.ask_sound;
      passes = asked;
      turned_down = not_asked;
      lines_short = lengths.lines_short;
      front_decides = lengths.front_decides;
      answers_fit = lengths.answers_fit;
      job_front_decides = fronts.front_decides;
      slots_ascend = slots.slots_ascend;
      made = making.made;
    }
