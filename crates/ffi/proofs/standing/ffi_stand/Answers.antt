-- `standing::ffi_stand` meets its contract. It tells what `stand` answers. Assumes nothing.
use Rattle.laws.proofs.Prelude.{ap, ◌∙◌, rules}
use Rattle.ffi_numbers.specs.Numbers.{refusal_number}
use Rattle.ffi.proofs.standing.ffi_stand.Goals as goal

pub stand-answer-requires : goal.stand-answer-requires
stand-answer-requires c = search rules

pub put_standing-requires : goal.put_standing-requires
put_standing-requires c = search rules

pub shape_of-layers : goal.shape_of-layers
shape_of-layers c = search rules

pub shape_of-colors : goal.shape_of-colors
shape_of-colors c = search rules

pub returns : goal.returns
returns c =
    let stands = c.stand-answer.ensures in
    record {
      number = c.put_standing.ensures.value ∙ ap refusal_number stands.answer;
      count = rw stands.answer at c.put_standing.ensures.standing_after;
      words_are = stands.words_are;
      floats_are = stands.floats_are;
    }
