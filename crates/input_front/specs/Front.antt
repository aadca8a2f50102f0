-- What a program has read of its input: the first n bytes of a buffer are the input's first, as many as the buffer holds, and all of a shorter
-- input. No contract can say what is read; the contracts of the programs' answers say what holds of every input whose front a buffer holds.
use Rattle.std.specs.Prelude.{◌≡◌}
use Rattle.laws.specs.Prelude.{List, ℕ, length, take}

pub record HoldsFront (buffer : List ℕ) (n : ℕ) (input : List ℕ) : Type 0 where
  pub same : take n buffer ≡ take (length buffer) input
