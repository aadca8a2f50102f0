use Rattle.std.specs.Prelude.{◌+◌}
use Rattle.laws.proofs.Prelude.{length}
use Rattle.batch_mixing.specs.InnerMixing.{mix_at}
use Rattle.batch_mixing.proofs.Mixed.{Walking}
use Rattle.batch_mixing.proofs.mix_listed.Given as goal

abbrev pub invariant-loop-unmasked : goal.invariant-loop-unmasked
invariant-loop-unmasked l =
    Walking l.list_ids l.list_unmasked l.skipped l.listed (mix_at l.initial.at l.initial.painted) (mix_at l.at l.painted) (l.skipped + length l.yielded)
