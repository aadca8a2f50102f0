use Rattle.load_statements.specs.Load.{asked}
use Rattle.load_text.proofs.Printing.{Making}
use Rattle.load_text.proofs.blocks.print_segments.Given as goal

abbrev pub invariant-loop-k : goal.invariant-loop-k
invariant-loop-k l = Making (asked l.seed l.tiles l.count) l.initial.out l.initial.end l.end l.generator.state l.k l.out
