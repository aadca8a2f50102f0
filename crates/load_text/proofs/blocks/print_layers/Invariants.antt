use Rattle.lines.proofs.LinesPrinting.{LinesPrinting}
use Rattle.job_text_statements.specs.Job.{layer_values}
use Rattle.load_statements.specs.Load.{load_layer}
use Rattle.load_text.proofs.blocks.print_layers.Given as goal

abbrev pub invariant-loop-id : goal.invariant-loop-id
invariant-loop-id l = LinesPrinting (λ i. layer_values (load_layer i)) 8 18 l.initial.out l.initial.end l.end l.id l.out
