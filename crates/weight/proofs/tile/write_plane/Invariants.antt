use Rattle.std.specs.Prelude.{◌+◌, ◌*◌}
use Rattle.laws.proofs.Prelude.{nan, get_or}
use Rattle.cover_statements.specs.InnerWeighed.{coverages_in}
use Rattle.cover_statements.proofs.PlaneRows.{PlaneRows}
use Rattle.weight.proofs.tile.write_plane.Given as goal

abbrev pub invariant-loop-y : goal.invariant-loop-y
invariant-loop-y l = PlaneRows 16 (λ column row. get_or (coverages_in l.weights) (column * 16 + row) nan) l.initial.plane l.y l.plane
