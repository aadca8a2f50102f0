-- What the functions below deciding ask and give.
use Rattle.std.specs.Prelude.{Ok, Err}
use Rattle.refusals.specs.declared.Refusal.{Refusal}
use Rattle.cached_tile.specs.declared.kept.Kept as kept
use Rattle.layer_workbench.specs.declared.DecidedTile.{DecidedTile}
use Rattle.listing_statements.specs.declared.TileDecided.{TileDecided}

abbrev pub refused_deciding : kept.Kept → Refusal → TileDecided
refused_deciding k r = record { kept = k; answer = Err r }

abbrev pub done_deciding : DecidedTile → TileDecided
done_deciding d = record { kept = d.kept; answer = Ok (d.decision, d.skipped) }
