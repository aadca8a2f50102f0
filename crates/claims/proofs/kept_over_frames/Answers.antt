-- `kept_over_frames` meets its contract: the theorems, cited. Assumes nothing.
use Rattle.kept_rows.proofs.Example.{kept_tile_lem}
use Rattle.kept_rows.proofs.Frames.{row_frames_right}
use Rattle.kept_rows.proofs.History.{first_drawn, frames_right, work_shows}
use Rattle.kept_rows.proofs.Protocol.{operation_allows}
use Rattle.claims.proofs.kept_over_frames.Goals as goal

pub returns : goal.returns
returns c = (frames_right, first_drawn, work_shows, operation_allows, row_frames_right, kept_tile_lem)
