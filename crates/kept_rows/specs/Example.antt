-- The theorems over frames are not empty: two frames of one tile that meet their premises, in the second of which the tile is kept. One opaque layer comes
-- in from tile -1 and fills the tile; in the second frame it is unchanged, and so by what its rows and tables say. proofs/Example has it.
use Rattle.std.specs.Prelude.{◌≡◌, ◌∷◌}
use Rattle.laws.specs.Prelude.{List, [], ℕ, binary32, of_bits, pos, negsuc, replicate, tabulate}
use Rattle.pixel_segment.specs.Field.{cpu}
use Rattle.pixel_segment.specs.Pack.{word_of}
use Rattle.cached_tile.specs.declared.CachedTile.{CachedTile}
use Rattle.pass_statements.specs.Decision.{none}
use Rattle.row_statements.specs.Opening.{OpenCall}
use Rattle.row_statements.specs.Run.{open_row}
use Rattle.row_statements.specs.Example.{black}
use Rattle.kept_frames.specs.Display.{Display}
use Rattle.kept_rows.specs.History.{AcceptedWork, worked_of, Standing, History}
use Rattle.kept_rows.specs.Frames.{RowHistory}

-- the record of an opaque draw, with its flag
abbrev pub opaque_draw : ℕ → List ℕ
opaque_draw unchanged = 1 ∷ 0 ∷ 0 ∷ 0 ∷ 0 ∷ 0 ∷ 0 ∷ unchanged ∷ []

abbrev pub frame_call : ℕ → OpenCall
frame_call unchanged =
    record {
      tile_y = pos 0;
      from = pos 0;
      to = pos 1;
      row = tabulate 16 (λ y. word_of cpu 1 (negsuc 0) (pos 0) 3 y 32 (pos 16));
      table = record { words = opaque_draw unchanged; floats = replicate 4 (of_bits binary32 0x3F800000); count = 1 };
    }

-- the tile shows what was drawn in the first frame, and its last accepted work is that of the second
pub record KeptTile : Type 0 where
  pub first : AcceptedWork
  pub second : AcceptedWork
  pub calls : (first.call ≡ frame_call 0) × (second.call ≡ frame_call 1)
  pub decided : second.done.decision ≡ none
  pub tile : CachedTile
  pub display : Display
  pub history : History 0 (Standing.worked tile display (worked_of first) (worked_of second))
  pub in_row_lem :
      RowHistory 0 (record { row = open_row (frame_call 1); revisions = []; clear = black; worked = 1 })
      (Standing.worked tile display (worked_of first) (worked_of second))
