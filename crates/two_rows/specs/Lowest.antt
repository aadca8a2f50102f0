-- Where W-210 ends: -32 is a cover that the field of a segment holds, and 32 is not. A row with one cover of -32 and its opposite are both opened, and
-- the carries are not opposite, nor are the coverages the same. So the claim of specs/Backwards is false of rows whose covers lie in -32 to 31.
-- proofs/Lowest has it.
use Rattle.std.specs.Prelude.{◌≡◌, ◌∷◌, Ok}
use Rattle.laws.specs.Prelude.{[], map, ℕ, binary32, of_bits, ℤ, pos, negsuc, replicate}
use Rattle.pixel_segment.specs.Field.{cpu, cover_of}
use Rattle.pixel_segment.specs.Pack.{word_of}
use Rattle.segment_rows.specs.Rows.{Words}
use Rattle.row_statements.specs.Example.{room}
use Rattle.row_statements.specs.Lent.{Columns}
use Rattle.row_statements.specs.State.{state_in}
use Rattle.row_statements.specs.Opening.{OpenCall, open_of, OpensRow}
use Rattle.row_statements.specs.Due.{plane_on}
use Rattle.row_statements.specs.Run.{open_row}
use Rattle.row_statements.specs.declared.RowState.{RowState}
use Rattle.two_rows.specs.Backwards.{opposite_call, BackOpening}

-- a segment of layer 5 in tile -1, pixel row 0
abbrev fifth_segment : ℤ → ℕ
fifth_segment cover = word_of cpu 5 (negsuc 0) (pos 0) 3 0 32 cover

-- one cover of -32 and one of 31, left of the first tile; layer 5 is a NonZero draw
abbrev pub lowest_call : OpenCall
lowest_call =
    record {
      tile_y = pos 0;
      from = pos 0;
      to = pos 1;
      row = fifth_segment (negsuc 31) ∷ fifth_segment (pos 31) ∷ [];
      table = record { words = 5 ∷ 0 ∷ 0 ∷ 0 ∷ 0 ∷ 0 ∷ 0 ∷ 0 ∷ []; floats = replicate 4 (of_bits binary32 0x3F800000); count = 1 };
    }

pub record Fails : Type 0 where
  -- the covers of the row, and of its opposite, which would need a 32
  pub covers : (map (cover_of cpu) lowest_call.row ≡ negsuc 31 ∷ pos 31 ∷ []) × (map (cover_of cpu) (opposite_call lowest_call).row ≡ negsuc 31 ∷ negsuc 30 ∷ [])
  -- the premises of the claim but mildness, for the run of no call
  pub words : Words lowest_call.row
  pub state : RowState
  pub back : Columns
  pub back' : Columns
  pub opens : OpensRow (open_of lowest_call (room 256)) (Ok state) back
  pub opens' : OpensRow (open_of (opposite_call lowest_call) (room 256)) (Ok state) back'
  -- what the claim would say of the opening, and of a painting
  pub carries_differ : BackOpening (state_in state) (state_in state) back back' → ⊥
  pub planes_differ : (plane_on (open_row (opposite_call lowest_call)) 0 5 ≡ plane_on (open_row lowest_call) 0 5) → ⊥
