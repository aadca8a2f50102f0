-- Both sides of the edges of an opening's refusals 7 and 9, and what it holds, on a few words. A word is a layer times 2^20, a pixel row times 2^12,
-- and a cover modulo 64, all in tile -1. Stands for 7 and 9 of 'Turned down'.
use Rattle.std.specs.Prelude.{◌≡◌, ◌∷◌, ◌+◌, ◌*◌, ◌^◌}
use Rattle.laws.specs.Prelude.{[], pos, set, refused, given, tabulate}
use Rattle.queue_statements.specs.Queue.{zeros}
use Rattle.queue_statements.specs.Opening.{open_queue, open_answer}

pub record OpeningEdges : Type 0 where
  -- layer 5, row 4, covers 16 and -16: a carry of zero is kept
  pub zero_kept : open_queue (0x504010 ∷ 0x504030 ∷ []) ≡ record { id = 5; cover = zeros } ∷ []
  -- layer 5, then layer 2: the carries ascend
  pub ascending : open_queue (0x504010 ∷ 0x20f001 ∷ []) ≡ record { id = 2; cover = set zeros 15 (pos 1) } ∷ record { id = 5; cover = set zeros 4 (pos 16) } ∷ []
  -- 31 four times and 3 pass; with 4 for 3 the load is 128
  pub within : open_answer (0x50401f ∷ 0x50401f ∷ 0x50401f ∷ 0x50401f ∷ 0x504003 ∷ []) ≡ given 1
  pub above : open_answer (0x50401f ∷ 0x50401f ∷ 0x50401f ∷ 0x50401f ∷ 0x504004 ∷ []) ≡ refused 9
  -- 256 layers pass, 257 don't
  pub seven_passes : open_answer (tabulate 256 (λ i. i * 2 ^ 20)) ≡ given 256
  pub seven_past : open_answer (tabulate 257 (λ i. i * 2 ^ 20)) ≡ refused 7
  -- layer 0 with a load of 160, and 256 other layers: 7 comes before 9
  pub seven_first : open_answer (0x20 ∷ 0x20 ∷ 0x20 ∷ 0x20 ∷ 0x20 ∷ tabulate 256 (λ i. (i + 1) * 2 ^ 20)) ≡ refused 7
