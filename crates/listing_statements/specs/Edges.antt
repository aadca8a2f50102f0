-- The refusals of a deciding at their edges. Stands for W-206, 'deciding judges 1 and 4 to 8'.
use Rattle.std.specs.Prelude.{◌≡◌, ◌∷◌, None}
use Rattle.laws.specs.Prelude.{Bool, false, List, ℕ, pos, replicate, tabulate}
use Rattle.refusals.specs.Refusal.{pass, refuse}
use Rattle.cached_tile.specs.Kept.{no_tile}
use Rattle.cached_tile.specs.declared.kept.Kept as kept
use Rattle.row_statements.specs.Example.{table, black, tagged}
use Rattle.listing_statements.specs.Listing.{tile_list}
use Rattle.listing_statements.specs.Deciding.{DecideCall, decide_call, deciding_verdict}

-- a list of n entries with these ids, of the layers 1 to 4
abbrev list_of : List ℕ → ℕ → kept.Kept → DecideCall
list_of ids n k = decide_call (tile_list ids (replicate 4096 (pos 0)) (replicate 512 false)) n table k black None

abbrev masks : ℕ → List Bool
masks n = replicate n false

abbrev up_to : ℕ → List ℕ
up_to n = tabulate n (λ i. i)

pub record DecidingEdges : Type 0 where
  -- 0, 1, .., n - 1
  -- two layers of the table pass; past the n entries nothing is read
  pub passes : deciding_verdict (list_of (1 ∷ 2 ∷ replicate 254 0) 2 no_tile) (masks 256) ≡ pass
  -- 1: a column of 255 entries
  pub short_ids : deciding_verdict (list_of (1 ∷ 2 ∷ replicate 253 0) 2 no_tile) (masks 256) ≡ refuse 1
  pub short_masks : deciding_verdict (list_of (1 ∷ 2 ∷ replicate 254 0) 2 no_tile) (masks 255) ≡ refuse 1
  -- 5: equal ids, though the table lacks them too
  pub five_before_eight : deciding_verdict (list_of (9 ∷ 9 ∷ replicate 254 0) 2 no_tile) (masks 256) ≡ refuse 5
  -- 5 is judged before 7, on as many ids as there are
  pub five_before_seven : deciding_verdict (list_of (1 ∷ replicate 256 0) 257 no_tile) (masks 256) ≡ refuse 5
  -- 6 before 7
  pub six_before_seven : deciding_verdict (list_of (up_to 257) 257 (tagged 4)) (masks 256) ≡ refuse 6
  -- 7: 257 entries, and 300 of a column that has 256; 256 entries are judged by 8
  pub seven_past : deciding_verdict (list_of (up_to 257) 257 no_tile) (masks 256) ≡ refuse 7
  pub seven_beyond : deciding_verdict (list_of (up_to 256) 300 no_tile) (masks 256) ≡ refuse 7
  pub seven_passes : deciding_verdict (list_of (up_to 256) 256 no_tile) (masks 256) ≡ refuse 8
  -- 8: a layer that the table lacks
  pub eight : deciding_verdict (list_of (1 ∷ 9 ∷ replicate 254 0) 2 no_tile) (masks 256) ≡ refuse 8
