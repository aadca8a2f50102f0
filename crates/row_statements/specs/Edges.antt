-- Both sides of the edges of an opening's refusals 1 to 4 and of a tile work's; those of 7 and 9 at an opening stand in queue_statements/specs/Edges.
-- Stands for 'Turned down'.
use Rattle.std.specs.Prelude.{◌≡◌, ◌∷◌}
use Rattle.laws.specs.Prelude.{Bool, true, false, List, [], None, ℕ, nan, ℤ, pos, negsuc, replicate, tabulate}
use Rattle.pixel_segment.specs.Field.{cpu}
use Rattle.pixel_segment.specs.Pack.{word_of}
use Rattle.layer_table.specs.Record.{layer_of}
use Rattle.layer_table.specs.Table.{table_of}
use Rattle.styling.specs.declared.Color.{Color}
use Rattle.styling.specs.declared.Layer.{Layer}
use Rattle.queue_statements.specs.Queue.{is_queue}
use Rattle.cached_tile.specs.declared.kept.Kept as kept
use Rattle.tile_layers.specs.Listing.{Listed}
use Rattle.refusals.specs.Refusal.{Judgement, pass, refuse}
use Rattle.row_statements.specs.Lent.{Columns, lent_table, columns, list_columns, is_list_short}
use Rattle.row_statements.specs.State.{State}
use Rattle.row_statements.specs.Opening.{open_call, open_verdict}
use Rattle.row_statements.specs.TileWork.{WorkLent, work_call, work_lent, args_verdict, list_verdict}

-- a queue of so many entries
abbrev room : ℕ → Columns
room n = columns (replicate n 0) (replicate 4096 (pos 0))

abbrev opened : ℤ → ℤ → ℤ → List ℕ → ℕ → Judgement
opened tile_y from to row entries = open_verdict (open_call tile_y from to row (lent_table [] [] 0)) (room entries)

abbrev segment : ℕ → ℤ → ℕ
segment layer tile_y = word_of cpu layer (pos 0) tile_y 0 0 32 (pos 16)

abbrev draw : ℕ → ℕ → List ℕ → List ℕ
draw id mode rest = id ∷ 0 ∷ 0 ∷ 0 ∷ 0 ∷ 0 ∷ mode ∷ 0 ∷ rest

abbrev tabled_with : List ℕ → List ℕ → ℕ → Judgement
tabled_with row words count = open_verdict (open_call (pos 0) (pos 0) (pos 4) row (lent_table words (replicate 8 nan) count)) (room 256)

abbrev tabled : List ℕ → ℕ → Judgement
tabled words count = tabled_with [] words count

abbrev lent : WorkLent
lent = work_lent (room 256) (list_columns (replicate 256 0) (replicate 4096 (pos 0)) (replicate 512 false) (replicate 256 false))

abbrev black : Color
black = record { r = nan; g = nan; b = nan; a = nan }

abbrev tagged : Bool → ℕ → kept.Kept
tagged given tag = record { given = given; tile = record { tags = tag; layer_count = replicate 3 0; solid_color = replicate 4 0 } }

abbrev state_at : ℕ → ℕ → State
state_at next left = record { tile_y = 0; from = 0; to = 4; next = next; left = left; taken = 0; clip = None }

abbrev worked_in : List ℕ → ℤ → ℕ → ℕ → ℕ → Judgement
worked_in row tile a b tag =
    args_verdict (work_call (state_at 2 2) tile row (lent_table [] [] 0) (tagged true tag) black None (columns (a ∷ b ∷ replicate 254 0) (replicate 4096 (pos 0)))) lent

abbrev worked : ℤ → ℕ → ℕ → ℕ → Judgement
worked tile a b tag = worked_in [] tile a b tag

abbrev ending : ℕ → ℤ → Judgement
ending next tile = args_verdict (work_call (state_at next 0) tile [] (lent_table [] [] 0) (tagged false 0) black None (room 256)) lent

abbrev lists : ℕ → ℕ → ℕ → Bool
lists ids covers flags = is_list_short (list_columns (replicate ids 0) (replicate covers (pos 0)) (replicate flags false) (replicate 256 false))

abbrev listed : ℤ → ℕ → Listed
listed cover id = record { id = id; cover = replicate 16 cover; own = word_of cpu id (pos 0) (pos 0) 3 0 32 (negsuc 7) ∷ [] }

-- draws with the ids 0, 1, 2, ..
abbrev layers : ℕ → List Layer
layers n = tabulate n (λ id. layer_of (record { id = id; rule = 0; func = 0; span = 0; clipped = 0; fill = 0; mode = 0; unchanged = 0 }) (record { r = nan; g = nan; b = nan; a = nan }))

-- a table of one draw, layer 5
abbrev table : List Layer
table = table_of (5 ∷ replicate 7 0) [] 1

pub record RowEdges : Type 0 where
  -- openings, of a row and no layers, with a queue of so many entries
  -- 1: 256 entries pass, 255 don't; an empty row passes, and so does from = to
  pub queue_passes : opened (pos 0) (pos 3) (pos 3) [] 256 ≡ pass
  pub queue_lacks : opened (pos 0) (pos 3) (pos 3) [] 255 ≡ refuse 1
  -- 1: a table of one layer has eight words and four numbers
  pub words_lack : open_verdict (open_call (pos 0) (pos 0) (pos 4) [] (lent_table (replicate 7 0) (replicate 4 nan) 1)) (room 256) ≡ refuse 1
  pub numbers_lack : open_verdict (open_call (pos 0) (pos 0) (pos 4) [] (lent_table (replicate 8 0) (replicate 3 nan) 1)) (room 256) ≡ refuse 1
  -- 2: row 2,046 and tiles up to 4,095 pass; row 2,047, from -1, to 4,096 and from above to don't
  pub ends_pass : opened (pos 2046) (pos 0) (pos 4095) [] 256 ≡ pass
  pub row_past : opened (pos 2047) (pos 0) (pos 4095) [] 256 ≡ refuse 2
  pub from_below : opened (pos 0) (negsuc 0) (pos 4) [] 256 ≡ refuse 2
  pub to_past : opened (pos 0) (pos 0) (pos 4096) [] 256 ≡ refuse 2
  pub from_past : opened (pos 0) (pos 4) (pos 3) [] 256 ≡ refuse 2
  -- 3: layers 6, 7 in one tile pass, 7, 6 don't; nor does a segment of row 1 in row 0
  pub ascending : opened (pos 0) (pos 0) (pos 4) (segment 6 (pos 0) ∷ segment 7 (pos 0) ∷ []) 256 ≡ pass
  pub descending : opened (pos 0) (pos 0) (pos 4) (segment 7 (pos 0) ∷ segment 6 (pos 0) ∷ []) 256 ≡ refuse 3
  pub other_row : opened (pos 0) (pos 0) (pos 4) (segment 6 (pos 1) ∷ []) 256 ≡ refuse 3
  -- 4: blend mode 15 passes, 16 doesn't; ids 4, 5 pass, 4, 4 don't
  pub mode_passes : tabled (draw 4 15 []) 1 ≡ pass
  pub mode_past : tabled (draw 4 16 []) 1 ≡ refuse 4
  pub ids_pass : tabled (draw 4 0 (draw 5 0 [])) 2 ≡ pass
  pub ids_equal : tabled (draw 4 0 (draw 4 0 [])) 2 ≡ refuse 4
  -- 3 before 4: a row that descends, with ids 4, 4
  pub row_first : tabled_with (segment 7 (pos 0) ∷ segment 6 (pos 0) ∷ []) (draw 4 0 (draw 4 0 [])) 2 ≡ refuse 3
  -- tile works: tiles 0 to 4, of which 2 is the next; two carries with the ids a and b are left
  pub next_passes : worked (pos 2) 3 4 3 ≡ pass
  -- 2: tile 3 after tile 1
  pub skips_one : worked (pos 3) 3 4 3 ≡ refuse 2
  -- 2: tile 3 is the last of 0 to 4, and none follows
  pub last_passes : ending 3 (pos 3) ≡ pass
  pub none_follows : ending 4 (pos 4) ≡ refuse 2
  -- 1: lists of 256 entries pass; 255 ids, 4,095 covers, or 511 flags, don't
  pub list_passes : lists 256 4096 512 ≡ false
  pub list_lacks : lists 255 4096 512 ≡ true
  pub covers_lack : lists 256 4095 512 ≡ true
  pub flags_lack : lists 256 4096 511 ≡ true
  -- 5: a queue of 256 carries passes, a count of 257 doesn't
  pub queue_full : is_queue 256 (tabulate 256 (λ i. i)) ≡ true
  pub queue_past : is_queue 257 (tabulate 257 (λ i. i)) ≡ false
  -- 5: ids 4, 4
  pub equal_ids : worked (pos 2) 4 4 3 ≡ refuse 5
  -- 6: tag 4
  pub tag_past : worked (pos 2) 3 4 4 ≡ refuse 6
  -- 3: the whole lent row is judged, not the tile's part alone: layers 7, 6 in tile 0 while tile 2 is worked
  pub whole_row : worked_in (segment 7 (pos 0) ∷ segment 6 (pos 0) ∷ []) (pos 2) 3 4 3 ≡ refuse 3
  -- lists
  -- 7: 256 layers pass, 257 don't
  pub layers_past : list_verdict (layers 257) (tabulate 257 (listed (pos 0))) ≡ refuse 7
  pub layers_pass : list_verdict (layers 256) (tabulate 256 (listed (pos 0))) ≡ pass
  -- 8: layer 9 is not in it
  pub missing : list_verdict table (listed (pos 0) 9 ∷ []) ≡ refuse 8
  -- 9: 120 and -8 are refused, 119 and -8 pass
  pub too_large : list_verdict table (listed (pos 120) 5 ∷ []) ≡ refuse 9
  pub large : list_verdict table (listed (pos 119) 5 ∷ []) ≡ pass
