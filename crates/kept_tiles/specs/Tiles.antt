-- The keep rule for the tiles of a row, as a public operation (`keep_tiles`), to be called before the row's tiles are worked: lent are the row as it was last
-- worked, with its clear colour; today's, with its clear colour and the flags that `mark_unchanged` left; and the cached bytes of tiles, the first of them
-- the row's first. Judged by 1 to 4 and 6, the lowest that applies; a refusal leaves every byte as it was. Else the tag byte of a tile loses the count's bit
-- where its count may not stay, and no other byte is written. Where either row would be turned down at its opening, or its list of the tile or of one before
-- it, the count may not stay.
use Rattle.std.specs.Prelude.{◌≡◌, ◌&&◌, ◌||◌, ◌+◌, ◌*◌, ◌/◌, ◌%◌, ◌<◌}
use Rattle.laws.specs.Prelude.{Bool, true, false, cond, not, List, ℕ, suc, bit_and, eqb, leb, ltb, pos}
use Rattle.laws.specs.Prelude.{length, get_or, take, drop, Answer, refused, given, tabulate, every}
use Rattle.refusals.specs.Refusal.{Judgement, pass, refuse, unless}
use Rattle.pixel_segment.specs.Field.{cpu}
use Rattle.segment_rows.specs.Rows.{is_row}
use Rattle.segment_rows.specs.Search.{left_part}
use Rattle.styling.specs.declared.Color.{Color}
use Rattle.cached_tile.specs.declared.CachedTile.{CachedTile}
use Rattle.queue_statements.specs.Opening.{open_answer}
use Rattle.row_statements.specs.Lent.{is_lent_short, is_lent_table}
use Rattle.row_statements.specs.TileWork.{list_verdict}
use Rattle.row_statements.specs.Due.{OpenRow, table_on, layers_on}
use Rattle.ffi_numbers.specs.Cached.{tile_from}
use Rattle.kept_frames.specs.Alike.{may_keep_count}
use Rattle.kept_rows.specs.Along.{items_on}
use Rattle.kept_rows.specs.History.{AcceptedWork, open_on, tile_number, kept_if}
use Rattle.kept_rows.specs.Frames.{LastRow, is_within, may_stay}

pub record KeepCall : Type 0 where
  pub last : LastRow
  pub today : OpenRow
  pub clear : Color
  pub tiles : ℕ

-- ---- the rule of tile i

abbrev pub is_pass : Judgement → Bool
is_pass pass = true
is_pass (refuse n) = false

-- 7 and 9 do not apply to the opening
abbrev pub is_count : Answer ℕ → Bool
is_count (refused number) = false
is_count (given n) = true

abbrev pub is_opened : OpenRow → Bool
is_opened o = is_count (open_answer (left_part (pos o.from) o.row))

-- nor 7, 8 and 9 to any list up to the tile's
abbrev pub are_listed : OpenRow → ℕ → Bool
are_listed o i = is_opened o && every (suc i) (λ n. is_pass (list_verdict (table_on o) (layers_on o n)))

unfoldable pub may_keep : LastRow → OpenRow → Color → ℕ → Bool
may_keep l o clear i =
    (eqb l.row.from o.from && is_within l (o.from + i))
    && ((are_listed l.row i && are_listed o i) && may_keep_count l.clear clear (items_on l.row i) (items_on o i))

-- ---- the verdict

-- 6: a tag above 3
abbrev pub are_tagged : ℕ → List ℕ → Bool
are_tagged tiles bytes = every tiles (λ i. leb (get_or bytes (8 * i) 0) 3)

unfoldable pub tiles_verdict : KeepCall → List ℕ → Judgement
tiles_verdict c bytes =
    let l = c.last.row in
    let o = c.today in
    unless (is_lent_short l.table || is_lent_short o.table || ltb (length bytes / 8) c.tiles) 1
    (unless (ltb 2046 o.tile_y || ltb 4095 o.to || ltb o.to (o.from + c.tiles)) 2
    (unless (not (is_row cpu (suc o.tile_y) l.row && is_row cpu (suc o.tile_y) o.row)) 3
    (unless (not (is_lent_table l.table && is_lent_table o.table)) 4
    (unless (not (are_tagged c.tiles bytes)) 6
    pass))))

-- ---- the bytes as they are left

unfoldable pub ruled_bytes : KeepCall → List ℕ → List ℕ
ruled_bytes c bytes =
    tabulate (length bytes)
    (λ k.
    cond ((eqb (k % 8) 0 && ltb (k / 8) c.tiles) && not (may_keep c.last c.today c.clear (k / 8)))
    (bit_and (get_or bytes k 0) 1) (get_or bytes k 0))

abbrev pub bytes_by : Judgement → KeepCall → List ℕ → List ℕ
bytes_by (refuse number) c bytes = bytes
bytes_by pass c bytes = ruled_bytes c bytes

abbrev pub keep_tiles_of : KeepCall → List ℕ → List ℕ
keep_tiles_of c bytes = bytes_by (tiles_verdict c bytes) c bytes

-- ---- the laws

-- the i-th cached tile of the bytes
abbrev pub tile_at : List ℕ → ℕ → CachedTile
tile_at bytes i = tile_from (take 8 (drop (i * 8) bytes))

-- an accepted call leaves of every tile what the theorem over frames asks for (`kept_rows/specs/Frames`, `RowFrame.works`)
abbrev pub TilesRuled : Type 0
TilesRuled =
    (c : KeepCall) (bytes : List ℕ) (i : ℕ) → tiles_verdict c bytes ≡ pass → i < c.tiles →
    tile_at (keep_tiles_of c bytes) i ≡ kept_if (may_keep c.last c.today c.clear i) (tile_at bytes i)

abbrev pub RuleStays : Type 0
RuleStays = (l : LastRow) (a : AcceptedWork) → may_keep l (open_on a) a.done.clear a.done.place ≡ true → may_stay l (tile_number a) a ≡ true

-- and a row whose opening would be turned down by 7 or 9 keeps no count
abbrev pub KeptOpened : Type 0
KeptOpened =
    (l : LastRow) (o : OpenRow) (clear : Color) (i : ℕ) → may_keep l o clear i ≡ true →
    (is_count (open_answer (left_part (pos l.row.from) l.row.row)) ≡ true) × (is_count (open_answer (left_part (pos o.from) o.row)) ≡ true)
