-- The keep rule for tiles is what the theorem over frames asks for. Assumes nothing.
use Rattle.std.specs.Prelude.{◌≡◌, ◌&&◌, ◌||◌, ◌∷◌, ◌+◌, ◌-◌, ◌*◌, ◌/◌, ◌%◌, ◌≤◌, ◌<◌}
use Rattle.laws.proofs.Prelude.{refl, sym, ap, ◌∙◌, Bool, true, false, cond, not, false≢true, List, [], ℕ, suc}
use Rattle.laws.proofs.Prelude.{arith, eqb-true, ne_eqb, lt-ltb, ltb-false, bit_and, eqb, ltb, length, get_or}
use Rattle.laws.proofs.Prelude.{take, drop, get_or-take, get_or-drop, every, both, left, right, get_d_tabulate}
use Rattle.refusals.specs.Refusal.{Judgement, pass, unless}
use Rattle.refusals.proofs.Judging.{passed}
use Rattle.pixel_segment.specs.Field.{cpu}
use Rattle.segment_rows.specs.Rows.{is_row}
use Rattle.cached_tile.specs.declared.CachedTile.{CachedTile}
use Rattle.row_statements.specs.Lent.{is_lent_short, is_lent_table}
use Rattle.row_statements.specs.TileWork.{list_verdict}
use Rattle.row_statements.specs.Due.{OpenRow, table_on, layers_on}
use Rattle.kept_frames.specs.Alike.{may_keep_count}
use Rattle.kept_rows.specs.Along.{items_on}
use Rattle.kept_rows.specs.History.{open_on, kept_if}
use Rattle.kept_rows.specs.Frames.{is_within}
use Rattle.kept_tiles.specs.Tiles.{KeepCall, is_pass, is_opened, are_listed, may_keep, are_tagged, tiles_verdict, ruled_bytes, bytes_by, tile_at, TilesRuled}
use Rattle.kept_tiles.specs.Tiles.{RuleStays, KeptOpened}

-- the call has the bytes of its tiles
long : (c : KeepCall) (bytes : List ℕ) → tiles_verdict c bytes ≡ pass → 8 * c.tiles ≤ length bytes
unfolding tiles_verdict
long c bytes e =
    let l = c.last.row in
    let o = c.today in
    let sixth = unless (not (are_tagged c.tiles bytes)) 6 pass in
    let fourth = unless (not (is_lent_table l.table && is_lent_table o.table)) 4 sixth in
    let third = unless (not (is_row cpu (suc o.tile_y) l.row && is_row cpu (suc o.tile_y) o.row)) 3 fourth in
    let second = unless (ltb 2046 o.tile_y || ltb 4095 o.to || ltb o.to (o.from + c.tiles)) 2 third in
    let one = passed (is_lent_short l.table || is_lent_short o.table || ltb (length bytes / 8) c.tiles) 1 second e in
    let short = ltb-false (length bytes / 8) c.tiles (last (is_lent_short l.table) (is_lent_short o.table) (ltb (length bytes / 8) c.tiles) one.0) in
    omega (arith, short)
  where
    last : (a b d : Bool) → (a || b || d) ≡ false → d ≡ false
    last true b d e = absurd (let z : ◌≡◌ {A = Bool} true false = e in false≢true (sym z))
    last false true d e = absurd (let z : ◌≡◌ {A = Bool} true false = e in false≢true (sym z))
    last false false d e = e

module _ (c : KeepCall) (bytes : List ℕ) (i : ℕ) (n : 8 * c.tiles ≤ length bytes) (h : i < c.tiles) where
  abbrev may : Bool
  may = may_keep c.last c.today c.clear i

  -- byte j of tile i
  byte : (j : ℕ) (l : List ℕ) → j < 8 → get_or (take 8 (drop (i * 8) l)) j 0 ≡ get_or l (i * 8 + j) 0
  byte j l p = get_or-take 8 (drop (i * 8) l) j 0 p ∙ get_or-drop (i * 8) l j 0

  tag_is : get_or (ruled_bytes c bytes) (i * 8 + 0) 0 ≡ cond (not may) (bit_and (get_or bytes (i * 8 + 0) 0) 1) (get_or bytes (i * 8 + 0) 0)
  unfolding ruled_bytes
  tag_is =
      let zeroed : (i * 8 + 0) % 8 ≡ 0 = omega arith in
      let place : (i * 8 + 0) / 8 ≡ i = omega arith in
      get_d_tabulate (length bytes) _ 0 (i * 8 + 0) (omega (arith, n, h)) ∙ rw (zeroed, place, lt-ltb i c.tiles h) refl

  rest_is : (j : ℕ) → 0 < j → j < 8 → get_or (ruled_bytes c bytes) (i * 8 + j) 0 ≡ get_or bytes (i * 8 + j) 0
  unfolding ruled_bytes
  rest_is j q p =
      get_d_tabulate (length bytes) _ 0 (i * 8 + j) (omega (arith, n, h, p)) ∙ rw (ne_eqb ((i * 8 + j) % 8) 0 (λ e. omega (arith, e, q, p))) refl

  each : (j : ℕ) → 0 < j → j < 8 → get_or (take 8 (drop (i * 8) (ruled_bytes c bytes))) j 0 ≡ get_or (take 8 (drop (i * 8) bytes)) j 0
  each j q p = byte j (ruled_bytes c bytes) p ∙ rest_is j q p ∙ sym (byte j bytes p)

  abbrev tag_in : List ℕ → ℕ
  tag_in l = get_or (take 8 (drop (i * 8) l)) 0 0

  tag : tag_in (ruled_bytes c bytes) ≡ cond (not may) (bit_and (tag_in bytes) 1) (tag_in bytes)
  tag = byte 0 (ruled_bytes c bytes) (omega arith) ∙ tag_is ∙ ap (λ (b : ℕ). cond (not may) (bit_and b 1) b) (sym (byte 0 bytes (omega arith)))

  ruled_tile : tile_at (ruled_bytes c bytes) i ≡ kept_if may (tile_at bytes i)
  ruled_tile =
      let b1 = each 1 (omega arith) (omega arith) in
      let b2 = each 2 (omega arith) (omega arith) in
      let b3 = each 3 (omega arith) (omega arith) in
      let b4 = each 4 (omega arith) (omega arith) in
      let b5 = each 5 (omega arith) (omega arith) in
      let b6 = each 6 (omega arith) (omega arith) in
      let b7 = each 7 (omega arith) (omega arith) in
      (λ z. record { tags = tag z; layer_count = b1 z ∷ b2 z ∷ b3 z ∷ []; solid_color = b4 z ∷ b5 z ∷ b6 z ∷ b7 z ∷ [] })
      ∙ by may (tile_at bytes i)
    where
      by : (t : Bool) (k : CachedTile)
          → record { tags = cond (not t) (bit_and k.tags 1) k.tags; layer_count = k.layer_count; solid_color = k.solid_color } ≡ kept_if t k
      by true k = refl
      by false k = refl

pub tiles_ruled : TilesRuled
tiles_ruled c bytes i e h = ap (λ (v : Judgement). tile_at (bytes_by v c bytes) i) e ∙ ruled_tile c bytes i (long c bytes e) h

pub rule_stays : RuleStays
unfolding may_keep
rule_stays l a e =
    let n = a.done.place in
    let clear = a.done.clear in
    let from = eqb l.row.from (open_on a).from in
    let here = from && is_within l ((open_on a).from + n) in
    let lists = are_listed l.row n && are_listed (open_on a) n in
    let alike = may_keep_count l.clear clear (items_on l.row n) (items_on (open_on a) n) in
    let stood = left here (lists && alike) e in
    let first = eqb-true l.row.from (open_on a).from (left from (is_within l ((open_on a).from + n)) stood) in
    let place : ((open_on a).from + n) - l.row.from ≡ n = omega (arith, first) in
    both here (may_keep_count l.clear clear (items_on l.row (((open_on a).from + n) - l.row.from)) (items_on (open_on a) n)) stood
    (ap (λ (m : ℕ). may_keep_count l.clear clear (items_on l.row m) (items_on (open_on a) n)) place ∙ right lists alike (right here (lists && alike) e))

pub kept_opened : KeptOpened
unfolding may_keep
kept_opened l o clear i e =
    let here = eqb l.row.from o.from && is_within l (o.from + i) in
    let alike = may_keep_count l.clear clear (items_on l.row i) (items_on o i) in
    let lists = left (are_listed l.row i && are_listed o i) alike (right here ((are_listed l.row i && are_listed o i) && alike) e) in (
      left (is_opened l.row) (passing l.row) (left (are_listed l.row i) (are_listed o i) lists),
      left (is_opened o) (passing o)
          (right (are_listed l.row i) (are_listed o i) lists),
    )
  where
    passing : OpenRow → Bool
    passing p = every (suc i) (λ n. is_pass (list_verdict (table_on p) (layers_on p n)))
