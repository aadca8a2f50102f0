-- The words of a line: packing gives each of them, and each reads back as the numbers of the text. Assumes nothing.
use Rattle.std.specs.Prelude.{◌≡◌, ◌&&◌, ◌+◌, ◌<◌, ◌≤◌, ◌+ℤ◌}
use Rattle.laws.proofs.Prelude.{refl, ◌∙◌, Bool, true, false, cond, ℕ, arith, ℤ, pos, leb, length, get_or, refused}
use Rattle.laws.proofs.Prelude.{given, plus, minus, all, left, right, all_at, added}
use Rattle.pixel_segment.specs.Field.{cpu, width_of}
use Rattle.pixel_segment.specs.Pack.{lowest_tile, is_packable, pack_of, ReadsBack}
use Rattle.pixel_segment.proofs.Ranges.{cpu_layout, in_range_lem, packable, tile, is_tile}
use Rattle.pixel_segment.proofs.ReadBack.{reads_back}
use Rattle.job_lines.specs.Rules.{layer_rule, segment_rule, segment_count}
use Rattle.job_lines.proofs.Ranges.{in_tile}
use Rattle.job_lines.specs.declared.segment.SegmentLine.{SegmentLine}
use Rattle.job_text_statements.specs.Job.{Job, is_allowed, WellFormed}
use Rattle.job_statements.specs.declared.row.Fields.{Fields}
use Rattle.job_statements.specs.Row.{segment_word, is_tile_y, row_tile}
use Rattle.job_statements.specs.Entries.{fields_of, packed, is_packable_at}

-- ---- fields that packing takes

module _ (f : Fields) (ty : ℤ) (i : ℕ) (p : is_packable_at f ty i ≡ true) where
  -- the repeat stays within the tile
  pub down_in_tile : f.y + i < 16
  down_in_tile = (in_range_lem cpu cpu_layout (pos f.layer) f.tile_x ty (pos f.x) (pos (f.y + i)) (pos f.mult) f.cover p).local_y.1

  packed_is : pack_of cpu (pos f.layer) f.tile_x ty (pos f.x) (pos (f.y + i)) (pos f.mult) f.cover ≡ given (packed f ty i)
  unfolding packed
  packed_is = rw p refl

  pub segment_is : {w : ℕ} → given w ≡ pack_of cpu (pos f.layer) f.tile_x ty (pos f.x) (pos (f.y + i)) (pos f.mult) f.cover → w ≡ packed f ty i
  segment_is e = let g = e ∙ packed_is in cc

  pub never_refused : {n : ℕ} {P : Type 0} → refused n ≡ pack_of cpu (pos f.layer) f.tile_x ty (pos f.x) (pos (f.y + i)) (pos f.mult) f.cover → P
  never_refused e = let g = e ∙ packed_is in let z : ◌≡◌ {A = ℕ} 0 1 = cc in absurd (omega arith)

-- a line's word is that of its fields
pub word_is : (t : ℤ) (s : SegmentLine) (i : ℕ) → packed (fields_of s) t i ≡ segment_word t s i
unfolding packed segment_word
word_is t s i = refl

-- ---- the row number

all_true : (a : Bool) → (a && true && true && true && true && true && true) ≡ a
all_true true = refl
all_true false = refl

-- packing 0 in every other field judges the row number alone
pub row_taken : (r : ℤ) → is_packable cpu (pos 0) (pos 0) r (pos 0) (pos 0) (pos 0) (pos 0) ≡ is_tile_y r
unfolding is_packable
row_taken r = all_true (is_tile_y r)

pub row_kept : (r : ℤ) → is_tile_y r ≡ true → row_tile r ≡ r
unfolding row_tile
row_kept r e = rw e

pub row_dropped : (r : ℤ) → is_tile_y r ≡ false → row_tile r ≡ lowest_tile
unfolding row_tile
row_dropped r e = rw e

-- packing takes the tile y of every row's words
pub row_tile_lem : (r : ℤ) → is_tile_y (row_tile r) ≡ true
unfolding row_tile
row_tile_lem r = by (is_tile_y r) refl
  where
    by : (t : Bool) → is_tile_y r ≡ t → is_tile_y (cond t r lowest_tile) ≡ true
    by true e = e
    by false e = refl

-- ---- the words of a line that keeps the rules

module _ (s : SegmentLine) (ok : segment_rule s ≡ true) (ty : ℤ) (t : is_tile_y ty ≡ true) (i : ℕ) (h : i < plus s.rows) where
  -- packing takes the fields
  pub packs_line : is_packable_at (fields_of s) ty i ≡ true
  packs_line =
      let l = in_tile s ok in
      packable cpu cpu_layout (pos (plus s.layer)) s.tile_x ty (pos (plus s.x)) (pos (plus s.y + i)) (pos (plus s.mult)) s.cover
      (record {
        layer_id = omega (arith, l.layer);
        tile_x = omega (arith, l.tile_x, added s.tile_x (pos 1));
        tile_y = tile (width_of cpu 0) ty t;
        local_x = omega (arith, l.x);
        local_y = omega (arith, l.rows);
        multiplier = omega (arith, l.mult);
        cover = omega (arith, l.cover);
      })

  -- and the word reads back as the numbers of the text, i pixel rows down
  pub read_back : ReadsBack cpu (segment_word ty s i) s.layer s.tile_x ty s.x (s.y +ℤ pos i) s.mult s.cover
  unfolding segment_word
  read_back =
      let l = in_tile s ok in
      let down : plus (s.y +ℤ pos i) ≡ plus s.y + i = omega (arith, l.y, added s.y (pos i)) in
      rw down at
      (reads_back cpu cpu_layout s.layer s.tile_x ty s.x (s.y +ℤ pos i) s.mult s.cover
      (record {
        layer_id = omega (arith, l.layer);
        tile_x = omega (arith, l.tile_x, added s.tile_x (pos 1));
        tile_y = tile (width_of cpu 0) ty t;
        local_x = omega (arith, l.x);
        local_y = omega (arith, l.rows, l.y, added s.y (pos i));
        multiplier = omega (arith, l.mult);
        cover = omega (arith, l.cover);
      }))

-- every word of an accepted text reads back as the text's numbers, where the row is 0 to 2,046: of each line, each repeat
pub text_reads_back : (j : Job) → WellFormed j → minus j.head.row ≡ 0 → plus j.head.row ≤ 2046 → (d : SegmentLine) (k i : ℕ) → k < length j.segments → i < plus (get_or j.segments k d).rows
    → ReadsBack cpu (segment_word (row_tile j.head.row) (get_or j.segments k d) i) (get_or j.segments k d).layer (get_or j.segments k d).tile_x j.head.row (get_or j.segments k d).x ((get_or j.segments k d).y +ℤ pos i) (get_or j.segments k d).mult (get_or j.segments k d).cover
unfolding is_allowed
text_reads_back j formed low high d k i inside h =
    let r = j.head.row in
    let s = get_or j.segments k d in
    let a = all layer_rule j.layers in
    let b = all segment_rule j.segments in
    let rule = all_at segment_rule j.segments (right a b (left (a && b) (leb (segment_count j.segments) 2048) formed.rules)) k d inside in
    let taken : is_tile_y r ≡ true = is_tile (width_of cpu 0) r (omega (arith, added r (pos 1))) in
    rw (row_kept r taken) (read_back s rule r taken i h)
