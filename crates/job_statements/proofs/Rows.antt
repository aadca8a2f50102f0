-- What holds while a line's words are written, and while the lines' words are.
-- Assumes nothing.
use Rattle.std.specs.Prelude.{◌≡◌, ◌∷◌, ◌++◌, ◌+◌, ◌<◌, ◌≤◌}
use Rattle.laws.proofs.Prelude.{refl, sym, ap, ap₂, subst, ◌∙◌, true, List, [], map, flatten, ℕ, zero-add, add-one}
use Rattle.laws.proofs.Prelude.{arith, ℤ, length, drop, set, length-append, drop_of_length-le, sets, sets-eq, length-sets, drop-cons, plus, tabulate}
use Rattle.laws.proofs.Prelude.{over, length_tabulate, get_d_tabulate}
use Rattle.decimal.proofs.Print.{sets_append}
use Rattle.job_lines.specs.declared.segment.SegmentLine.{SegmentLine}
use Rattle.job_lines.specs.Rules.{segment_rule, segment_count}
use Rattle.job_text_statements.specs.Numbers.{segment_at, segments_in}
use Rattle.job_text_statements.proofs.Counting.{count_step}
use Rattle.job_statements.specs.declared.row.Fields.{Fields}
use Rattle.job_statements.specs.Row.{segment_word, segment_words, is_tile_y, row_tile, row_words}
use Rattle.job_statements.specs.Entries.{fields_of, packed, is_packable_at, SegmentWritten}
use Rattle.job_statements.proofs.Packing.{word_is, packs_line}
use Rattle.job_statements.proofs.Strides.{tabulate_ext, tabulate_snoc}

-- ---- one line: the first i words of its fields are written

pub record Repeating (ty : ℤ) (f : Fields) (old : List ℕ) (at i : ℕ) (new : List ℕ) : Type 0 where
  pub within : i ≤ f.rows
  pub room : at + f.rows ≤ length old
  pub so_far : new ≡ sets old at (tabulate i (packed f ty))

module _ {ty : ℤ} {f : Fields} {old : List ℕ} {at : ℕ} where
  module _ {i : ℕ} {new : List ℕ} (v : Repeating ty f old at i new) where
    pub repeat : {w : ℕ} → i < f.rows → w ≡ packed f ty i → Repeating ty f old at (i + 1) (set new (at + i) w)
    repeat {w} h e =
        let ws = tabulate i (packed f ty) in
        let count : length ws ≡ i = length_tabulate i (packed f ty) in
        record {
          within = omega arith;
          room = v.room;
          so_far =
              ap₂ (λ (l : List ℕ) (x : ℕ). set l (at + i) x) v.so_far e
              ∙ ap (λ (n : ℕ). set (sets old at ws) (at + n) (packed f ty i)) (sym count)
              ∙ sym (sets_append ws (packed f ty i ∷ []) old at)
              ∙ ap (sets old at) (sym (tabulate_snoc i (packed f ty)));
        }

    pub last : (s : SegmentLine) → f ≡ fields_of s → f.rows ≤ i → SegmentWritten ty s old at (at + i) new
    last s e h =
        let all : i ≡ f.rows = omega (arith, v.within) in
        let count : i ≡ plus s.rows = all ∙ ap (λ (g : Fields). g.rows) e in
        record {
          answer = ap (λ (n : ℕ). at + n) count;
          written =
              v.so_far
              ∙ ap₂ (λ (n : ℕ) (g : Fields). sets old at (tabulate n (packed g ty))) count e
              ∙ ap (sets old at) (tabulate_ext (plus s.rows) (packed (fields_of s) ty) (segment_word ty s) (λ k l. word_is ty s k));
        }

-- the fields of a line that keeps the rules stay within the tile
module _ {f : Fields} (s : SegmentLine) (e : f ≡ fields_of s) (ok : segment_rule s ≡ true) where
  rows_are : f.rows ≡ plus s.rows
  rows_are = ap (λ (g : Fields). g.rows) e

  pub packs_at : (ty : ℤ) (i : ℕ) → is_tile_y ty ≡ true → i < f.rows → is_packable_at f ty i ≡ true
  packs_at ty i h l = subst (λ (g : Fields). is_packable_at g ty i ≡ true) (sym e) (packs_line s ok ty h i (omega (arith, rows_are)))

-- ---- the lines

pub length_row : (r : ℤ) (ss : List SegmentLine) → length (row_words r ss) ≡ segment_count ss
unfolding row_words segment_count flatten
length_row r [] = refl
length_row r (s ∷ ss) =
    length-append (segment_words (row_tile r) s) (flatten (map (segment_words (row_tile r)) ss)) ∙ ap₂ ◌+◌ (length_tabulate (plus s.rows) (segment_word (row_tile r) s)) (length_row r ss)

-- with the words of the lines from i on, the row is as all lines leave it
pub record Writing (r : ℤ) (ns : List ℤ) (m : ℕ) (old : List ℕ) (at i : ℕ) (new : List ℕ) : Type 0 where
  pub within : i ≤ m
  pub room : segment_count (segments_in ns m) ≤ length old
  pub long : length new ≡ length old
  pub place : at + segment_count (drop i (segments_in ns m)) ≡ segment_count (segments_in ns m)
  pub rest : sets new at (row_words r (drop i (segments_in ns m))) ≡ sets old 0 (row_words r (segments_in ns m))

module _ {r : ℤ} {ns : List ℤ} {m : ℕ} {old : List ℕ} where
  module _ {at i : ℕ} {new : List ℕ} (v : Writing r ns m old at i new) where
    pub end : m ≤ i → new ≡ over (row_words r (segments_in ns m)) old
    unfolding row_words over flatten
    end h =
        let none = drop_of_length-le (segments_in ns m) {i = i} (omega (arith, length_tabulate m (segment_at ns))) in
        sym (ap (λ (ss : List SegmentLine). sets new at (row_words r ss)) none)
        ∙ v.rest
        ∙ sets-eq (row_words r (segments_in ns m)) old 0 (omega (arith, length_row r (segments_in ns m), v.room))
        ∙ ap (λ (n : ℕ). row_words r (segments_in ns m) ++ drop n old) (zero-add (length (row_words r (segments_in ns m))))

    module _ (h : i < m) where
      line_count : segment_count (drop i (segments_in ns m)) ≡ plus (segment_at ns i).rows + segment_count (drop (i + 1) (segments_in ns m))
      line_count =
          rw (get_d_tabulate m (segment_at ns) (segment_at ns 0) i h) at
          (count_step (segments_in ns m) i (segment_at ns 0) (omega (arith, length_tabulate m (segment_at ns))))

      pub line_room : at + plus (segment_at ns i).rows ≤ length new
      line_room = omega (arith, line_count, v.place, v.room, v.long)

      line_words : row_words r (drop i (segments_in ns m)) ≡ segment_words (row_tile r) (segment_at ns i) ++ row_words r (drop (i + 1) (segments_in ns m))
      unfolding row_words flatten
      line_words =
          ap (row_words r) (drop-cons (segments_in ns m) i (segment_at ns 0) (omega (arith, length_tabulate m (segment_at ns))))
          ∙ rw (get_d_tabulate m (segment_at ns) (segment_at ns 0) i h, add-one)

      -- the words at the row's tile y
      pub next : {ty : ℤ} {at' : ℕ} {new' : List ℕ} → ty ≡ row_tile r → SegmentWritten ty (segment_at ns i) new at at' new'
          → Writing r ns m old at' (i + 1) new'
      next {ty} {at'} {new'} e w =
          let s = segment_at ns i in
          let ws = segment_words (row_tile r) s in
          let same : segment_words ty s ≡ ws = ap (λ (t : ℤ). segment_words t s) e in
          let now : new' ≡ sets new at ws = w.written ∙ ap (sets new at) same in
          let count : length ws ≡ plus s.rows = length_tabulate (plus s.rows) (segment_word (row_tile r) s) in
          let after = row_words r (drop (i + 1) (segments_in ns m)) in
          record {
            within = omega arith;
            room = v.room;
            long = ap length now ∙ length-sets new at ws ∙ v.long;
            place = omega (arith, w.answer, line_count, v.place);
            rest =
                ap₂ (λ (l : List ℕ) (n : ℕ). sets l n after) now (w.answer ∙ ap (λ (n : ℕ). at + n) (sym count))
                ∙ sym (sets_append ws after new at)
                ∙ sym (ap (sets new at) line_words)
                ∙ v.rest;
          }
