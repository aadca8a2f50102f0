-- The row of a load is in order: a word for each segment, which ascend by their slots.
-- Assumes nothing.
use Rattle.std.specs.Prelude.{◌≡◌, ◌++◌, ◌+◌, ◌*◌, ◌/◌, ◌%◌, ◌^◌, ◌≤◌, ◌<◌, ◌-ℤ◌}
use Rattle.laws.proofs.Prelude.{refl, ap, ap₂, true, flatten, ℕ, zero, suc, arith, eq-eqb, eqb, ℤ, pos}
use Rattle.laws.proofs.Prelude.{length, get_or, plus, modℤ, tabulate, all, both, length_tabulate, get_d_tabulate}
use Rattle.pixel_segment.specs.Field.{cpu, tile_x_of, tile_y_of, layer_id_of}
use Rattle.pixel_segment.specs.Order.{order_key}
use Rattle.pixel_segment.specs.Pack.{word_of}
use Rattle.segment_rows.specs.Rows.{ascends, is_row}
use Rattle.segment_rows.proofs.Ascending.{from_intro}
use Rattle.job_lines.specs.declared.segment.SegmentLine.{SegmentLine}
use Rattle.job_statements.specs.Row.{segment_word, row_tile, row_words}
use Rattle.load_statements.specs.Draw.{draw_at}
use Rattle.load_statements.specs.declared.Asked.{Asked}
use Rattle.load_statements.specs.Load.{slot_of, segment_from, load_segment, load_of}
use Rattle.load_statements.specs.Input.{AskedInRange}
use Rattle.load_statements.specs.Opened.{load_row}
use Rattle.load_statements.proofs.Slots.{slots_ascend}
use Rattle.load_statements.proofs.Fields.{slot_small}
use Rattle.load_statements.proofs.Forming.{all_tabulated}

-- ---- a word of tile row 0: the fields that order compares

pub record Ordered (w tile layer : ℕ) : Type 0 where
  pub key : order_key cpu w ≡ (4097 + tile) * 2097152 + layer
  pub tile_y : tile_y_of cpu w ≡ 1
  pub tile_x : tile_x_of cpu w ≡ tile + 1
  pub layer_id : layer_id_of cpu w ≡ layer
  pub small : w < 2 ^ 64

-- the word as one number of its fields
packed : (layer tile x y m c : ℕ) → tile ≤ 4094 → layer < 2097152
    → Ordered (((((4097 + tile) * 2097152 + layer) * 16 + x % 16) * 16 + y % 16) * 4096 + m % 64 * 64 + c % 64) tile layer
packed layer tile x y m c h l = record { key = omega arith; tile_y = omega arith; tile_x = omega arith; layer_id = omega arith; small = omega arith }

word_is : (layer tile x y m : ℕ) (c : ℤ) → tile ≤ 4094 → layer < 2097152
    → word_of cpu layer (pos tile) (pos 0) x y m c ≡ ((((4097 + tile) * 2097152 + layer) * 16 + x % 16) * 16 + y % 16) * 4096 + m % 64 * 64 + modℤ 64 c % 64
word_is layer tile x y m c h l = omega arith

from_ordered : (s slot : ℕ) → slot < 32760 → Ordered (segment_word (pos 0) (segment_from s slot) 0) (slot / 8) (slot % 8)
unfolding segment_word segment_from
from_ordered s slot h =
    let x = draw_at s 1 % 16 in
    let y = draw_at s 2 % 16 + 0 in
    let m = draw_at s 3 % 33 in
    let c = pos (draw_at s 4 % 33) -ℤ pos 16 in
    rw (word_is (slot % 8) (slot / 8) x y m c (omega arith) (omega arith)) (packed (slot % 8) (slot / 8) x y m (modℤ 64 c) (omega arith) (omega arith))

-- ---- the row

-- a word for each line of one row
words_are : (n : ℕ) (f : ℕ → SegmentLine) → ((i : ℕ) → (f i).rows ≡ pos 1) → row_words (pos 0) (tabulate n f) ≡ tabulate n (λ i. segment_word (pos 0) (f i) 0)
unfolding row_words row_tile flatten
words_are zero f h = refl
words_are (suc n) f h =
    ap₂ ◌++◌ (ap (λ (z : ℤ). tabulate (plus z) (segment_word (pos 0) (f 0))) (h 0)) (words_are n (λ i. f (suc i)) (λ i. h (suc i)))

module _ (a : Asked) (h : AskedInRange a) where
  pub word_of_segment : ℕ → ℕ
  word_of_segment k = segment_word (pos 0) (load_segment a k) 0

  pub row_is : load_row a ≡ tabulate a.count word_of_segment
  unfolding word_of_segment load_of segment_from
  row_is = words_are a.count (load_segment a) (λ i. refl)

  pub word_ordered : (k : ℕ) → k < a.count → Ordered (word_of_segment k) (slot_of a.tiles a.count k / 8) (slot_of a.tiles a.count k % 8)
  unfolding word_of_segment
  word_ordered k l = from_ordered _ _ (slot_small a h k l)

  pub ascending : is_row cpu 1 (load_row a) ≡ true
  ascending =
      let ws = tabulate a.count word_of_segment in
      let long : length ws ≡ a.count = length_tabulate a.count word_of_segment in
      let at : (i : ℕ) → i < a.count → get_or ws i 0 ≡ word_of_segment i = get_d_tabulate a.count word_of_segment 0 in
      let up : (i j : ℕ) → i ≤ j → j < length ws → order_key cpu (get_or ws i 0) ≤ order_key cpu (get_or ws j 0) =
      λ i j p q.
      rw (at i (omega arith), at j (omega arith), (word_ordered i (omega arith)).key, (word_ordered j (omega arith)).key)
      (omega (arith, slots_ascend a.tiles a.count i j h.count.0 p)) in
      rw row_is
      (both (ascends (order_key cpu) ws) (all (λ w. eqb (tile_y_of cpu w) 1) ws)
      (from_intro (order_key cpu) 0 ws (λ i p. omega arith) up)
      (all_tabulated (λ w. eqb (tile_y_of cpu w) 1) a.count word_of_segment (λ i p. eq-eqb (tile_y_of cpu (word_of_segment i)) 1 (word_ordered i p).tile_y)))
