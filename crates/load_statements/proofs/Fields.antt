-- The lines of a load: the bounds of their numbers, and how long they are.
-- Assumes nothing.
use Rattle.std.specs.Prelude.{◌/◌, ◌%◌, ◌≤◌, ◌<◌, ◌-ℤ◌}
use Rattle.laws.proofs.Prelude.{ℕ, suc, arith, ℤ, pos, negsuc, length, length-append, plus, minus, taken}
use Rattle.decimal.specs.Decimal.{decimal, decimalℤ}
use Rattle.decimal.proofs.Print.{length_at_most}
use Rattle.lines.specs.Text.{line_text}
use Rattle.job_text_statements.specs.Job.{head_values, layer_values, segment_values}
use Rattle.load_statements.specs.Draw.{draw_at}
use Rattle.load_statements.specs.declared.Asked.{Asked}
use Rattle.load_statements.specs.Load.{load_head, load_layer, slot_of, segment_from, load_segment}
use Rattle.load_statements.specs.Input.{AskedInRange}
use Rattle.load_statements.proofs.Slots.{slot_within}

-- the slot of a segment of a load is below 8 × 4,095
pub slot_small : (a : Asked) → AskedInRange a → (k : ℕ) → k < a.count → slot_of a.tiles a.count k < 32760
slot_small a h k l = omega (arith, slot_within a.tiles a.count k h.tiles.0 l, h.tiles)

-- a remainder by 33, less 16, is -16 to 16
pub cover_small : (n : ℕ) → (plus (pos (n % 33) -ℤ pos 16) ≤ 16) × (minus (pos (n % 33) -ℤ pos 16) ≤ 16)
cover_small n = let t = taken (pos (n % 33)) (pos 16) in (omega arith, omega arith)

-- a number of at most two digits has at most three bytes with its sign
three : (v : ℤ) → plus v < 100 → minus v < 100 → length (decimalℤ v) ≤ 3
three (pos n) p m = omega (arith, length_at_most 1 n p)
three (negsuc n) p m = omega (arith, length_at_most 1 (suc n) m)

-- ---- the bytes of a line

pub head_long : (tiles : ℕ) → tiles ≤ 4095 → length (line_text (head_values (load_head tiles))) ≤ 14
unfolding line_text
head_long tiles h =
    simp length-append (omega (arith, length_at_most 0 0 (omega arith), length_at_most 3 tiles (omega arith)))

pub layer_long : (id : ℕ) → id < 8 → length (line_text (layer_values (load_layer id))) ≤ 18
unfolding line_text load_layer
layer_long id h =
    simp length-append (omega (arith, length_at_most 0 id (omega arith), length_at_most 0 0 (omega arith), length_at_most 2 256 (omega arith)))

from_long : (s slot : ℕ) → slot < 32760 → length (line_text (segment_values (segment_from s slot))) ≤ 22
unfolding line_text segment_from
from_long s slot h =
    let c = cover_small (draw_at s 4) in
    let tile : length (decimal (slot / 8)) ≤ 4 = length_at_most 3 (slot / 8) (omega arith) in
    let layer : length (decimal (slot % 8)) ≤ 1 = length_at_most 0 (slot % 8) (omega arith) in
    let x : length (decimal (draw_at s 1 % 16)) ≤ 2 = length_at_most 1 (draw_at s 1 % 16) (omega arith) in
    let y : length (decimal (draw_at s 2 % 16)) ≤ 2 = length_at_most 1 (draw_at s 2 % 16) (omega arith) in
    let rows : length (decimal 1) ≤ 1 = length_at_most 0 1 (omega arith) in
    let mult : length (decimal (draw_at s 3 % 33)) ≤ 2 = length_at_most 1 (draw_at s 3 % 33) (omega arith) in
    let cover = three (pos (draw_at s 4 % 33) -ℤ pos 16) (omega (arith, c)) (omega (arith, c)) in
    simp length-append (omega (arith, tile, layer, x, y, rows, mult, cover))

pub segment_long : (a : Asked) → AskedInRange a → (k : ℕ) → k < a.count → length (line_text (segment_values (load_segment a k))) ≤ 22
segment_long a h k l = from_long _ _ (slot_small a h k l)
