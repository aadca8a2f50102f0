-- Packing: seven numbers in a word, each in a field that holds it; where one lies outside its field's range, packing is refused by 11.
-- Stands for W-203: tile numbers are taken from -1 and stored plus 1, layer ids, local places and multipliers from 0, covers are signed, and
-- each field reads back as the number that was packed. Every definition takes the table of widths as a parameter.
use Rattle.pixel_segment.specs.declared.PixelSegment.{PixelSegment}
use Rattle.refusals.specs.Refusal.{number_of}
use Rattle.refusals.specs.declared.Refusal.{Refusal}
use Rattle.std.specs.Prelude.{◌≡◌, ◌&&◌, ◌∷◌, ◌+◌, ◌-◌, ◌*◌, ◌/◌, ◌%◌, ◌^◌, ◌≤◌, ◌<◌, ◌+ℤ◌, Result, Ok, Err}
use Rattle.laws.specs.Prelude.{Bool, cond, List, [], ℕ, ℤ, pos, negsuc, neg_ℤ, le_z, lt_z}
use Rattle.laws.specs.Prelude.{plus, minus, modℤ, Answer, refused, given}
use Rattle.pixel_segment.specs.Field.{width_of, tile_of, tile_x_of, tile_y_of, layer_id_of, local_x_of, local_y_of, multiplier_of, cover_of}

-- ---- the word

-- numbers put together, highest first, each reduced to its width, below what the word holds
abbrev pub join : List ℕ → List ℕ → ℕ → ℕ
join [] xs word = word
join (k ∷ ks) [] word = word
join (k ∷ ks) (x ∷ xs) word = join ks xs (word * 2 ^ k + x % 2 ^ k)

-- a tile number as it is stored: plus 1, and 0 for what is then negative
abbrev pub stored_of : ℤ → ℕ
stored_of t = plus (t +ℤ pos 1)

-- the word of seven fields, in the order of the Rust's arguments
abbrev pub word_of : List ℕ → ℕ → ℤ → ℤ → ℕ → ℕ → ℕ → ℤ → ℕ
word_of ws layer tx ty x y m c = join ws (stored_of ty ∷ stored_of tx ∷ layer ∷ x ∷ y ∷ m ∷ modℤ (2 ^ width_of ws 6) c ∷ []) 0

-- the word w with the cover c in place of its own, modulo what the field holds; the other fields are w's
unfoldable pub with_cover : List ℕ → ℕ → ℤ → ℕ
with_cover ws w c = w / 2 ^ width_of ws 6 * 2 ^ width_of ws 6 + modℤ (2 ^ width_of ws 6) c

-- ---- what packing accepts

-- a field of k bits holds the 2^k numbers from `low` on
abbrev pub is_held : ℤ → ℕ → ℤ → Bool
is_held low k v = le_z low v && lt_z v (low +ℤ pos (2 ^ k))

-- the lowest tile number, -1, and the lowest number of a signed field of k bits, -2^(k-1)
abbrev pub lowest_tile : ℤ
lowest_tile = negsuc 0

abbrev pub lowest_signed : ℕ → ℤ
lowest_signed k = neg_ℤ (pos (2 ^ (k - 1)))

-- every field holds its number: at `cpu`, tile y -1 to 2,046, tile x -1 to 4,094, layer 0 to 2,097,151, local places 0 to 15, multiplier
-- 0 to 63, cover -32 to 31
unfoldable pub is_packable : List ℕ → ℤ → ℤ → ℤ → ℤ → ℤ → ℤ → ℤ → Bool
is_packable ws layer tx ty x y m c =
    is_held lowest_tile (width_of ws 0) ty
    && is_held lowest_tile (width_of ws 1) tx
    && is_held (pos 0) (width_of ws 2) layer
    && is_held (pos 0) (width_of ws 3) x
    && is_held (pos 0) (width_of ws 4) y
    && is_held (pos 0) (width_of ws 5) m
    && is_held (lowest_signed (width_of ws 6)) (width_of ws 6) c

-- the same as facts: numbers within their fields
pub record FieldsInRange (ws : List ℕ) (layer tx ty x y m c : ℤ) : Type 0 where
  pub layer_id : (minus layer ≡ 0) × (plus layer < 2 ^ width_of ws 2)
  pub tile_x : (minus tx ≤ 1) × (stored_of tx < 2 ^ width_of ws 1)
  pub tile_y : (minus ty ≤ 1) × (stored_of ty < 2 ^ width_of ws 0)
  pub local_x : (minus x ≡ 0) × (plus x < 2 ^ width_of ws 3)
  pub local_y : (minus y ≡ 0) × (plus y < 2 ^ width_of ws 4)
  pub multiplier : (minus m ≡ 0) × (plus m < 2 ^ width_of ws 5)
  pub cover : (minus c ≤ 2 ^ (width_of ws 6 - 1)) × (plus c < 2 ^ (width_of ws 6 - 1))

-- ---- what packing answers

-- in the numbers of the table of refusals
abbrev pub packed_answer : Result PixelSegment Refusal → Answer ℕ
packed_answer (Ok s) = given s.0
packed_answer (Err r) = refused (number_of r)

abbrev pub pack_of : List ℕ → ℤ → ℤ → ℤ → ℤ → ℤ → ℤ → ℤ → Answer ℕ
pack_of ws layer tx ty x y m c = cond (is_packable ws layer tx ty x y m c) (given (word_of ws (plus layer) tx ty (plus x) (plus y) (plus m) c)) (refused 11)

-- each field of the word w is the number that was packed
pub record ReadsBack (ws : List ℕ) (w : ℕ) (layer tx ty x y m c : ℤ) : Type 0 where
  pub layer_id : pos (layer_id_of ws w) ≡ layer
  pub tile_x : tile_of (tile_x_of ws w) ≡ tx
  pub tile_y : tile_of (tile_y_of ws w) ≡ ty
  pub local_x : pos (local_x_of ws w) ≡ x
  pub local_y : pos (local_y_of ws w) ≡ y
  pub multiplier : pos (multiplier_of ws w) ≡ m
  pub cover : cover_of ws w ≡ c

-- what packing promises of its answer: it is that of the definition, and a word that it gives reads back
pub record PacksTo (ws : List ℕ) (layer tx ty x y m c : ℤ) (a : Answer ℕ) : Type 0 where
  pub answer : a ≡ pack_of ws layer tx ty x y m c
  pub back : (w : ℕ) → a ≡ given w → ReadsBack ws w layer tx ty x y m c

abbrev pub Packs : List ℕ → ℤ → ℤ → ℤ → ℤ → ℤ → ℤ → ℤ → Result PixelSegment Refusal → Type 0
Packs ws layer tx ty x y m c r = PacksTo ws layer tx ty x y m c (packed_answer r)

-- seven numbers that are the same in both
pub record Same (layer tx ty x y m c layer' tx' ty' x' y' m' c' : ℤ) : Type 0 where
  pub layer_id : layer ≡ layer'
  pub tile_x : tx ≡ tx'
  pub tile_y : ty ≡ ty'
  pub local_x : x ≡ x'
  pub local_y : y ≡ y'
  pub multiplier : m ≡ m'
  pub cover : c ≡ c'
