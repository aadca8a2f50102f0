-- The order of packed words is that of tile y, then tile x, then layer id, as fields and as the numbers that were packed, at every tile height. Assumes nothing.
use Rattle.std.specs.Prelude.{◌≡◌, ◌∷◌, ◌+◌, ◌*◌, ◌/◌, ◌%◌, ◌^◌, ◌≤◌, ◌<◌}
use Rattle.laws.proofs.Prelude.{refl, ap, ap₂, sym, ◌∙◌, Bool, cond, List, [], ⊎_elim, ℕ, zero, suc}
use Rattle.laws.proofs.Prelude.{mul-le-mul_right, mod-lt, arith, ltb-true, lt-ltb, le-ltb, digits_lt, ltb, lit<, ℤ, pos, negsuc, given, plus, modℤ}
use Rattle.laws.proofs.Prelude.{same, le_or_lt, difference, equal}
use Rattle.std.proofs.Common.{suc-mul}
use Rattle.pixel_segment.specs.Field.{cpu, gpu, width_of, tile_of, tile_x_of, tile_y_of, layer_id_of}
use Rattle.pixel_segment.specs.Pack.{stored_of, pack_of}
use Rattle.pixel_segment.specs.Order.{order_key, compare_of, compareℤ, then_by}
use Rattle.pixel_segment.proofs.Heights.{cpu_keyed, gpu_keyed}
use Rattle.pixel_segment.proofs.Ranges.{cpu_layout, gpu_layout}
use Rattle.pixel_segment.proofs.ReadBack.{join_lt, given_word, given_back}
use Rattle.pixel_segment.specs.Layout.{Layout, Keyed, Compared}

pub compare_less : (a b : ℕ) → a < b → compare_of a b ≡ 0
compare_less a b h = rw (lt-ltb a b h)

pub compare_equal : (a b : ℕ) → a ≡ b → compare_of a b ≡ 1
compare_equal a b h = rw (le-ltb a b (omega arith), le-ltb b a (omega arith))

pub compare_greater : (a b : ℕ) → b < a → compare_of a b ≡ 2
compare_greater a b h = rw (le-ltb a b (omega arith), lt-ltb b a h)

above : (m a c b : ℕ) → a < c → b < m → a * m + b < c * m
above m a c b h g = let e = rw suc-mul at (mul-le-mul_right m h) in omega (arith, e)

-- two numbers of two digits by the base m compare by the first digit, then by the second
pub digits : (m a b c d : ℕ) → b < m → d < m → compare_of (a * m + b) (c * m + d) ≡ then_by (compare_of a c) (compare_of b d)
digits m a b c d hb hd =
    ⊎_elim
    (λ (p : a ≤ c).
    ⊎_elim
    (λ (q : c ≤ a).
    let e : a ≡ c = omega arith in
    let f : a * m ≡ c * m = ap (λ (n : ℕ). n * m) e in
    same f ∙ sym (ap (λ (r : ℕ). then_by r (compare_of b d)) (compare_equal a c e)))
    (λ (q : a < c).
    compare_less (a * m + b) (c * m + d) (omega (arith, above m a c b q hb))
    ∙ sym (ap (λ (r : ℕ). then_by r (compare_of b d)) (compare_less a c q)))
    (le_or_lt c a))
    (λ (p : c < a).
    compare_greater (a * m + b) (c * m + d) (omega (arith, above m c a d p hd))
    ∙ sym (ap (λ (r : ℕ). then_by r (compare_of b d)) (compare_greater a c p)))
    (le_or_lt a c)
  where
    same : a * m ≡ c * m → compare_of (a * m + b) (c * m + d) ≡ compare_of b d
    same f =
        ⊎_elim
        (λ (p : b ≤ d).
        ⊎_elim
        (λ (q : d ≤ b). compare_equal (a * m + b) (c * m + d) (omega arith) ∙ sym (compare_equal b d (omega arith)))
        (λ (q : b < d). compare_less (a * m + b) (c * m + d) (omega arith) ∙ sym (compare_less b d q))
        (le_or_lt d b))
        (λ (p : d < b). compare_greater (a * m + b) (c * m + d) (omega arith) ∙ sym (compare_greater b d p))
        (le_or_lt b d)

-- a key by its digits
key_digits : (a : ℕ) → a ≡ a / 2 ^ 33 * 2 ^ 33 + (a / 2 ^ 21 % 2 ^ 12 * 2 ^ 21 + a % 2 ^ 21)
key_digits a = omega arith

-- ---- at every height

module _ (ws : List ℕ) (t : Keyed ws) where
  -- what order compares, by its fields
  pub keyed : (u : ℕ) → u < 2 ^ 64 → order_key ws u ≡ tile_y_of ws u * 2 ^ 33 + (tile_x_of ws u * 2 ^ 21 + layer_id_of ws u)
  keyed u h = rw (t.tile_y u h, t.tile_x u, t.layer_id u) (key_digits (order_key ws u))

  -- order is that of tile y, tile x, layer id
  pub lexical : (v w : ℕ) → v < 2 ^ 64 → w < 2 ^ 64 → compare_of (order_key ws v) (order_key ws w) ≡ then_by (compare_of (tile_y_of ws v) (tile_y_of ws w)) (then_by (compare_of (tile_x_of ws v) (tile_x_of ws w)) (compare_of (layer_id_of ws v) (layer_id_of ws w)))
  lexical v w hv hw =
      ap₂ compare_of (keyed v hv) (keyed w hw)
      ∙ (digits (2 ^ 33) (tile_y_of ws v) (tile_x_of ws v * 2 ^ 21 + layer_id_of ws v) (tile_y_of ws w) (tile_x_of ws w * 2 ^ 21 + layer_id_of ws w) (low v) (low w)
      ∙ ap (then_by (compare_of (tile_y_of ws v) (tile_y_of ws w))) (digits (2 ^ 21) (tile_x_of ws v) (layer_id_of ws v) (tile_x_of ws w) (layer_id_of ws w) (layer_lt v) (layer_lt w)))
    where
      layer_lt : (u : ℕ) → layer_id_of ws u < 2 ^ 21
      layer_lt u = rw (t.layer_id u) (mod-lt (order_key ws u) (lit< tt))

      low : (u : ℕ) → tile_x_of ws u * 2 ^ 21 + layer_id_of ws u < 2 ^ 33
      low u = rw (t.tile_x u) (digits_lt (mod-lt (order_key ws u / 2 ^ 21) (lit< tt)) (layer_lt u))

-- ---- the words of accepted packings

compare_suc : (m n : ℕ) → compare_of m n ≡ compare_of (suc m) (suc n)
compare_suc m n = ap₂ (λ (a b : Bool). cond a 0 (cond b 2 1)) (test m n) (test n m)
  where
    test : (a b : ℕ) → ltb a b ≡ ltb (suc a) (suc b)
    test a b =
        same (ltb a b) (ltb (suc a) (suc b))
        (λ e. lt-ltb (suc a) (suc b) (omega (arith, ltb-true a b e)))
        (λ e. lt-ltb a b (omega (arith, ltb-true (suc a) (suc b) e)))

tile_of_suc : (n : ℕ) → tile_of (suc n) ≡ pos n
unfolding tile_of
tile_of_suc n = equal (tile_of (suc n)) (pos n) (omega (arith, difference (suc n) 1))

tile_of_none : tile_of 0 ≡ negsuc 0
unfolding tile_of
tile_of_none = refl

compare_tiles : (m n : ℕ) → compareℤ (tile_of m) (tile_of n) ≡ compare_of m n
compare_tiles zero zero = rw tile_of_none refl
compare_tiles zero (suc n) = rw (tile_of_none, tile_of_suc n) (sym (compare_less 0 (suc n) (omega arith)))
compare_tiles (suc m) zero = rw (tile_of_none, tile_of_suc m) (sym (compare_greater (suc m) 0 (omega arith)))
compare_tiles (suc m) (suc n) = rw (tile_of_suc m, tile_of_suc n) (compare_suc m n)

module _ (ws : List ℕ) (layout : Layout ws) (t : Keyed ws) where
  word_lt : (layer tx ty x y m c : ℤ) {w : ℕ} → pack_of ws layer tx ty x y m c ≡ given w → w < 2 ^ 64
  word_lt layer tx ty x y m c e =
      let word = (given_word ws layout layer tx ty x y m c e).1 in
      let h = join_lt ws (stored_of ty ∷ stored_of tx ∷ plus layer ∷ plus x ∷ plus y ∷ plus m ∷ modℤ (2 ^ width_of ws 6) c ∷ []) (omega (arith, layout.seven)) in
      rw (← word) (rw t.sixty_four at h)

  pub order_of_fields : Compared ws
  order_of_fields layer tx ty x y m c layer' tx' ty' x' y' m' c' v w e f =
      let a = given_back ws layout layer tx ty x y m c e in
      let b = given_back ws layout layer' tx' ty' x' y' m' c' f in
      let rows = ap₂ compareℤ (sym a.tile_y) (sym b.tile_y) ∙ compare_tiles (tile_y_of ws v) (tile_y_of ws w) in
      let tiles = ap₂ compareℤ (sym a.tile_x) (sym b.tile_x) ∙ compare_tiles (tile_x_of ws v) (tile_x_of ws w) in
      let layers = ap₂ compareℤ (sym a.layer_id) (sym b.layer_id) in
      lexical ws t v w (word_lt layer tx ty x y m c e) (word_lt layer' tx' ty' x' y' m' c' f)
      ∙ sym (ap₂ then_by rows (ap₂ then_by tiles layers))

-- in tiles 16 and 4 pixels high
pub cpu_compared : Compared cpu
cpu_compared = order_of_fields cpu cpu_layout cpu_keyed

pub gpu_compared : Compared gpu
gpu_compared = order_of_fields gpu gpu_layout gpu_keyed
