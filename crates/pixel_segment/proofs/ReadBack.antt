-- What is packed reads back, for every table of widths: each field has the number that was packed there, modulo its width, and the number
-- itself where it is in range. So an accepted word tells its seven numbers. Assumes nothing.
use Rattle.pixel_segment.specs.declared.PixelSegment.{PixelSegment}
use Rattle.refusals.specs.declared.Refusal.{Refusal}
use Rattle.std.specs.Prelude.{◌≡◌, ◌∷◌, ◌+◌, ◌-◌, ◌*◌, ◌/◌, ◌%◌, ◌^◌, ◌≤◌, ◌<◌, Result}
use Rattle.laws.proofs.Prelude.{refl, ap, sym, subst, ◌∙◌, Bool, true, false, cond, List, [], ℕ, zero, suc}
use Rattle.laws.proofs.Prelude.{not-suc-le-zero, le_of_suc-le-suc, zero-add, add-zero, div-eq_of_lt, mod-lt, mod-eq_of_lt, arith, digits_lt}
use Rattle.laws.proofs.Prelude.{lit<, ℤ, pos, negsuc, length, get_or, drop, pow_pos, pow-add, Answer, given, refused, plus, minus, modℤ, difference}
use Rattle.laws.proofs.Prelude.{added, equal}
use Rattle.std.proofs.Common.{mul_assoc, add-mul, add_comm, mul-one}
use native.Mathlib.Nat.{add-mul-div_right, add-mul-mod_self_right, mod-mod}
use Rattle.pixel_segment.specs.Field.{sum, width_of, field_of, tile_x_of, tile_y_of, layer_id_of, local_x_of, local_y_of, multiplier_of, tile_of, signed_of, cover_of}
use Rattle.pixel_segment.specs.Pack.{join, stored_of, word_of, is_packable, FieldsInRange, packed_answer, pack_of, ReadsBack, PacksTo, Packs, Same}
use Rattle.pixel_segment.proofs.Widths.{sum_step, sum_drop_le}
use Rattle.pixel_segment.proofs.Ranges.{halves, in_range_lem}
use Rattle.pixel_segment.specs.Layout.{Layout}

-- what the word held stands above the fields
join_above : (ws xs : List ℕ) (word : ℕ) → length ws ≤ length xs → join ws xs word ≡ word * 2 ^ sum ws + join ws xs 0
join_above [] xs word h = sym (add-zero (word * 1) ∙ mul-one word)
join_above (k ∷ ks) [] word h = absurd (not-suc-le-zero h)
join_above (k ∷ ks) (x ∷ xs) word h =
    let r = x % 2 ^ k in
    let s = 2 ^ sum ks in
    let rest : (v : ℕ) → join ks xs v ≡ v * s + join ks xs 0 = λ v. join_above ks xs v (le_of_suc-le-suc h) in
    let e : word * 2 ^ (k + sum ks) ≡ word * 2 ^ k * s = ap (λ (n : ℕ). word * n) (pow-add 2 k (sum ks)) ∙ sym (mul_assoc word (2 ^ k) s) in
    omega (arith, rest (word * 2 ^ k + r), rest (0 * 2 ^ k + r), add-mul (word * 2 ^ k) r s, add-mul (0 * 2 ^ k) r s, e)

-- the fields are within the widths' sum
pub join_lt : (ws xs : List ℕ) → length ws ≤ length xs → join ws xs 0 < 2 ^ sum ws
join_lt [] xs h = omega arith
join_lt (k ∷ ks) [] h = absurd (not-suc-le-zero h)
join_lt (k ∷ ks) (x ∷ xs) h =
    rw (join_above ks xs (0 * 2 ^ k + x % 2 ^ k) (le_of_suc-le-suc h), pow-add 2 k (sum ks))
    (digits_lt (omega (arith, mod-lt x (pow_pos k))) (join_lt ks xs (le_of_suc-le-suc h)))

-- a field lower down does not see what stands above its list
lower : (r j s d S : ℕ) → s + d ≤ S → (r * 2 ^ S + j) / 2 ^ s % 2 ^ d ≡ j / 2 ^ s % 2 ^ d
lower r j s d S h =
    let up = 2 ^ (S - (s + d)) in
    let e : 2 ^ S ≡ up * 2 ^ d * 2 ^ s =
    ap (λ (n : ℕ). 2 ^ n) (omega arith) ∙ pow-add 2 (S - (s + d) + d) s ∙ ap (λ (n : ℕ). n * 2 ^ s) (pow-add 2 (S - (s + d)) d) in
    let q : r * 2 ^ S + j ≡ j + r * up * 2 ^ d * 2 ^ s =
    add_comm (r * 2 ^ S) j
    ∙ ap (λ (n : ℕ). j + n) (ap (λ (n : ℕ). r * n) e ∙ sym (mul_assoc r (up * 2 ^ d) (2 ^ s)) ∙ ap (λ (n : ℕ). n * 2 ^ s) (sym (mul_assoc r up (2 ^ d)))) in
    ap (λ (n : ℕ). n / 2 ^ s % 2 ^ d) q
    ∙ ap (λ (n : ℕ). n % 2 ^ d) (add-mul-div_right j (r * up * 2 ^ d) (pow_pos s))
    ∙ add-mul-mod_self_right (j / 2 ^ s) (r * up) (2 ^ d)

-- field k is the k-th number, modulo its width
pub field_back : (ws xs : List ℕ) (k : ℕ) → length ws ≤ length xs → k < length ws → field_of ws k (join ws xs 0) ≡ get_or xs k 0 % 2 ^ width_of ws k
field_back [] xs k h g = absurd (not-suc-le-zero g)
field_back (w ∷ ws) [] k h g = absurd (not-suc-le-zero h)
field_back (w ∷ ws) (x ∷ xs) zero h g =
    let r = x % 2 ^ w in
    let j = join ws xs 0 in
    let e : join ws xs (0 * 2 ^ w + r) ≡ j + r * 2 ^ sum ws = omega (arith, join_above ws xs (0 * 2 ^ w + r) (le_of_suc-le-suc h), add-mul (0 * 2 ^ w) r (2 ^ sum ws)) in
    ap (λ (n : ℕ). n / 2 ^ sum ws % 2 ^ w) e
    ∙ ap (λ (n : ℕ). n % 2 ^ w) (add-mul-div_right j r (pow_pos (sum ws)) ∙ ap (λ (n : ℕ). n + r) (div-eq_of_lt (join_lt ws xs (le_of_suc-le-suc h))) ∙ zero-add r)
    ∙ mod-mod x (2 ^ w)
field_back (w ∷ ws) (x ∷ xs) (suc k) h g =
    let r = x % 2 ^ w in
    rw (add_suc_one k)
    (ap (λ (n : ℕ). n / 2 ^ sum (drop (k + 1) ws) % 2 ^ get_or ws k 0) (join_above ws xs (0 * 2 ^ w + r) (le_of_suc-le-suc h))
    ∙ lower (0 * 2 ^ w + r) (join ws xs 0) (sum (drop (k + 1) ws)) (get_or ws k 0) (sum ws)
    (omega (arith, sum_step k ws (le_of_suc-le-suc g), sum_drop_le k ws))
    ∙ field_back ws xs k (le_of_suc-le-suc h) (le_of_suc-le-suc g))
  where
    add_suc_one : (k : ℕ) → suc k + 1 ≡ suc (k + 1)
    add_suc_one k = omega arith

-- ---- the word of seven numbers

module _ (ws : List ℕ) (layout : Layout ws) (layer : ℕ) (tx ty : ℤ) (x y m : ℕ) (c : ℤ) where
  -- each field of the word, modulo its width: layer ids keep their low bits, and so on
  pub kept : (k : ℕ) → k < 7 → field_of ws k (word_of ws layer tx ty x y m c) ≡ get_or (stored_of ty ∷ stored_of tx ∷ layer ∷ x ∷ y ∷ m ∷ modℤ (2 ^ width_of ws 6) c ∷ []) k 0 % 2 ^ width_of ws k
  kept k h =
      field_back ws (stored_of ty ∷ stored_of tx ∷ layer ∷ x ∷ y ∷ m ∷ modℤ (2 ^ width_of ws 6) c ∷ []) k
      (omega (arith, layout.seven))
      (omega (arith, layout.seven))

-- ---- in range

plain_back : (v : ℤ) (n k : ℕ) → (minus v ≡ 0) × (plus v < 2 ^ k) → n ≡ plus v % 2 ^ k → pos n ≡ v
plain_back v n k h e = let f = e ∙ mod-eq_of_lt h.1 in equal (pos n) v (omega arith)

tile_back : (t : ℤ) (n k : ℕ) → (minus t ≤ 1) × (stored_of t < 2 ^ k) → n ≡ stored_of t % 2 ^ k → tile_of n ≡ t
unfolding tile_of
tile_back t n k h e = let f = e ∙ mod-eq_of_lt h.1 in equal (tile_of n) t (omega (arith, difference n 1, added t (pos 1)))

-- a signed number, of the field of k bits that stores it
pub cover_back : (c : ℤ) (n k : ℕ) → 1 ≤ k → (minus c ≤ 2 ^ (k - 1)) × (plus c < 2 ^ (k - 1)) → n ≡ modℤ (2 ^ k) c % 2 ^ k → signed_of k n ≡ c
cover_back (pos p) n k g h e =
    let half = 2 ^ (k - 1) in
    let size : 2 ^ k ≡ half + half = halves k g in
    let low : p < 2 ^ k = omega arith in
    let is : n ≡ p = e ∙ mod-mod p (2 ^ k) ∙ mod-eq_of_lt low in
    let small : n + half < 2 ^ k = omega arith in
    let f : (n + half) % 2 ^ k ≡ n + half = mod-eq_of_lt small in
    equal (signed_of k n) (pos p) (omega (arith, difference ((n + half) % 2 ^ k) half))
cover_back (negsuc q) n k g h e =
    let half = 2 ^ (k - 1) in
    let size : 2 ^ k ≡ half + half = halves k g in
    let low : q < 2 ^ k = omega arith in
    let stored : 2 ^ k - suc (q % 2 ^ k) ≡ 2 ^ k - suc q = ap (λ (r : ℕ). 2 ^ k - suc r) (mod-eq_of_lt low) in
    let under : 2 ^ k - suc q < 2 ^ k = omega arith in
    let is : n ≡ 2 ^ k - suc q = e ∙ ap (λ (r : ℕ). r % 2 ^ k) stored ∙ mod-eq_of_lt under in
    let turned : n + half ≡ (half - suc q) + 1 * 2 ^ k = omega arith in
    let rest : half - suc q < 2 ^ k = omega arith in
    let f : (n + half) % 2 ^ k ≡ half - suc q =
    ap (λ (r : ℕ). r % 2 ^ k) turned ∙ add-mul-mod_self_right (half - suc q) 1 (2 ^ k) ∙ mod-eq_of_lt rest in
    equal (signed_of k n) (negsuc q) (omega (arith, difference ((n + half) % 2 ^ k) half))

-- an accepted packing and its word
accepted : (t : Bool) (v w : ℕ) → cond t (given v) (refused 11) ≡ given w → (t ≡ true) × (v ≡ w)
accepted true v w e = (refl, cc)
accepted false v w e = absurd (let z : ◌≡◌ {A = ℕ} 0 1 = cc in omega arith)

-- and a refused one
turned_down : (t : Bool) (v n : ℕ) → cond t (given v) (refused 11) ≡ refused n → t ≡ false
turned_down true v n e = absurd (let z : ◌≡◌ {A = ℕ} 0 1 = cc in omega arith)
turned_down false v n e = refl

module _ (ws : List ℕ) (layout : Layout ws) (layer tx ty x y m c : ℤ) where
  pub reads_back : FieldsInRange ws layer tx ty x y m c → ReadsBack ws (word_of ws (plus layer) tx ty (plus x) (plus y) (plus m) c) layer tx ty x y m c
  unfolding cover_of
  reads_back h =
      let w = word_of ws (plus layer) tx ty (plus x) (plus y) (plus m) c in
      let back = kept ws layout (plus layer) tx ty (plus x) (plus y) (plus m) c in
      record {
        layer_id = plain_back layer (layer_id_of ws w) (width_of ws 2) h.layer_id (back 2 (lit< tt));
        tile_x = tile_back tx (tile_x_of ws w) (width_of ws 1) h.tile_x (back 1 (lit< tt));
        tile_y = tile_back ty (tile_y_of ws w) (width_of ws 0) h.tile_y (back 0 (lit< tt));
        local_x = plain_back x (local_x_of ws w) (width_of ws 3) h.local_x (back 3 (lit< tt));
        local_y = plain_back y (local_y_of ws w) (width_of ws 4) h.local_y (back 4 (lit< tt));
        multiplier = plain_back m (multiplier_of ws w) (width_of ws 5) h.multiplier (back 5 (lit< tt));
        cover = cover_back c (field_of ws 6 w) (width_of ws 6) layout.signed h.cover (back 6 (lit< tt));
      }

  -- a packing that gives a word: every number is in range, and the word is theirs
  pub given_word : {w : ℕ} → pack_of ws layer tx ty x y m c ≡ given w → (is_packable ws layer tx ty x y m c ≡ true) × (word_of ws (plus layer) tx ty (plus x) (plus y) (plus m) c ≡ w)
  given_word {w} e = accepted (is_packable ws layer tx ty x y m c) (word_of ws (plus layer) tx ty (plus x) (plus y) (plus m) c) w e

  -- a packing that gives none: some number is not
  pub refused_means : {n : ℕ} → pack_of ws layer tx ty x y m c ≡ refused n → is_packable ws layer tx ty x y m c ≡ false
  refused_means {n} e = turned_down (is_packable ws layer tx ty x y m c) (word_of ws (plus layer) tx ty (plus x) (plus y) (plus m) c) n e

  pub given_back : {w : ℕ} → pack_of ws layer tx ty x y m c ≡ given w → ReadsBack ws w layer tx ty x y m c
  given_back {w} e =
      let a = given_word e in
      subst (λ (v : ℕ). ReadsBack ws v layer tx ty x y m c) a.1 (reads_back (in_range_lem ws layout layer tx ty x y m c a.0))

  -- so the promise is that of the answer
  pub packs_to : (a : Answer ℕ) → a ≡ pack_of ws layer tx ty x y m c → PacksTo ws layer tx ty x y m c a
  packs_to a e = record { answer = e; back = λ w f. given_back (sym e ∙ f) }

  pub packs : (r : Result PixelSegment Refusal) → packed_answer r ≡ pack_of ws layer tx ty x y m c → Packs ws layer tx ty x y m c r
  packs r e = packs_to (packed_answer r) e

-- ---- two packings

-- two packings that are accepted and give one word have the same seven numbers
pub packs_apart : (ws : List ℕ) → Layout ws → (layer tx ty x y m c layer' tx' ty' x' y' m' c' : ℤ) {w : ℕ}
    → pack_of ws layer tx ty x y m c ≡ given w → pack_of ws layer' tx' ty' x' y' m' c' ≡ given w → Same layer tx ty x y m c layer' tx' ty' x' y' m' c'
packs_apart ws layout layer tx ty x y m c layer' tx' ty' x' y' m' c' e f =
    let a = given_back ws layout layer tx ty x y m c e in
    let b = given_back ws layout layer' tx' ty' x' y' m' c' f in
    record {
      layer_id = sym a.layer_id ∙ b.layer_id;
      tile_x = sym a.tile_x ∙ b.tile_x;
      tile_y = sym a.tile_y ∙ b.tile_y;
      local_x = sym a.local_x ∙ b.local_x;
      local_y = sym a.local_y ∙ b.local_y;
      multiplier = sym a.multiplier ∙ b.multiplier;
      cover = sym a.cover ∙ b.cover;
    }
