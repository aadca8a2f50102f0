-- Laws of the mark: its size, one more octet below, its bits, that its ones are the used octets, and that it is the mark of the plane by columns.
-- Assumes nothing.
use Rattle.std.specs.Prelude.{◌≡◌, ◌||◌, ◌∷◌, ◌+◌, ◌-◌, ◌*◌, ◌/◌, ◌%◌, ◌^◌, ◌<◌, ◌≤◌}
use Rattle.laws.proofs.Prelude.{refl, sym, ap, ap₂, ◌∙◌, Bool, true, false, List, [], ℕ, zero, suc}
use Rattle.laws.proofs.Prelude.{lt_of_lt_of_le, div-one, arith, ones, Float, nan, odd, of_bits, lt, length, get_or, drop, length-drop, pow_mono}
use Rattle.laws.proofs.Prelude.{drop-cons, length_tabulate, get_d_tabulate, is_tabulate}
use native.Mathlib.Nat.{pow-suc, zero-div, zero-mul}
use native.Mathlib.Numerals.{one-add}
use lib.Count.{ones_cat}
use lib.Pow.{shr-shr}
use lib.Seq.{drop-length}
use Rattle.cover_statements.specs.Coverage.{coverage_of, is_above}
use Rattle.cover_statements.specs.Plane.{in_places, exchange}
use Rattle.cover_statements.specs.Mark.{above_at, some, is_octet_used, used_octets, bit, binary_number, count_true, mark_of, some_above, mark_by_columns, octets_of}
use Rattle.cover_statements.proofs.Planes.{pixel_at}

pub bit_lt : (b : Bool) → bit b < 2
bit_lt true = omega arith
bit_lt false = omega arith

pub used_length : (plane : List Float) → length (used_octets plane) ≡ 32
unfolding used_octets
used_length plane = length_tabulate 32 (λ octet. is_octet_used plane (octet / 2) (octet % 2))

pub used_at : (plane : List Float) (octet : ℕ) → octet < 32 → get_or (used_octets plane) octet false ≡ is_octet_used plane (octet / 2) (octet % 2)
unfolding used_octets
used_at plane octet h = get_d_tabulate 32 (λ o. is_octet_used plane (o / 2) (o % 2)) false octet h

number_lt : (bs : List Bool) → binary_number bs < 2 ^ length bs
unfolding binary_number
number_lt [] = omega arith
number_lt (b ∷ bs) = rw pow-suc (omega (arith, number_lt bs, bit_lt b))

-- ---- the loop, from the highest octet down: the number of the octets from `octet` on

pub record Marking (plane : List Float) (mark octet : ℕ) : Type 0 where
  pub reached : octet ≤ 32
  pub same : mark ≡ binary_number (drop octet (used_octets plane))

pub mark_start : {plane : List Float} → Marking plane 0 32
unfolding binary_number
mark_start {plane} =
    record {
      reached = omega arith;
      same = sym (ap binary_number (ap (λ (n : ℕ). drop n (used_octets plane)) (sym (used_length plane)) ∙ drop-length (used_octets plane)));
    }

-- while octets are left, the number fits 31 bits
pub mark_small : {plane : List Float} {mark octet : ℕ} → Marking plane mark octet → 0 < octet → mark < 2 ^ 31
mark_small {plane} {mark} {octet} c h =
    let l : length (drop octet (used_octets plane)) ≤ 31 = omega (arith, length-drop octet (used_octets plane), used_length plane, c.reached) in
    rw c.same (lt_of_lt_of_le (number_lt (drop octet (used_octets plane))) (pow_mono l))

pub mark_next : {plane : List Float} {mark octet : ℕ} {used : Bool} → Marking plane mark octet → 0 < octet → used ≡ is_octet_used plane ((octet - 1) / 2) ((octet - 1) % 2)
    → Marking plane (mark * 2 + bit used) (octet - 1)
unfolding binary_number
mark_next {plane} {mark} {octet} {used} c h e =
    let l = used_octets plane in
    let o = octet - 1 in
    let back : suc o ≡ octet = omega arith in
    record {
      reached = omega (arith, c.reached);
      same =
          ap₂ (λ (n : ℕ) (b : Bool). n * 2 + bit b)
          (c.same ∙ ap (λ (n : ℕ). binary_number (drop n l)) (sym back))
          (e ∙ sym (used_at plane o (omega (arith, c.reached))))
          ∙ sym (ap binary_number (drop-cons l o false (omega (arith, used_length plane, c.reached))));
    }

pub mark_end : {plane : List Float} {mark octet : ℕ} → Marking plane mark octet → octet ≤ 0 → mark ≡ mark_of plane
unfolding mark_of
mark_end {plane} {mark} {octet} c h =
    let z : octet ≡ 0 = omega arith in
    c.same ∙ ap (λ (n : ℕ). binary_number (drop n (used_octets plane))) z

-- ---- its bits and its ones

-- bit k of a number made of flags is the flag k
digit : (bs : List Bool) (k : ℕ) → binary_number bs / 2 ^ k % 2 ≡ bit (get_or bs k false)
unfolding binary_number
digit [] k = rw (zero-div (2 ^ k))
digit (b ∷ bs) zero = omega (arith, div-one (binary_number bs * 2 + bit b), bit_lt b)
digit (b ∷ bs) (suc k) =
    let half : (binary_number bs * 2 + bit b) / 2 ≡ binary_number bs = omega (arith, bit_lt b) in
    let e : (binary_number bs * 2 + bit b) / 2 ^ suc k ≡ binary_number bs / 2 ^ k =
    ap (λ (m : ℕ). (binary_number bs * 2 + bit b) / 2 ^ m) (sym (one-add k))
    ∙ sym (shr-shr (binary_number bs * 2 + bit b) 1 k)
    ∙ ap (λ (m : ℕ). m / 2 ^ k) half in
    rw e (digit bs k)

-- bit 2 × column + h of a plane's mark is set exactly where octet h of the column is used
pub mark_bit : (plane : List Float) (column h : ℕ) → column < 16 → h < 2 → mark_of plane / 2 ^ (2 * column + h) % 2 ≡ bit (is_octet_used plane column h)
unfolding mark_of
mark_bit plane column h p q =
    let o = 2 * column + h in
    let d : o / 2 ≡ column = omega arith in
    let m : o % 2 ≡ h = omega arith in
    digit (used_octets plane) o ∙ ap bit (used_at plane o (omega arith) ∙ ap₂ (is_octet_used plane) d m)

bit_ones : (b : Bool) → ones (bit b) ≡ bit b
unfolding ones
bit_ones true = refl
bit_ones false = refl

-- the ones of a number made of flags are the flags that are set
ones_number : (bs : List Bool) → ones (binary_number bs) ≡ count_true bs
unfolding binary_number count_true ones
ones_number [] = refl
ones_number (b ∷ bs) = ones_cat 1 (binary_number bs) (bit b) (bit_lt b) ∙ ap₂ (λ (x y : ℕ). x + y) (ones_number bs) (bit_ones b) ∙ omega arith

-- the ones of a plane's mark are its used octets
pub ones_mark : (plane : List Float) → ones (mark_of plane) ≡ octets_of plane
unfolding mark_of octets_of
ones_mark plane = ones_number (used_octets plane)

-- ---- planes that agree

pub some_ext : (n : ℕ) (f g : ℕ → Bool) → ((i : ℕ) → i < n → f i ≡ g i) → some n f ≡ some n g
some_ext zero f g h = refl
some_ext (suc n) f g h = ap₂ ◌||◌ (some_ext n f g (λ i l. h i (omega arith))) (h n (omega arith))

-- k + i × s, as the code writes it
abbrev pub offset : ℕ → ℕ → ℕ → ℕ
offset s k zero = k
offset s k (suc i) = k + suc i * s

pub offset_is : (s k i : ℕ) → offset s k i ≡ k + i * s
offset_is s k zero = rw (zero-mul s) (omega arith)
offset_is s k (suc i) = refl

-- octet h of a column is the eight numbers from 128 × h + column on, 16 apart
pub used_eight : (plane : List Float) (octet : ℕ) → some 8 (λ i. is_above (get_or plane (offset 16 (128 * (octet % 2) + octet / 2) i) nan)) ≡ is_octet_used plane (octet / 2) (octet % 2)
used_eight plane octet =
    some_ext 8 (λ i. is_above (get_or plane (offset 16 (128 * (octet % 2) + octet / 2) i) nan)) (above_at plane (octet / 2) (octet % 2))
    (λ i l. ap (λ (k : ℕ). is_above (get_or plane k nan)) (omega (arith, offset_is 16 (128 * (octet % 2) + octet / 2) i)))

-- ---- the mark of a plane is the one that its numbers by columns had

-- the eight neighbours are the octet, exchanged
pub octet_used : (old : List Float) (octet : ℕ) → octet < 32 → some_above old octet ≡ is_octet_used (exchange nan 16 old) (octet / 2) (octet % 2)
unfolding some_above
octet_used old octet h =
    some_ext 8 (λ i. is_above (get_or old (8 * octet + i) nan)) (above_at (exchange nan 16 old) (octet / 2) (octet % 2))
    (λ i l.
    let e : 8 * octet + i ≡ octet / 2 * 16 + (8 * (octet % 2) + i) = omega arith in
    ap is_above
    (ap (λ (k : ℕ). get_or old k nan) e
    ∙ sym (pixel_at 16 (λ column row. get_or old (column * 16 + row) nan) nan (octet / 2) (8 * (octet % 2) + i) (omega arith) (omega arith))))

pub mark_exchanged : (old : List Float) → mark_of (exchange nan 16 old) ≡ mark_by_columns old
unfolding mark_of used_octets
mark_exchanged old =
    ap binary_number
    (is_tabulate 32 (some_above old) false (used_octets (exchange nan 16 old)) (used_length (exchange nan 16 old))
    (λ o l. used_at (exchange nan 16 old) o l ∙ sym (octet_used old o l)))

-- planes that agree in their 256 numbers have one mark
pub mark_same : (p q : List Float) → ((k : ℕ) → k < 256 → get_or p k nan ≡ get_or q k nan) → mark_of p ≡ mark_of q
unfolding mark_of used_octets
mark_same p q h =
    ap binary_number
    (is_tabulate 32 (λ o. is_octet_used q (o / 2) (o % 2)) false (used_octets p) (used_length p)
    (λ o l. used_at p o l ∙ some_ext 8 (above_at p (o / 2) (o % 2)) (above_at q (o / 2) (o % 2)) (λ i t. ap is_above (h _ (omega arith)))))

-- coverage 0 everywhere uses no octet, and coverage 1 everywhere all 32
pub mark_empty : mark_of (in_places 16 (λ column row. coverage_of 0)) ≡ 0
unfolding mark_of used_octets binary_number in_places coverage_of odd of_bits lt
mark_empty = refl

pub mark_full : mark_of (in_places 16 (λ column row. coverage_of 512)) ≡ 2 ^ 32 - 1
unfolding mark_of used_octets binary_number in_places coverage_of odd of_bits lt
mark_full = refl
