-- Which numbers of a field are above a key: those from the least one on, which the searches halve by. Assumes nothing.
use Rattle.std.specs.Prelude.{◌≡◌, ◌+◌, ◌≤◌, ◌<◌, ◌+ℤ◌}
use Rattle.laws.proofs.Prelude.{refl, ap, sym, ◌∙◌, Bool, true, false, ⊎_elim, ℕ, zero, suc, min, add-one, arith, lt-ltb}
use Rattle.laws.proofs.Prelude.{le-ltb, le-leb, lt-leb, leb, ℤ, pos, negsuc, le_z, w16, w32, SFits, within, sfits, le_or_lt, added}
use Rattle.pixel_segment.specs.Field.{tile_of}
use Rattle.pixel_segment.specs.Order.{is_gt, compare_of, compareℤ, compare_bool}
use Rattle.pixel_segment.specs.Pack.{stored_of}
use Rattle.pixel_segment.proofs.Lexical.{compare_less, compare_equal, compare_greater}
use Rattle.segment_rows.proofs.Keys.{tile_suc, tile_zero, le_tile, compare_tile}

-- a number of 16 bits fits in 32
pub wider : (z : ℤ) → SFits w16 z → SFits w32 z
wider z h =
    let b = within w16 z h in
    sfits w32 z (record { above = omega arith; below = omega arith })

-- ---- the rank of a number, by the least one above the key: the number after it is compared with that one

-- a number is above the key from that one on
pub above_rank : (n above : ℕ) → leb above n ≡ is_gt (compare_of (n + 1) above)
above_rank n above =
    ⊎_elim
    (λ (p : above ≤ n). le-leb above n p ∙ sym (ap is_gt (compare_greater (n + 1) above (omega arith))))
    (λ (p : n < above).
    ⊎_elim
    (λ (q : above ≤ n + 1). lt-leb above n p ∙ sym (ap is_gt (compare_equal (n + 1) above (omega arith))))
    (λ (q : n + 1 < above). lt-leb above n p ∙ sym (ap is_gt (compare_less (n + 1) above q)))
    (le_or_lt above (n + 1)))
    (le_or_lt above n)

next_rank : (n k above : ℕ) → above ≡ k + 1 → compare_of (n + 1) above ≡ compare_of n k
next_rank n k above e =
    ⊎_elim
    (λ (p : n ≤ k).
    ⊎_elim
    (λ (q : k ≤ n). compare_equal (n + 1) above (omega arith) ∙ sym (compare_equal n k (omega arith)))
    (λ (q : n < k). compare_less (n + 1) above (omega arith) ∙ sym (compare_less n k q))
    (le_or_lt k n))
    (λ (p : k < n). compare_greater (n + 1) above (omega arith) ∙ sym (compare_greater n k p))
    (le_or_lt n k)

-- of a number below a limit, which the key may be at or past
pub number_rank : (n k limit : ℕ) → n + 1 < limit → compare_of (n + 1) (min (k + 1) limit) ≡ compare_of n k
number_rank n k limit h =
    ⊎_elim
    (λ (p : k + 1 ≤ limit). next_rank n k (min (k + 1) limit) (omega arith))
    (λ (p : limit < k + 1). compare_less (n + 1) (min (k + 1) limit) (omega arith) ∙ sym (compare_less n k (omega arith)))
    (le_or_lt (k + 1) limit)

-- a stored tile number is at least a tile from that tile's stored number on
pub at_least_tile : (t : ℤ) (n : ℕ) → leb (stored_of t) n ≡ le_z t (tile_of n)
at_least_tile (pos m) n = rw (add-one, ← tile_suc m) (sym (le_tile (suc m) n))
at_least_tile (negsuc m) n = le-leb (stored_of (negsuc m)) n (omega (arith, added (negsuc m) (pos 1))) ∙ sym (all n)
  where
    all : (n : ℕ) → le_z (negsuc m) (tile_of n) ≡ true
    all zero = rw tile_zero (le-leb 0 m (omega arith))
    all (suc n) = rw tile_suc

-- every stored number is above a tile left of -1
left_of_all : (m n : ℕ) → compareℤ (tile_of n) (negsuc (suc m)) ≡ 2
left_of_all m zero = rw (tile_zero, le-ltb (suc m) 0 (omega arith), lt-ltb 0 (suc m) (omega arith))
left_of_all m (suc n) = rw tile_suc

-- of a stored tile number
pub tile_rank : (t : ℤ) (n : ℕ) → compare_of (n + 1) (stored_of (t +ℤ pos 1)) ≡ compareℤ (tile_of n) t
tile_rank t n = by t
  where
    by_stored : (k above : ℕ) → above ≡ k + 1 → compare_of (n + 1) above ≡ compareℤ (tile_of n) (tile_of k)
    by_stored k above e = next_rank n k above e ∙ sym (compare_tile n k)

    by : (t : ℤ) → compare_of (n + 1) (stored_of (t +ℤ pos 1)) ≡ compareℤ (tile_of n) t
    by (pos m) = rw (← tile_suc m) (by_stored (suc m) (m + 1 + 1) (omega arith))
    by (negsuc zero) = rw (← tile_zero) (by_stored 0 1 refl)
    by (negsuc (suc m)) =
        let first = added (negsuc (suc m)) (pos 1) in
        compare_greater (n + 1) (stored_of (negsuc (suc m) +ℤ pos 1)) (omega (arith, added (negsuc (suc m) +ℤ pos 1) (pos 1)))
        ∙ sym (left_of_all m n)

-- above a key that asks whether a number is at least a start: nothing where that is wanted
pub never_above : (b : Bool) → is_gt (compare_bool b true) ≡ false
never_above true = refl
never_above false = refl

-- else what is at least the start
pub above_unwanted : (b : Bool) → b ≡ is_gt (compare_bool b false)
above_unwanted true = refl
above_unwanted false = refl
