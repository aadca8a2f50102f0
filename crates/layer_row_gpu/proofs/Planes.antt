-- Planes of 64 numbers that lie one after the other: one that is lent out and comes back written. Assumes nothing.
use Rattle.std.specs.Prelude.{◌≡◌, ◌++◌, ◌+◌, ◌-◌, ◌*◌, ◌≤◌}
use Rattle.laws.proofs.Prelude.{ap, sym, ◌∙◌, List, append_assoc, append-nil, ℕ, arith, Float, length, take, drop}
use Rattle.laws.proofs.Prelude.{length-take, length-drop, length-append, drop_of_length-le, sets, sets-eq, drop-drop, length-take-le, take_at}
use Rattle.laws.proofs.Prelude.{drop_at, over}
use Rattle.layer_row_gpu.specs.WorkTiles.{plane_at}

-- the k-th plane, lent out of the planes, comes back as it is written
pub put_plane : (k : ℕ) (xs ys zs : List Float) → k * 64 + 64 ≤ length xs → ys ≡ zs → length ys ≡ length (take (k * 64 + 64 - k * 64) (drop (k * 64) xs))
    → take (k * 64) xs ++ (ys ++ drop (k * 64 + 64 - k * 64) (drop (k * 64) xs)) ≡ sets xs (k * 64) zs
put_plane k xs ys zs h same l =
    let a = k * 64 in
    let n : a + 64 - a ≡ 64 = omega arith in
    let room : 64 ≤ length (drop a xs) = rw (length-drop a xs) (omega (arith, h)) in
    let long : length zs ≡ 64 = sym (ap (λ (z : List Float). length z) same) ∙ l ∙ ap (λ (m : ℕ). length (take m (drop a xs))) n ∙ length-take-le 64 (drop a xs) room in
    let past : a + 64 ≡ a + length zs = omega (arith, long) in
    ap (λ (z : List Float). take a xs ++ (z ++ drop (a + 64 - a) (drop a xs))) same
    ∙ ap (λ (m : ℕ). take a xs ++ (zs ++ drop m (drop a xs))) n
    ∙ ap (λ (z : List Float). take a xs ++ (zs ++ z)) (drop-drop 64 a xs ∙ ap (λ (m : ℕ). drop m xs) past)
    ∙ sym (append_assoc (take a xs) zs (drop (a + length zs) xs))
    ∙ sym (sets-eq zs xs a (omega (arith, h, long)))

-- the plane that is lent is the k-th, and has 64 numbers
pub lent_plane : (k : ℕ) (xs : List Float) → take (k * 64 + 64 - k * 64) (drop (k * 64) xs) ≡ plane_at k xs
lent_plane k xs = let n : k * 64 + 64 - k * 64 ≡ 64 = omega arith in ap (λ (m : ℕ). take m (drop (k * 64) xs)) n

pub plane_long : (k : ℕ) (xs : List Float) → k * 64 + 64 ≤ length xs → length (plane_at k xs) ≡ 64
plane_long k xs h = let room : 64 ≤ length (drop (k * 64) xs) = rw (length-drop (k * 64) xs) (omega (arith, h)) in length-take-le 64 (drop (k * 64) xs) room

-- written over the planes' front, then over the next of them
pub put_next : (k : ℕ) (front plane xs : List Float) → length front ≡ k * 64 → length plane ≡ 64 → k * 64 + 64 ≤ length xs
    → sets (over front xs) (k * 64) (over plane (plane_at k (over front xs))) ≡ over (front ++ plane) xs
unfolding over
put_next k front plane xs f p h =
    let a = k * 64 in
    let rest = drop (length front) xs in
    let all = front ++ rest in
    let short : length (plane_at k all) ≤ length plane = rw (length-take 64 (drop a all)) (omega (arith, p)) in
    let only : plane ++ drop (length plane) (plane_at k all) ≡ plane = ap (λ (z : List Float). plane ++ z) (drop_of_length-le (plane_at k all) short) ∙ append-nil plane in
    let long : length all ≡ length xs = length-append front rest ∙ rw (length-drop (length front) xs) (omega (arith, f, h)) in
    let back : drop (a + length plane) all ≡ drop (length (front ++ plane)) xs =
    sym (drop-drop (length plane) a all)
    ∙ ap (λ (z : List Float). drop (length plane) z) (drop_at front rest a f)
    ∙ drop-drop (length plane) (length front) xs
    ∙ ap (λ (m : ℕ). drop m xs) (sym (length-append front plane)) in
    ap (λ (z : List Float). sets all a z) only
    ∙ sets-eq plane all a (omega (arith, p, h, long))
    ∙ ap (λ (z : List Float). z ++ plane ++ drop (a + length plane) all) (take_at front rest a f)
    ∙ ap (λ (z : List Float). (front ++ plane) ++ z) back

pub lent_long : (k : ℕ) (xs : List Float) → k * 64 + 64 ≤ length xs → 64 ≤ length (take (k * 64 + 64 - k * 64) (drop (k * 64) xs))
lent_long k xs h = rw (lent_plane k xs) (let l = plane_long k xs h in omega (arith, l))
