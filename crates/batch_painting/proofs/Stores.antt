-- A plane that is lent out of the planes, and comes back written. Assumes nothing.
use Rattle.std.specs.Prelude.{◌≡◌, ◌++◌, ◌+◌, ◌-◌, ◌*◌, ◌≤◌}
use Rattle.laws.proofs.Prelude.{ap, sym, ◌∙◌, List, append_assoc, ℕ, arith, Float, length, take, drop, length-drop}
use Rattle.laws.proofs.Prelude.{sets, sets-eq, drop-drop, length-take-le, over}
use Rattle.batch_statements.specs.BatchLent.{plane_at}

-- a plane that was lent out of the planes, and came back with coverages over what it held
pub put_plane : (u : ℕ) (xs ys ws : List Float) → u * 256 + 256 ≤ length xs
    → ys ≡ over ws (take (u * 256 + 256 - u * 256) (drop (u * 256) xs))
    → length ys ≡ length (take (u * 256 + 256 - u * 256) (drop (u * 256) xs))
    → take (u * 256) xs ++ (ys ++ drop (u * 256 + 256 - u * 256) (drop (u * 256) xs)) ≡ sets xs (u * 256) (over ws (plane_at u xs))
put_plane u xs ys ws h e l =
    let a = u * 256 in
    let k : a + 256 - a ≡ 256 = omega arith in
    let zs = over ws (plane_at u xs) in
    let same : ys ≡ zs = e ∙ ap (λ (n : ℕ). over ws (take n (drop a xs))) k in
    let room : 256 ≤ length (drop a xs) = rw (length-drop a xs) (omega (arith, h)) in
    let long : length zs ≡ 256 = sym (ap (λ (z : List Float). length z) same) ∙ l ∙ ap (λ (n : ℕ). length (take n (drop a xs))) k ∙ length-take-le 256 (drop a xs) room in
    let past : a + 256 ≡ a + length zs = omega (arith, long) in
    ap (λ (z : List Float). take a xs ++ (z ++ drop (a + 256 - a) (drop a xs))) same
    ∙ ap (λ (n : ℕ). take a xs ++ (zs ++ drop n (drop a xs))) k
    ∙ ap (λ (z : List Float). take a xs ++ (zs ++ z)) (drop-drop 256 a xs ∙ ap (λ (n : ℕ). drop n xs) past)
    ∙ sym (append_assoc (take a xs) zs (drop (a + length zs) xs))
    ∙ sym (sets-eq zs xs a (omega (arith, h, long)))
