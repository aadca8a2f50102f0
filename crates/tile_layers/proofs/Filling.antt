-- The columns of a list or a queue, filled from the front, one entry after the other. Assumes nothing.
use Rattle.std.specs.Prelude.{◌≡◌, ◌∷◌, ◌++◌, ◌+◌, ◌-◌, ◌*◌, ◌≤◌, ◌<◌}
use Rattle.laws.proofs.Prelude.{ap, ap₂, sym, ◌∙◌, true, ⊎_elim, List, [], append_assoc, ℕ, zero, suc}
use Rattle.laws.proofs.Prelude.{not-suc-le-zero, arith, lt-ltb, le-ltb, eqb-true, ltb, ℤ, length, get_or, take, drop, length-drop, take_at, drop_at}
use Rattle.laws.proofs.Prelude.{take-add, drop-drop, length-take-le, drop-cons, over, left, right, cons_lt, le_or_lt, filled}
use lib.Seq.{drop-append-add}
use Rattle.segment_rows.specs.Search.{between}
use Rattle.cover_statements.specs.Entry.{put_entry}
use Rattle.queue_statements.specs.Queue.{Carry, covers_in}
use Rattle.queue_statements.proofs.Columns.{is_wide, are_wide, length_covers}
use Rattle.tile_layers.specs.Listing.{has_any}

-- the cover of the m-th carry, among all covers
entry_in_lem : (q : List Carry) (m : ℕ) {c : Carry} {rest : List Carry} → are_wide q ≡ true → drop m q ≡ c ∷ rest → take 16 (drop (m * 16) (covers_in q)) ≡ c.cover
unfolding covers_in
entry_in_lem [] m w e = absurd (not-suc-le-zero (cons_lt [] m e))
entry_in_lem (x ∷ q) zero {c} w e =
    take_at x.cover (covers_in q) 16 (eqb-true (length x.cover) 16 (left (is_wide x) (are_wide q) w))
    ∙ ap (λ (r : List Carry). (get_or r 0 c).cover) e
entry_in_lem (x ∷ q) (suc m) w e =
    let wide = eqb-true (length x.cover) 16 (left (is_wide x) (are_wide q) w) in
    let past : suc m * 16 ≡ length x.cover + m * 16 = omega (arith, wide) in
    ap (λ (n : ℕ). take 16 (drop n (x.cover ++ covers_in q))) past
    ∙ ap (take 16) (drop-append-add x.cover (covers_in q) (m * 16))
    ∙ entry_in_lem q m (right (is_wide x) (are_wide q) w) e

pub put_filled : (q : List Carry) (old : List ℤ) (m : ℕ) {c : Carry} {rest : List Carry} → are_wide q ≡ true → drop m q ≡ c ∷ rest → 16 * length q ≤ length old → put_entry 16 m c.cover (filled old (covers_in q) (m * 16)) ≡ filled old (covers_in q) ((m + 1) * 16)
unfolding put_entry over
put_filled q old m {c} {rest} w e room =
    let s = covers_in q in
    let k = m * 16 in
    let l = filled old s k in
    let at = cons_lt q m e in
    let long = length_covers q w in
    let here : length (take k s) ≡ k = length-take-le k s (omega arith) in
    let entry = entry_in_lem q m w e in
    let wide : length c.cover ≡ 16 = ap length (sym entry) ∙ length-take-le 16 (drop k s) (omega (arith, length-drop k s)) in
    let front : take k l ≡ take k s = take_at (take k s) (drop k old) k here in
    let back : drop k l ≡ drop k old = drop_at (take k s) (drop k old) k here in
    let past : k + length c.cover ≡ (m + 1) * 16 = omega (arith, wide) in
    let next : k + 16 ≡ (m + 1) * 16 = omega arith in
    ap₂ (λ (x y : List ℤ). x ++ (c.cover ++ drop (length c.cover) y)) front back
    ∙ ap (λ (y : List ℤ). take k s ++ (c.cover ++ y)) (drop-drop (length c.cover) k old ∙ ap (λ (n : ℕ). drop n old) past)
    ∙ sym (append_assoc (take k s) c.cover (drop ((m + 1) * 16) old))
    ∙ ap (λ (x : List ℤ). x ++ drop ((m + 1) * 16) old)
    (ap (λ (x : List ℤ). take k s ++ x) (sym entry) ∙ sym (take-add k 16 s) ∙ ap (λ (n : ℕ). take n s) next)

-- a layer has segments where its part is not empty
pub has_between : (j end : ℕ) (part : List ℕ) → end ≤ length part → ltb j end ≡ has_any (between j end part)
has_between j end part h =
    ⊎_elim
    (λ (p : end ≤ j). le-ltb j end p ∙ sym (ap (λ (n : ℕ). has_any (take n (drop j part))) (none p)))
    (λ (p : j < end). lt-ltb j end p ∙ sym (ap₂ (λ (n : ℕ) (l : List ℕ). has_any (take n l)) (some p) (drop-cons part j 0 (omega arith))))
    (le_or_lt end j)
  where
    none : end ≤ j → end - j ≡ 0
    none p = omega arith

    some : j < end → end - j ≡ suc (end - j - 1)
    some p = omega arith
