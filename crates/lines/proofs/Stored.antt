-- The numbers of lines as they stand in a list, one line after another: field f of line i stands at i * k + f.
-- Assumes nothing.
use Rattle.std.specs.Prelude.{◌≡◌, ◌∷◌, ◌++◌, ◌+◌, ◌*◌, ◌<◌, ◌≤◌}
use Rattle.laws.proofs.Prelude.{ap, ◌∙◌, List, [], flatten, ℕ, zero, suc, arith, ℤ, pos, length, drop, get_or}
use Rattle.laws.proofs.Prelude.{length-append, List·getD-append, sets, sets-eq, get_or-append-add}
use Rattle.lines.specs.Text.{AllFields}

pub length_flatten : (k : ℕ) (ls : List (List ℤ)) → AllFields k ls → length (flatten ls) ≡ length ls * k
unfolding flatten
length_flatten k [] a = omega arith
length_flatten k (r ∷ ls) a = omega (arith, length-append r (flatten ls), length_flatten k ls a.1, a.0.count)

pub flatten_at : (k : ℕ) (ls : List (List ℤ)) (i f : ℕ) → AllFields k ls → i < length ls → f < k
    → get_or (flatten ls) (i * k + f) (pos 0) ≡ get_or (get_or ls i []) f (pos 0)
unfolding flatten
flatten_at k [] i f a h l = absurd (omega arith)
flatten_at k (r ∷ ls) zero f a h l =
    ap (λ (n : ℕ). get_or (r ++ flatten ls) n (pos 0)) (omega arith) ∙ List·getD-append r (flatten ls) (pos 0) f (omega (arith, a.0.count))
flatten_at k (r ∷ ls) (suc i) f a h l =
    ap (λ (n : ℕ). get_or (r ++ flatten ls) n (pos 0)) (omega (arith, a.0.count))
    ∙ get_or-append-add r (flatten ls) (i * k + f) (pos 0)
    ∙ flatten_at k ls i f a.1 (omega arith) l

-- the same of the list that holds them
pub stored_at : (out vs : List ℤ) (n : ℕ) → length vs ≤ length out → n < length vs → get_or (sets out 0 vs) n (pos 0) ≡ get_or vs n (pos 0)
stored_at out vs n h l =
    ap (λ (s : List ℤ). get_or s n (pos 0)) (sets-eq vs out 0 (omega arith)) ∙ List·getD-append vs (drop (0 + length vs) out) (pos 0) n l
