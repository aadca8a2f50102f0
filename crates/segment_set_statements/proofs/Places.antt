-- The place of a word among the held ones: that it is held where a place is found. Assumes nothing.
use Rattle.std.specs.Prelude.{◌≡◌, ◌||◌, ◌∷◌, ◌<◌}
use Rattle.laws.proofs.Prelude.{refl, sym, ◌∙◌, Bool, true, false, cond, List, [], ℕ, suc, arith}
use Rattle.laws.proofs.Prelude.{eqb-true, lt-ltb, le-ltb, ltb-true, eqb, ltb, length, get_or, same}
use Rattle.segment_set_statements.specs.Set.{is_word_held, held_place}

-- ---- a word is held where its place is below their number

pub held_by_place : (w : ℕ) (held : List ℕ) → is_word_held w held ≡ ltb (held_place w held) (length held)
unfolding held_place
held_by_place w [] = sym (le-ltb 0 0 (omega arith))
held_by_place w (v ∷ vs) = by (eqb v w) (held_by_place w vs)
  where
    next : (a b : ℕ) → ltb a b ≡ ltb (suc a) (suc b)
    next a b = same (ltb a b) (ltb (suc a) (suc b)) (λ e. let l : a < b = ltb-true a b e in lt-ltb (suc a) (suc b) (omega arith)) (λ e. let l : suc a < suc b = ltb-true (suc a) (suc b) e in lt-ltb a b (omega arith))

    by : (t : Bool) → is_word_held w vs ≡ ltb (held_place w vs) (length vs) → (t || is_word_held w vs) ≡ ltb (cond t 0 (suc (held_place w vs))) (suc (length vs))
    by true e = sym (lt-ltb 0 (suc (length vs)) (omega arith))
    by false e = e ∙ next (held_place w vs) (length vs)

-- and the word stands there
pub place_holds : (w : ℕ) (held : List ℕ) → held_place w held < length held → get_or held (held_place w held) 0 ≡ w
unfolding held_place
place_holds w [] h = absurd (omega arith)
place_holds w (v ∷ vs) h = by (eqb v w) refl h (place_holds w vs)
  where
    by : (t : Bool) → eqb v w ≡ t → cond t 0 (suc (held_place w vs)) < suc (length vs) → (held_place w vs < length vs → get_or vs (held_place w vs) 0 ≡ w) → get_or (v ∷ vs) (cond t 0 (suc (held_place w vs))) 0 ≡ w
    by true e l r = eqb-true v w e
    by false e l r = r (omega arith)
