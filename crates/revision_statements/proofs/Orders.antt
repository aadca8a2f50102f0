-- Records in another order, and lists with the same records. Assumes nothing.
use Rattle.std.specs.Prelude.{◌≡◌, ◌&&◌, ◌||◌, ◌⊎◌, ◌∷◌, ◌++◌}
use Rattle.laws.proofs.Prelude.{refl, sym, ap, ap₂, ◌∙◌, Bool, true, false, inl, inr, ⊎_elim, List, [], ℕ, suc}
use Rattle.laws.proofs.Prelude.{arith, eqb-true, eq-eqb, eqb, any, same}
use Rattle.styling.specs.Ascending.{strictly_ascends_from}
use Rattle.styling.proofs.Ascents.{ascends_tail}
use Rattle.revision_statements.specs.Sent.{Sent, id_of}
use Rattle.revision_statements.specs.Standing.{sent_ids}
use Rattle.revision_statements.specs.Verdict.{is_twin, has_twins}
use Rattle.revision_statements.specs.Laws.{Among, Reordered, none, keep, swap, both}
use Rattle.revision_statements.proofs.Stood.{among_low}

-- ---- another order

pub alike : (ss : List Sent) → Reordered ss ss
alike [] = none
alike (s ∷ ss) = keep (alike ss)

pub turned : {ss ts : List Sent} → Reordered ss ts → Reordered ts ss
turned none = none
turned (keep r) = keep (turned r)
turned swap = swap
turned (both r q) = both (turned q) (turned r)

-- a record moved from the front to any place
pub moved : (s : Sent) (xs ys : List Sent) → Reordered (s ∷ (xs ++ ys)) (xs ++ (s ∷ ys))
moved s [] ys = alike (s ∷ ys)
moved s (x ∷ xs) ys = both swap (keep (moved s xs ys))

pub reordered_among : (u : Sent) {ss ts : List Sent} → Reordered ss ts → Among u ss → Among u ts
reordered_among u none a = a
reordered_among u (keep r) (inl e) = inl e
reordered_among u (keep r) (inr a) = inr (reordered_among u r a)
reordered_among u swap (inl e) = inr (inl e)
reordered_among u swap (inr (inl e)) = inl e
reordered_among u swap (inr (inr a)) = inr (inr a)
reordered_among u (both r q) a = reordered_among u q (reordered_among u r a)

-- ---- twins

or_swap : (a b c : Bool) → (a || (b || c)) ≡ (b || (a || c))
or_swap true true c = refl
or_swap true false c = refl
or_swap false b c = refl

or_exchange : (x a b c : Bool) → ((x || a) || (b || c)) ≡ ((x || b) || (a || c))
or_exchange true a b c = refl
or_exchange false a b c = or_swap a b c

eqb_turned : (a b : ℕ) → eqb a b ≡ eqb b a
eqb_turned a b = same (eqb a b) (eqb b a) (λ e. eq-eqb b a (sym (eqb-true a b e))) (λ e. eq-eqb a b (sym (eqb-true b a e)))

twin_turned : (s t : Sent) → is_twin s t ≡ is_twin t s
twin_turned s t = ap₂ ◌&&◌ (eqb_turned (id_of t) (id_of s)) (eqb_turned t.revision s.revision)

reordered_any : (p : Sent → Bool) {ss ts : List Sent} → Reordered ss ts → any p ss ≡ any p ts
reordered_any p none = refl
reordered_any p (keep {s} r) = ap (λ (b : Bool). p s || b) (reordered_any p r)
reordered_any p (swap {s} {t} {ss}) = or_swap (p s) (p t) (any p ss)
reordered_any p (both r q) = reordered_any p r ∙ reordered_any p q

pub reordered_twins : {ss ts : List Sent} → Reordered ss ts → has_twins ss ≡ has_twins ts
unfolding has_twins
reordered_twins none = refl
reordered_twins (keep {s} r) = ap₂ ◌||◌ (reordered_any (is_twin s) r) (reordered_twins r)
reordered_twins (swap {s} {t} {ss}) =
    ap (λ (b : Bool). (b || any (is_twin s) ss) || (any (is_twin t) ss || has_twins ss)) (twin_turned s t)
    ∙ or_exchange (is_twin t s) (any (is_twin s) ss) (any (is_twin t) ss) (has_twins ss)
reordered_twins (both r q) = reordered_twins r ∙ reordered_twins q

-- ---- two ascending lists of the same records are equal

-- what is among those after the first is not the first
not_first : (s t u : Sent) (ss : List Sent) → strictly_ascends_from (suc (id_of s)) (sent_ids ss) ≡ true → t ≡ s → Among u ss → t ≡ u → ⊥
not_first s t u ss h e a q = omega (arith, among_low (suc (id_of s)) u ss h a, ap id_of e, ap id_of q)

pub same_records : (low : ℕ) (ss ts : List Sent) → strictly_ascends_from low (sent_ids ss) ≡ true → strictly_ascends_from low (sent_ids ts) ≡ true → ((u : Sent) → Among u ss → Among u ts) → ((u : Sent) → Among u ts → Among u ss) → ss ≡ ts
same_records low [] [] h k f g = refl
same_records low [] (t ∷ ts) h k f g = absurd (g t (inl refl))
same_records low (s ∷ ss) [] h k f g = absurd (f s (inl refl))
same_records low (s ∷ ss) (t ∷ ts) h k f g =
    ap₂ (λ (x : Sent) (xs : List Sent). x ∷ xs) (sym first)
    (same_records (suc (id_of s)) ss ts after_s (rw first at after_t)
    (λ u a. later t ts u (f u (inr a)) (not_first s t u ss after_s first a))
    (λ u a. later s ss u (g u (inr a)) (not_first t s u ts after_t (sym first) a)))
  where
    after_s : strictly_ascends_from (suc (id_of s)) (sent_ids ss) ≡ true
    after_s = ascends_tail low (id_of s) (sent_ids ss) h

    after_t : strictly_ascends_from (suc (id_of t)) (sent_ids ts) ≡ true
    after_t = ascends_tail low (id_of t) (sent_ids ts) k

    first : t ≡ s
    first =
        ⊎_elim (λ (e : t ≡ s). e)
        (λ (a : Among s ts).
        ⊎_elim (λ (e : s ≡ t). sym e) (λ (b : Among t ss). absurd (omega (arith, among_low (suc (id_of t)) s ts after_t a, among_low (suc (id_of s)) t ss after_s b)))
        (g t (inl refl)))
        (f s (inl refl))

    later : (x : Sent) (xs : List Sent) (u : Sent) → (x ≡ u) ⊎ Among u xs → (x ≡ u → ⊥) → Among u xs
    later x xs u (inl e) n = absurd (n e)
    later x xs u (inr a) n = a
