-- Who was listed, by places and flags; and lists all of whose layers were listed before: they are no longer, and where they are as long they are the same.
-- Assumes nothing.
use Rattle.std.specs.Prelude.{◌≡◌, ◌∷◌, ◌≤◌, ◌<◌}
use Rattle.laws.proofs.Prelude.{refl, sym, ap, ap₂, ◌∙◌, true, List, [], map, inl, inr, ℕ, zero, suc, arith, length}
use Rattle.styling.specs.Ascending.{strictly_ascends_from}
use Rattle.styling.proofs.Ascents.{ascends_head, ascends_tail}
use Rattle.pass_statements.specs.Covered.{item_at}
use Rattle.pass_statements.specs.declared.item.Item.{Item}
use Rattle.kept_frames.specs.Picture.{unflagged}
use Rattle.kept_frames.specs.Told.{WasListed, Told}
use Rattle.kept_frames.specs.Right.{ListedUnchanged}

abbrev pub ids_of : List Item → List ℕ
ids_of xs = map (λ x. x.id) xs

-- ---- places and flags

pub was_at : (xs : List Item) (i : ℕ) → i < length xs → WasListed (item_at xs i) xs
was_at [] i h = absurd (omega (arith, h))
was_at (x ∷ xs) zero h = inl refl
was_at (x ∷ xs) (suc i) h = inr (was_at xs i (omega (arith, h)))

pub told_at : (before now : List Item) → Told before now → (i : ℕ) → i < length now → (item_at now i).unchanged ≡ true → WasListed (item_at now i) before
told_at before [] t i h e = absurd (omega (arith, h))
told_at before (y ∷ ys) (f, t) zero h e = f e
told_at before (y ∷ ys) (f, t) (suc i) h e = told_at before ys t i (omega (arith, h)) e

pub listed_at : (now : List Item) (i : ℕ) → i < length now → (item_at now i).unchanged ≡ true → ListedUnchanged now (item_at now i).id
listed_at [] i h e = absurd (omega (arith, h))
listed_at (x ∷ xs) zero h e = inl (refl, e)
listed_at (x ∷ xs) (suc i) h e = inr (listed_at xs i (omega (arith, h)) e)

-- ---- lists within another

-- every layer of a list was listed before
abbrev pub Within : List Item → List Item → Type 0
Within before [] = Unit {0}
Within before (x ∷ xs) = WasListed x before × Within before xs

-- who lies above y was not listed as y
past : (x y : Item) (ys : List Item) → y.id < x.id → WasListed x (y ∷ ys) → WasListed x ys
past x y ys p (inl e) =
    let same : y.id ≡ x.id = ap (λ (z : Item). z.id) e in
    absurd (omega (arith, p, same))
past x y ys p (inr s) = s

-- so all of a list that lies above y were among the others
pub above : (y : Item) (ys xs : List Item) (low : ℕ) → y.id < low → strictly_ascends_from low (ids_of xs) ≡ true → Within (y ∷ ys) xs → Within ys xs
above y ys [] low p a w = tt
above y ys (x ∷ xs) low p a (s, w) =
    let head = ascends_head low x.id (ids_of xs) a in
    (past x y ys (omega (arith, p, head)) s, above y ys xs (suc x.id) (omega (arith, p, head)) (ascends_tail low x.id (ids_of xs) a) w)

-- who was in an ascending list is not below its bound
pub was_above : (x : Item) (ys : List Item) (low : ℕ) → strictly_ascends_from low (ids_of ys) ≡ true → WasListed x ys → low ≤ x.id
was_above x [] low b s = absurd s
was_above x (y ∷ ys) low b (inl e) =
    let same : y.id ≡ x.id = ap (λ (z : Item). z.id) e in
    omega (arith, same, ascends_head low y.id (ids_of ys) b)
was_above x (y ∷ ys) low b (inr s) = omega (arith, ascends_head low y.id (ids_of ys) b, was_above x ys (suc y.id) (ascends_tail low y.id (ids_of ys) b) s)

-- a list all of whose layers were in another is no longer
pub shorter : (before now : List Item) (low : ℕ) → strictly_ascends_from low (ids_of now) ≡ true → (low' : ℕ) → strictly_ascends_from low' (ids_of before) ≡ true
    → Within before now → length now ≤ length before
shorter before [] low a low' b w = omega arith
shorter [] (x ∷ xs) low a low' b (s, w) = absurd s
shorter (y ∷ ys) (x ∷ xs) low a low' b (inl e, w) =
    let same : y.id ≡ x.id = ap (λ (z : Item). z.id) e in
    let rest = above y ys xs (suc x.id) (omega (arith, same)) (ascends_tail low x.id (ids_of xs) a) w in
    omega (arith, shorter ys xs (suc x.id) (ascends_tail low x.id (ids_of xs) a) (suc y.id) (ascends_tail low' y.id (ids_of ys) b) rest)
shorter (y ∷ ys) (x ∷ xs) low a low' b (inr s, w) =
    let up = was_above x ys (suc y.id) (ascends_tail low' y.id (ids_of ys) b) s in
    let rest = above y ys xs (suc x.id) (omega (arith, up)) (ascends_tail low x.id (ids_of xs) a) w in
    omega (arith, shorter ys (x ∷ xs) low a (suc y.id) (ascends_tail low' y.id (ids_of ys) b) (s, rest))

-- and where it is as long, the two are the same but for the flags
pub same : (before now : List Item) (low : ℕ) → strictly_ascends_from low (ids_of now) ≡ true → (low' : ℕ) → strictly_ascends_from low' (ids_of before) ≡ true
    → Within before now → length now ≡ length before → map unflagged before ≡ map unflagged now
same [] [] low a low' b w n = refl
same (y ∷ ys) [] low a low' b w n = absurd (omega (arith, n))
same [] (x ∷ xs) low a low' b (s, w) n = absurd s
same (y ∷ ys) (x ∷ xs) low a low' b (inl e, w) n =
    let ids : y.id ≡ x.id = ap (λ (z : Item). z.id) e in
    let rest = above y ys xs (suc x.id) (omega (arith, ids)) (ascends_tail low x.id (ids_of xs) a) w in
    ap₂ (λ (z : Item) (zs : List Item). z ∷ zs) e
    (same ys xs (suc x.id) (ascends_tail low x.id (ids_of xs) a) (suc y.id) (ascends_tail low' y.id (ids_of ys) b) rest (omega (arith, n)))
same (y ∷ ys) (x ∷ xs) low a low' b (inr s, w) n =
    let up = was_above x ys (suc y.id) (ascends_tail low' y.id (ids_of ys) b) s in
    let rest = above y ys xs (suc x.id) (omega (arith, up)) (ascends_tail low x.id (ids_of xs) a) w in
    absurd (omega (arith, n, shorter ys (x ∷ xs) low a (suc y.id) (ascends_tail low' y.id (ids_of ys) b) (s, rest)))

-- in an ascending list one id stands once
pub unique : (ys : List Item) (low : ℕ) → strictly_ascends_from low (ids_of ys) ≡ true → (x y : Item) → x.id ≡ y.id → WasListed x ys → WasListed y ys
    → unflagged x ≡ unflagged y
unique [] low b x y e s t = absurd s
unique (z ∷ zs) low b x y e (inl p) (inl q) = sym p ∙ q
unique (z ∷ zs) low b x y e (inl p) (inr t) =
    let is : z.id ≡ x.id = ap (λ (w : Item). w.id) p in
    absurd (omega (arith, e, is, was_above y zs (suc z.id) (ascends_tail low z.id (ids_of zs) b) t))
unique (z ∷ zs) low b x y e (inr s) (inl q) =
    let is : z.id ≡ y.id = ap (λ (w : Item). w.id) q in
    absurd (omega (arith, e, is, was_above x zs (suc z.id) (ascends_tail low z.id (ids_of zs) b) s))
unique (z ∷ zs) low b x y e (inr s) (inr t) = unique zs (suc z.id) (ascends_tail low z.id (ids_of zs) b) x y e s t
