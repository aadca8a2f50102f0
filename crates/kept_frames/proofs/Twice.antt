-- Two askings of `keep_count`, of the shown layers in either order, are the comparison of the keep rule. Assumes nothing.
use Rattle.std.specs.Prelude.{◌≡◌, ◌&&◌, ◌||◌, ◌∷◌, ◌⊎◌, ◌≤◌, ◌<◌}
use Rattle.laws.proofs.Prelude.{refl, sym, ap, ◌∙◌, Bool, true, false, cond, Bool·beq, false≢true, List, [], map, inl, inr}
use Rattle.laws.proofs.Prelude.{⊎_elim, Option, None, ℕ, suc, arith, eqb-true, eq-eqb, le-leb, eqb, leb, both, left, right, same}
use Rattle.styling.specs.Ascending.{strictly_ascends_from}
use Rattle.styling.proofs.Ascents.{ascends_head, ascends_tail, ascends_weaken}
use Rattle.pass_statements.specs.Clips.{marks_of}
use Rattle.pass_statements.specs.Decide.{shown_from}
use Rattle.pass_statements.specs.Rules.{is_ascending}
use Rattle.pass_statements.specs.declared.item.Item.{Item}
use Rattle.painter.specs.Clip.{clip_after}
use Rattle.kept_frames.specs.Picture.{shown_afresh, Stroke, mask_after, strokes_from, picture_of}
use Rattle.kept_frames.specs.Alike.{Shown, shown_by, same_shown, all_same}
use Rattle.kept_frames.specs.Stays.{Member, same_member, is_still, stays}
use Rattle.kept_frames.specs.Right.{shown_member, TwiceAlike}
use Rattle.kept_frames.proofs.Within.{ids_of}
use Rattle.kept_frames.proofs.Strokes.{strokes_end, strokes_next}
use Rattle.kept_frames.proofs.Bits.{same_bool, bool_self}

abbrev ids : List Shown → List ℕ
ids xs = map (λ s. s.id) xs

abbrev members : List Shown → List Member
members xs = map shown_member xs

-- ---- one asking

or_else : (a b : Bool) → (a || b) ≡ true → (a ≡ true) ⊎ (b ≡ true)
or_else true b h = inl refl
or_else false b h = inr h

same_id : (a b : Shown) → same_member (shown_member a) (shown_member b) ≡ true → a.id ≡ b.id
same_id a b h = eqb-true a.id b.id (left (eqb a.id b.id) (eqb (shown_member a).kind (shown_member b).kind) h)

same_needs : (s t : Bool) → eqb (cond s 2 0) (cond t 2 0) ≡ true → Bool·beq s t ≡ true
same_needs true true h = refl
same_needs true false h = absurd (false≢true h)
same_needs false true h = absurd (false≢true h)
same_needs false false h = refl

same_shown_lem : (a b : Shown) → same_member (shown_member a) (shown_member b) ≡ true → same_shown a b ≡ true
same_shown_lem a b h =
    both (eqb a.id b.id) (Bool·beq a.needs b.needs) (eq-eqb a.id b.id (same_id a b h))
    (same_needs a.needs b.needs (right (eqb a.id b.id) (eqb (shown_member a).kind (shown_member b).kind) h))

-- who is in an ascending list is not below its bound
still_above : (a : Shown) (ys : List Shown) (low : ℕ) → strictly_ascends_from low (ids ys) ≡ true → is_still (members ys) (shown_member a) ≡ true → low ≤ a.id
still_above a [] low up h = absurd (false≢true h)
still_above a (y ∷ ys) low up h =
    let head = ascends_head low y.id (ids ys) up in
    ⊎_elim
    (λ e. omega (arith, head, same_id a y e))
    (λ e. omega (arith, head, still_above a ys (suc y.id) (ascends_tail low y.id (ids ys) up) e))
    (or_else (same_member (shown_member a) (shown_member y)) (is_still (members ys) (shown_member a)) h)

-- who lies above the first is among the others
still_past : (a b : Shown) (ys : List Shown) → b.id < a.id → is_still (members (b ∷ ys)) (shown_member a) ≡ true → is_still (members ys) (shown_member a) ≡ true
still_past a b ys p h =
    ⊎_elim (λ e. absurd (omega (arith, p, same_id a b e))) (λ e. e)
    (or_else (same_member (shown_member a) (shown_member b)) (is_still (members ys) (shown_member a)) h)

stays_past : (b : Shown) (xs ys : List Shown) (low : ℕ) → b.id < low → strictly_ascends_from low (ids xs) ≡ true → stays (members xs) (members (b ∷ ys)) ≡ true
    → stays (members xs) (members ys) ≡ true
stays_past b [] ys low p up h = refl
stays_past b (x ∷ xs) ys low p up h =
    let here = is_still (members (b ∷ ys)) (shown_member x) in
    let rest = stays (members xs) (members (b ∷ ys)) in
    let head = ascends_head low x.id (ids xs) up in
    both (is_still (members ys) (shown_member x)) (stays (members xs) (members ys))
    (still_past x b ys (omega (arith, p, head)) (left here rest h))
    (stays_past b xs ys (suc x.id) (omega (arith, p, head)) (ascends_tail low x.id (ids xs) up) (right here rest h))

-- ---- both

twice : (xs ys : List Shown) (low : ℕ) → strictly_ascends_from low (ids xs) ≡ true → strictly_ascends_from low (ids ys) ≡ true
    → stays (members xs) (members ys) ≡ true → stays (members ys) (members xs) ≡ true → all_same xs ys ≡ true
twice [] [] low up up' s t = refl
twice [] (b ∷ ys) low up up' s t = t
twice (a ∷ xs) [] low up up' s t = s
twice (a ∷ xs) (b ∷ ys) low up up' s t =
    let ina = is_still (members (b ∷ ys)) (shown_member a) in
    let inb = is_still (members (a ∷ xs)) (shown_member b) in
    let upx = ascends_tail low a.id (ids xs) up in
    let upy = ascends_tail low b.id (ids ys) up' in
    let s1 = left ina (stays (members xs) (members (b ∷ ys))) s in
    let s2 = right ina (stays (members xs) (members (b ∷ ys))) s in
    let t1 = left inb (stays (members ys) (members (a ∷ xs))) t in
    let t2 = right inb (stays (members ys) (members (a ∷ xs))) t in
    ⊎_elim
    (λ e.
    let is = same_id a b e in
    let down = ascends_down a b ys is upy in
    both (same_shown a b) (all_same xs ys) (same_shown_lem a b e)
    (twice xs ys (suc a.id) upx down (stays_past b xs ys (suc a.id) (omega (arith, is)) upx s2) (stays_past a ys xs (suc a.id) (omega arith) down t2)))
    (λ e.
    let above = still_above a ys (suc b.id) upy e in
    absurd (⊎_elim
    (λ q. omega (arith, above, same_id b a q))
    (λ q. omega (arith, above, still_above b xs (suc a.id) upx q))
    (or_else (same_member (shown_member b) (shown_member a)) (is_still (members xs) (shown_member b)) t1)))
    (or_else (same_member (shown_member a) (shown_member b)) (is_still (members ys) (shown_member a)) s1)
  where
    ascends_down : (a b : Shown) (ys : List Shown) → a.id ≡ b.id → strictly_ascends_from (suc b.id) (ids ys) ≡ true
        → strictly_ascends_from (suc a.id) (ids ys) ≡ true
    ascends_down a b ys e h = ap (λ (n : ℕ). strictly_ascends_from (suc n) (ids ys)) e ∙ h

-- ---- and the other way

still_later : (a b : Shown) (ys : List Shown) → is_still (members ys) (shown_member a) ≡ true → is_still (members (b ∷ ys)) (shown_member a) ≡ true
still_later a b ys h = or_right (same_member (shown_member a) (shown_member b)) (is_still (members ys) (shown_member a)) h
  where
    or_right : (a b : Bool) → b ≡ true → (a || b) ≡ true
    or_right true b e = refl
    or_right false b e = e

stays_later : (b : Shown) (xs ys : List Shown) → stays (members xs) (members ys) ≡ true → stays (members xs) (members (b ∷ ys)) ≡ true
stays_later b [] ys h = refl
stays_later b (x ∷ xs) ys h =
    let here = is_still (members ys) (shown_member x) in
    let rest = stays (members xs) (members ys) in
    both (is_still (members (b ∷ ys)) (shown_member x)) (stays (members xs) (members (b ∷ ys))) (still_later x b ys (left here rest h))
    (stays_later b xs ys (right here rest h))

kinds_same : (s t : Bool) → Bool·beq s t ≡ true → eqb (cond s 2 0) (cond t 2 0) ≡ true
kinds_same true true h = refl
kinds_same true false h = absurd (false≢true h)
kinds_same false true h = absurd (false≢true h)
kinds_same false false h = refl

shown_same : (a b : Shown) → same_shown a b ≡ true → same_member (shown_member a) (shown_member b) ≡ true
shown_same a b h =
    both (eqb a.id b.id) (eqb (shown_member a).kind (shown_member b).kind) (left (eqb a.id b.id) (Bool·beq a.needs b.needs) h)
    (kinds_same a.needs b.needs (right (eqb a.id b.id) (Bool·beq a.needs b.needs) h))

alike_stays : (xs ys : List Shown) → all_same xs ys ≡ true → stays (members xs) (members ys) ≡ true
alike_stays [] ys h = refl
alike_stays (a ∷ xs) [] h = h
alike_stays (a ∷ xs) (b ∷ ys) h =
    let here = same_shown a b in
    both (is_still (members (b ∷ ys)) (shown_member a)) (stays (members xs) (members (b ∷ ys)))
    (or_left (same_member (shown_member a) (shown_member b)) (is_still (members ys) (shown_member a)) (shown_same a b (left here (all_same xs ys) h)))
    (stays_later b xs ys (alike_stays xs ys (right here (all_same xs ys) h)))
  where
    or_left : (a b : Bool) → a ≡ true → (a || b) ≡ true
    or_left true b e = refl
    or_left false b e = absurd (false≢true e)

alike_back : (xs ys : List Shown) → all_same xs ys ≡ true → all_same ys xs ≡ true
alike_back [] [] h = refl
alike_back [] (b ∷ ys) h = h
alike_back (a ∷ xs) [] h = h
alike_back (a ∷ xs) (b ∷ ys) h =
    let ids = eqb a.id b.id in
    let needs = Bool·beq a.needs b.needs in
    let here = left (ids && needs) (all_same xs ys) h in
    both (same_shown b a) (all_same ys xs)
    (both (eqb b.id a.id) (Bool·beq b.needs a.needs) (eq-eqb b.id a.id (sym (eqb-true a.id b.id (left ids needs here))))
    (back a.needs b.needs (right ids needs here)))
    (alike_back xs ys (right (ids && needs) (all_same xs ys) h))
  where
    back : (s t : Bool) → Bool·beq s t ≡ true → Bool·beq t s ≡ true
    back s t e = rw (same_bool s t e) (bool_self t)

-- ---- the shown layers ascend

shown_up : (k skipped : ℕ) (xs : List Item) (ss : List Bool) (low : ℕ) → strictly_ascends_from low (ids_of xs) ≡ true
    → strictly_ascends_from low (ids_of (shown_from k skipped xs ss)) ≡ true
unfolding strictly_ascends_from shown_from
shown_up k skipped [] ss low up = refl
shown_up k skipped (x ∷ xs) [] low up = refl
shown_up k skipped (x ∷ xs) (s ∷ ss) low up = by (s && leb skipped k) (shown_up (suc k) skipped xs ss (suc x.id) (ascends_tail low x.id (ids_of xs) up))
  where
    by : (t : Bool) → strictly_ascends_from (suc x.id) (ids_of (shown_from (suc k) skipped xs ss)) ≡ true
        → strictly_ascends_from low (ids_of (cond t (x ∷ shown_from (suc k) skipped xs ss) (shown_from (suc k) skipped xs ss))) ≡ true
    by true rest =
        both (leb low x.id) (strictly_ascends_from (suc x.id) (ids_of (shown_from (suc k) skipped xs ss)))
        (le-leb low x.id (ascends_head low x.id (ids_of xs) up)) rest
    by false rest = ascends_weaken (suc x.id) low (ids_of (shown_from (suc k) skipped xs ss)) (omega (arith, ascends_head low x.id (ids_of xs) up)) rest

ids_shown : (items xs : List Item) (clip mask : Option ℕ) → ids (map shown_by (strokes_from items clip mask xs)) ≡ ids_of xs
ids_shown items [] clip mask = ap (λ (l : List Stroke). ids (map shown_by l)) (strokes_end items clip mask)
ids_shown items (x ∷ xs) clip mask =
    ap (λ (l : List Stroke). ids (map shown_by l)) (strokes_next items clip mask x xs)
    ∙ ap (λ (l : List ℕ). x.id ∷ l) (ids_shown items xs (clip_after x.func x.id clip) (mask_after x.func x.id mask))

picture_up : (items : List Item) → is_ascending items ≡ true → strictly_ascends_from 0 (ids (map shown_by (picture_of items))) ≡ true
picture_up items up = ap (strictly_ascends_from 0) (ids_shown items (shown_afresh items) None None) ∙ shown_up 0 _ items (marks_of items).unmasked 0 up

pub twice_alike : TwiceAlike
twice_alike before now up up' =
    let a = map shown_by (picture_of before) in
    let b = map shown_by (picture_of now) in
    let s = stays (members a) (members b) in
    let t = stays (members b) (members a) in
    same (s && t) (all_same a b)
    (λ h. twice a b 0 (picture_up before up) (picture_up now up') (left s t h) (right s t h))
    (λ h. both s t (alike_stays a b h) (alike_stays b a (alike_back a b h)))
