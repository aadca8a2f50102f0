-- A clip that some listed draw uses, by the latest clips of the draws: in an ascending list that is a clipped draw which comes above the clip,
-- before another clip and before any layer past its end. Assumes nothing.
use Rattle.std.specs.Prelude.{◌≡◌, ◌&&◌, ◌||◌, ◌∷◌, ◌≤◌, ◌<◌}
use Rattle.laws.proofs.Prelude.{refl, ap, ap₂, ◌∙◌, Bool, true, false, cond, not, and-false, false≢true, List, [], map, Option}
use Rattle.laws.proofs.Prelude.{Some, None, ℕ, zero, suc, not-suc-le-zero, le_of_suc-le-suc, arith, eq-eqb, ne_eqb, lt-leb, leb-false, leb}
use Rattle.laws.proofs.Prelude.{length, drop, any, not_left, not_right}
use Rattle.styling.specs.Ascending.{strictly_ascends_from}
use Rattle.styling.specs.declared.Func.{Func}
use Rattle.styling.specs.declared.Func.TheVariants.{Draw, Clip}
use Rattle.styling.specs.Style.{is_clipped_of}
use Rattle.styling.proofs.Ascents.{ascends_head, ascends_tail}
use Rattle.pass_statements.specs.declared.item.Item.{Item}
use Rattle.pass_statements.specs.Clips.{is_clip}
use Rattle.pass_statements.specs.Covered.{item_at}
use Rattle.pass_statements.specs.Rules.{latest_clip, last_reached, is_latest, uses}
use Rattle.pass_statements.proofs.Under.{id_of, low_at, latest_past, latest_own}
use Rattle.pass_statements.proofs.Judged.{meets_user}

-- a clip is no clipped draw
pub clip_draws_not : (f : Func) → is_clip f ≡ true → is_clipped_of f ≡ false
clip_draws_not (Clip span) e = refl
clip_draws_not (Draw style) e = absurd (false≢true e)

-- tests that agree on ids from low on
any_same : (f g : Item → Bool) (low : ℕ) (xs : List Item) → strictly_ascends_from low (map id_of xs) ≡ true → ((x : Item) → low ≤ x.id → f x ≡ g x) → any f xs ≡ any g xs
any_same f g low [] a h = refl
any_same f g low (x ∷ xs) a h =
    let head : low ≤ x.id = ascends_head low x.id (map id_of xs) a in
    ap₂ ◌||◌ (h x head) (any_same f g (suc x.id) xs (ascends_tail low x.id (map id_of xs) a) (λ y q. h y (omega arith)))

module _ (c : Item) where
  -- some draw of xs uses c, where `found` is the latest clip below them
  abbrev used : Option Item → List Item → Bool
  used found xs = any (λ x. uses c (latest_clip xs x.id found) x) xs

  abbrev next : Item → Option Item → Option Item
  next x found = cond (is_clip x.func) (Some x) found

  used_step : (low : ℕ) (x : Item) (xs : List Item) (found : Option Item) → strictly_ascends_from low (map id_of (x ∷ xs)) ≡ true → used found (x ∷ xs) ≡ (uses c found x || used (next x found) xs)
  used_step low x xs found a =
      ap₂ ◌||◌ (ap (λ (o : Option Item). uses c o x) (latest_own low x xs found a))
      (any_same (λ y. uses c (latest_clip (x ∷ xs) y.id found) y) (λ y. uses c (latest_clip xs y.id (next x found)) y) (suc x.id) xs (ascends_tail low x.id (map id_of xs) a)
      (λ y q. ap (λ (o : Option Item). uses c o y) (latest_past x xs y.id found (omega arith))))

  -- a clip of another id, and a layer that is no clipped draw, do not count
  uses_not : (x : Item) (found : Option Item) → is_latest c found ≡ false → uses c found x ≡ false
  uses_not x found e = not_left _ _ (not_right (is_clipped_of x.func) (is_latest c found) e)

  uses_clip : (x : Item) (found : Option Item) → is_clip x.func ≡ true → uses c found x ≡ false
  uses_clip x found e = not_left _ _ (not_left (is_clipped_of x.func) (is_latest c found) (clip_draws_not x.func e))

  -- above c, under another clip
  used_other : (low : ℕ) (xs : List Item) (found : Option Item) → strictly_ascends_from low (map id_of xs) ≡ true → c.id < low → is_latest c found ≡ false → used found xs ≡ false
  used_other low [] found a h e = refl
  used_other low (x ∷ xs) found a h e =
      let head : low ≤ x.id = ascends_head low x.id (map id_of xs) a in
      used_step low x xs found a
      ∙ ap₂ ◌||◌ (uses_not x found e)
      (used_other (suc x.id) xs (next x found) (ascends_tail low x.id (map id_of xs) a) (omega arith) (by (is_clip x.func)))
    where
      by : (t : Bool) → is_latest c (cond t (Some x) found) ≡ false
      by true = ne_eqb x.id c.id (λ q. omega (arith, ascends_head low x.id (map id_of xs) a))
      by false = e

  -- past its end
  meets_past : (low : ℕ) (xs : List Item) → strictly_ascends_from low (map id_of xs) ≡ true → last_reached c.id c.func < low → meets_user (last_reached c.id c.func) xs ≡ false
  unfolding meets_user
  meets_past low [] a h = refl
  meets_past low (x ∷ xs) a h =
      rw (lt-leb x.id (last_reached c.id c.func) (omega (arith, ascends_head low x.id (map id_of xs) a))) (and-false (not (is_clip x.func)))

  -- above c, while it is the latest clip
  used_own : (low : ℕ) (xs : List Item) (found : Option Item) → strictly_ascends_from low (map id_of xs) ≡ true → c.id < low → is_latest c found ≡ true → used found xs ≡ meets_user (last_reached c.id c.func) xs
  unfolding meets_user
  used_own low [] found a h e = refl
  used_own low (x ∷ xs) found a h e =
      let tail = ascends_tail low x.id (map id_of xs) a in
      let higher : c.id < x.id = omega (arith, ascends_head low x.id (map id_of xs) a) in
      used_step low x xs found a ∙ by tail higher (used_own (suc x.id) xs found tail (omega arith) e) (is_clip x.func) refl
    where
      last : ℕ
      last = last_reached c.id c.func

      within : (clipped : Bool) (m : Bool) (t : Bool) → (t ≡ false → m ≡ false) → (clipped && true && t || m) ≡ (t && (clipped || m))
      within true m true q = refl
      within false m true q = refl
      within true m false q = q refl
      within false m false q = q refl

      by : strictly_ascends_from (suc x.id) (map id_of xs) ≡ true → c.id < x.id → used found xs ≡ meets_user last xs
          → (t : Bool) → is_clip x.func ≡ t → (uses c found x || used (cond t (Some x) found) xs) ≡ (not t && (leb x.id last && (is_clipped_of x.func || meets_user last xs)))
      by tail p rest true q = ap₂ ◌||◌ (uses_clip x found q) (used_other (suc x.id) xs (Some x) tail (omega arith) (ne_eqb x.id c.id (λ r. omega arith)))
      by tail p rest false q =
          ap (λ (t : Bool). uses c found x || t) rest
          ∙ rw e (within (is_clipped_of x.func) (meets_user last xs) (leb x.id last) (λ r. meets_past (suc x.id) xs tail (omega (arith, leb-false x.id last r))))

-- what was found stands below low
abbrev Lower : Option Item → ℕ → Type 0
Lower None low = 0 ≤ low
Lower (Some x) low = x.id < low

lower_not : (c : Item) (found : Option Item) (low : ℕ) → Lower found low → low ≤ c.id → is_latest c found ≡ false
lower_not c None low l h = refl
lower_not c (Some x) low l h = ne_eqb x.id c.id (λ q. omega arith)

-- the clip in place p of the list
pub used_at : (xs : List Item) (p low : ℕ) (found : Option Item) → strictly_ascends_from low (map id_of xs) ≡ true → Lower found low → p < length xs → is_clip (item_at xs p).func ≡ true
    → used (item_at xs p) found xs ≡ meets_user (last_reached (item_at xs p).id (item_at xs p).func) (drop (suc p) xs)
used_at [] p low found a l h e = absurd (not-suc-le-zero h)
used_at (x ∷ xs) zero low found a l h e =
    used_step x low x xs found a
    ∙ ap₂ ◌||◌ (uses_clip x x found e) (rw e (used_own x (suc x.id) xs (Some x) (ascends_tail low x.id (map id_of xs) a) (omega arith) (eq-eqb x.id x.id refl)))
used_at (x ∷ xs) (suc p) low found a l h e =
    let c = item_at xs p in
    let tail = ascends_tail low x.id (map id_of xs) a in
    let head : low ≤ x.id = ascends_head low x.id (map id_of xs) a in
    let higher : x.id < c.id = low_at (suc x.id) xs p tail (le_of_suc-le-suc h) in
    used_step c low x xs found a
    ∙ ap₂ ◌||◌ (uses_not c x found (lower_not c found low l (omega arith)))
    (used_at xs p (suc x.id) (next c x found) tail (by head (is_clip x.func)) (le_of_suc-le-suc h) e)
  where
    by : low ≤ x.id → (t : Bool) → Lower (cond t (Some x) found) (suc x.id)
    by q true = omega arith
    by q false = lift found l
      where
        lift : (o : Option Item) → Lower o low → Lower o (suc x.id)
        lift None m = omega arith
        lift (Some y) m = omega arith
