-- A clip as the second pass comes to it: what it is judged by. It stays where another clip comes before a layer past its end, or a clipped draw
-- within its span; what is full is masked off at once. Assumes nothing.
use Rattle.std.specs.Prelude.{◌≡◌, ◌&&◌, ◌||◌, ◌∷◌, ◌+◌, ◌≤◌, ◌<◌, Option, Some}
use Rattle.laws.proofs.Prelude.{refl, sym, ap, ◌∙◌, Bool, true, false, not, false≢true, and-true, and-false, List, [], ℕ, zero}
use Rattle.laws.proofs.Prelude.{suc, not-suc-le-zero, le_of_suc-le-suc, add-suc, suc-add, arith, le-leb, lt-leb, leb, length, get_or}
use Rattle.laws.proofs.Prelude.{set, drop, get_or-set_same}
use Rattle.styling.specs.Style.{is_clipped_of}
use Rattle.pass_statements.specs.declared.Index.{Index}
use Rattle.pass_statements.specs.declared.item.Item.{Item}
use Rattle.pass_statements.specs.declared.clips.ActiveClip.{ActiveClip}
use Rattle.pass_statements.specs.declared.clips.Step.{Step}
use Rattle.pass_statements.specs.Clips.{place, is_clip, step_of, mask_off, unmasked_after, clips_from}
use Rattle.pass_statements.specs.Covered.{item_at}
use Rattle.pass_statements.specs.Rules.{last_reached, meets_clip}
use Rattle.pass_statements.proofs.Turns.{opened, kept, Turn, opens, bare, past, within, turn}
use Rattle.pass_statements.proofs.Clipping.{Below, below_up, behind, at_kept, length_off, length_after}
use Rattle.pass_statements.proofs.Marks.{below_apart, after_other, off_other, off_own, unmasked_before}

-- going up from the lowest of these layers, a clipped draw comes before any clip and before any layer past the id `last`
unfoldable pub meets_user : ℕ → List Item → Bool
meets_user last [] = false
meets_user last (x ∷ xs) = not (is_clip x.func) && (leb x.id last && (is_clipped_of x.func || meets_user last xs))

-- the current clip k is not masked off by what is left of the pass
abbrev stays : ActiveClip → List Item → Bool
stays k ys = meets_clip k.last ys || (k.used || not k.full && meets_user k.last ys)

-- the rest of the pass after the turn t at place i
abbrev rest : List Item → ℕ → List Bool → List Bool → Step → ℕ → Bool
rest xs i s u t j = get_or (clips_from xs (suc i) t.cur (unmasked_after s i t) (set u i t.unclipped)).unmasked j false

-- place a of a clip that is current at place i, while the list ys is left
abbrev Left : List Item → ℕ → ActiveClip → List Bool → List Bool → ℕ → Type 0
Left ys i k s u a = get_or (clips_from ys i (Some k) s u).unmasked a false ≡ (get_or s a false && stays k ys)

last_kept : (clipped : Bool) (k : ActiveClip) → (kept clipped k).last ≡ k.last
last_kept true k = refl
last_kept false k = refl

full_kept : (clipped : Bool) (k : ActiveClip) → (kept clipped k).full ≡ k.full
full_kept true k = refl
full_kept false k = refl

-- a clip is masked off where it is not used
off_unused : (s : List Bool) (a : ℕ) (used : Bool) → a < length s → get_or (mask_off s a (not used)) a false ≡ (get_or s a false && used)
off_unused s a true h = sym (and-true (get_or s a false))
off_unused s a false h = get_or-set_same s a false false h ∙ sym (and-false (get_or s a false))

-- ---- the layer y that comes next

module _ (y : Item) (ys : List Item) (k : ActiveClip) where
  -- a clip
  stays_followed : is_clip y.func ≡ true → stays k (y ∷ ys) ≡ true
  unfolding meets_clip
  stays_followed c = rw c

  module _ (d : is_clip y.func ≡ false) where
    -- a draw past the end
    stays_past : k.last < y.id → stays k (y ∷ ys) ≡ k.used
    unfolding meets_clip meets_user
    stays_past h = rw (d, lt-leb y.id k.last h) (by k.used k.full)
      where
        by : (used full : Bool) → (used || not full && false) ≡ used
        by true full = refl
        by false true = refl
        by false false = refl

    -- a draw within the span
    stays_within : y.id ≤ k.last → stays k (y ∷ ys) ≡ stays (kept (is_clipped_of y.func) k) ys
    unfolding meets_clip meets_user
    stays_within h = rw (d, le-leb y.id k.last h) (by (is_clipped_of y.func))
      where
        used : (m t f u : Bool) → (m || (t || f && true)) ≡ (m || ((t || f) || f && u))
        used true t f u = refl
        used false true f u = refl
        used false false true u = refl
        used false false false u = refl

        by : (b : Bool) → (meets_clip k.last ys || (k.used || not k.full && (b || meets_user k.last ys))) ≡ stays (kept b k) ys
        by true = used (meets_clip k.last ys) k.used (not k.full) (meets_user k.last ys)
        by false = refl

-- a clip takes the place of the current one, which is left as it is
replaced : (y : Item) (ys : List Item) (span : ℕ) (k : ActiveClip) (i : ℕ) (s u : List Bool) (a : ℕ)
    → step_of y (Some k) i ≡ record { cur = Some (opened y span i); masked = y.full; unclipped = false; unused = false; at = place 0 } → a < i
    → get_or (clips_from (y ∷ ys) i (Some k) s u).unmasked a false ≡ get_or s a false
unfolding clips_from
replaced y ys span k i s u a e h =
    ap (λ (t : Step). rest ys i s u t a) e
    ∙ unmasked_before ys (suc i) (Some (opened y span i)) (mask_off s i y.full) (set u i false) a (omega arith) (λ q. omega arith)
    ∙ off_other s i a y.full (λ q. omega arith)

-- the current clip, while it waits to be judged
waits : (ys : List Item) (k : ActiveClip) (i : ℕ) (s u : List Bool) (a : ℕ) → k.at.0 ≡ a → a < i → a < length s → Left ys i k s u a
unfolding clips_from meets_clip meets_user
waits [] k i s u a e h l = rw e (off_unused s a k.used l ∙ ap (λ (t : Bool). get_or s a false && t) (by k.used k.full))
  where
    by : (used full : Bool) → used ≡ (used || not full && false)
    by true full = refl
    by false true = refl
    by false false = refl
waits (y ∷ ys) k i s u a e h l =
    by (λ k' v d. waits ys k' (suc i) s (set u i v) a d (omega arith) l) (turn y (Some k) i)
  where
    by : ((k' : ActiveClip) (v : Bool) → k'.at.0 ≡ a → Left ys (suc i) k' s (set u i v) a) → Turn y (Some k) i → Left (y ∷ ys) i k s u a
    by go (opens span f t) =
        replaced y ys span k i s u a t h
        ∙ sym (and-true (get_or s a false))
        ∙ ap (λ (t : Bool). get_or s a false && t) (sym (stays_followed y ys k (rw f)))
    by go (bare f q t) = let clash : ◌≡◌ {A = ℕ} 0 1 = cc in absurd (omega arith)
    by go (past k' f q m t) =
        let same : k ≡ k' = cc in
        let b = is_clipped_of y.func in
        ap (λ (z : Step). rest ys i s u z a) t
        ∙ unmasked_before ys (suc i) _ _ (set u i false) a (omega arith) (omega arith)
        ∙ ap (λ (z : ActiveClip). get_or (mask_off (mask_off s i b) z.at.0 (not z.used)) a false) (sym same)
        ∙ rw e (off_unused (mask_off s i b) a k.used (rw (length_off s i b) l))
        ∙ ap (λ (t : Bool). t && k.used) (off_other s i a b (λ z. omega arith))
        ∙ ap (λ (t : Bool). get_or s a false && t) (sym (stays_past y ys k f (rw (← same) at m)))
    by go (within k' f q m t) =
        let same : k ≡ k' = cc in
        let b = is_clipped_of y.func in
        ap (λ (z : Step). rest ys i s u z a) t
        ∙ ap (λ (z : ActiveClip). get_or (clips_from ys (suc i) (Some (kept b z)) s (set u i (b && z.full))).unmasked a false) (sym same)
        ∙ go (kept b k) (b && k.full) (ap (λ (z : Index). z.0) (at_kept b k) ∙ e)
        ∙ ap (λ (t : Bool). get_or s a false && t) (sym (stays_within y ys k f (rw (← same) at m)))

-- ---- the clip in place p, as the pass comes to it from place i

-- what a clip is judged by
abbrev pub judged_by : Item → List Item → Bool
judged_by c above = not c.full && (meets_clip (last_reached c.id c.func) above || meets_user (last_reached c.id c.func) above)

pub judged : (xs : List Item) (i : ℕ) (cur : Option ActiveClip) (s u : List Bool) (p j : ℕ) → Below cur i → p < length xs → is_clip (item_at xs p).func ≡ true
    → i + length xs ≤ length s → j ≡ i + p → get_or s j false ≡ true → get_or (clips_from xs i cur s u).unmasked j false ≡ judged_by (item_at xs p) (drop (suc p) xs)
unfolding clips_from
judged [] i cur s u p j b h c o e f = absurd (not-suc-le-zero h)
judged (x ∷ xs) i cur s u zero j b h c o e f = by (turn x cur i)
  where
    here : j ≡ i
    here = omega arith

    never : is_clip x.func ≡ false → ⊥
    never d = false≢true (sym d ∙ c)

    full : (f m u : Bool) → (not f && (m || (false || not f && u))) ≡ (not f && (m || u))
    full true m u = refl
    full false m u = refl

    by : Turn x cur i → get_or (clips_from (x ∷ xs) i cur s u).unmasked j false ≡ judged_by x xs
    by (opens span g t) =
        let k = opened x span i in
        let reach : last_reached x.id x.func ≡ x.id + span = rw g in
        let room : i < length s = omega arith in
        let fresh : get_or (mask_off s i x.full) j false ≡ not x.full = rw here (off_own s i x.full room (rw here at f)) in
        ap (λ (z : Step). rest xs i s u z j) t
        ∙ waits xs k (suc i) (mask_off s i x.full) (set u i false) j (sym here) (omega arith) (rw (length_off s i x.full) (omega arith))
        ∙ ap (λ (t : Bool). t && stays k xs) fresh
        ∙ rw reach (full x.full (meets_clip (x.id + span) xs) (meets_user (x.id + span) xs))
    by (bare g r t) = absurd (never g)
    by (past k g r m t) = absurd (never g)
    by (within k g r m t) = absurd (never g)
judged (x ∷ xs) i cur s u (suc p) j b h c o e f =
    let step = step_of x cur i in
    judged xs (suc i) step.cur (unmasked_after s i step) (set u i step.unclipped) p j (behind x cur i (suc i) (below_up cur i b) (omega arith)).current (le_of_suc-le-suc h) c
    (rw (length_after s i step) (omega (arith, add-suc i (length xs), suc-add i (length xs))))
    (omega (arith, add-suc i p, suc-add i p))
    (after_other x cur i j s (below_apart cur i j b (omega (arith, add-suc i p))) (λ y. omega (arith, add-suc i p)) ∙ f)
