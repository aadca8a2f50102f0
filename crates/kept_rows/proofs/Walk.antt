-- The walk over both rows meets the layers whose words differ, and no other. Assumes nothing.
use Rattle.std.specs.Prelude.{◌≡◌, ◌||◌, ◌∷◌, ◌%◌, ◌^◌, ◌≤◌, ◌<◌}
use Rattle.laws.proofs.Prelude.{refl, sym, ap, ◌∙◌, Bool, true, false, cond, false≢true, List, [], map, ⊎_elim, ℕ}
use Rattle.laws.proofs.Prelude.{arith, eqb-true, eqb-false, eq-eqb, ne_eqb, ltb-true, ltb-false, leb-true, le-leb, eqb, ltb, leb, get_or}
use Rattle.laws.proofs.Prelude.{drop, any, both, left, right, either}
use Rattle.pixel_segment.specs.Field.{cpu, layer_id_of}
use Rattle.pixel_segment.specs.Order.{order_key}
use Rattle.segment_rows.specs.Rows.{ascends_from}
use Rattle.kept_rows.specs.Since.{layer_words}
use Rattle.kept_rows.specs.Walk.{differing, is_differing, WalkSound, WalkExact}

no_left : (a b : Bool) → (a || b) ≡ false → a ≡ false
no_left true b e = e
no_left false b e = refl

no_right : (a b : Bool) → (a || b) ≡ false → b ≡ false
no_right true b e = absurd (false≢true (sym e))
no_right false b e = e

neither : (a b : Bool) → a ≡ false → b ≡ false → (a || b) ≡ false
neither true b e h = e
neither false b e h = h

abbrev layer : ℕ → ℕ
layer w = layer_id_of cpu w

abbrev key : ℕ → ℕ
key w = order_key cpu w

-- a word of the layer, and one of another
own : (id w : ℕ) (ws : List ℕ) → eqb id (layer w) ≡ true → layer_words id (w ∷ ws) ≡ w ∷ layer_words id ws
own id w ws e = rw (eq-eqb (layer w) id (sym (eqb-true id (layer w) e))) refl

other : (id w : ℕ) (ws : List ℕ) → eqb id (layer w) ≡ false → layer_words id (w ∷ ws) ≡ layer_words id ws
other id w ws e = rw (ne_eqb (layer w) id (λ q. eqb-false id (layer w) e (sym q))) refl

none_of : (id : ℕ) (ws : List ℕ) → any (eqb id) (map layer ws) ≡ false → layer_words id ws ≡ []
none_of id [] e = refl
none_of id (w ∷ ws) e =
    other id w ws (no_left (eqb id (layer w)) (any (eqb id) (map layer ws)) e) ∙ none_of id ws (no_right (eqb id (layer w)) (any (eqb id) (map layer ws)) e)

longer : (id x : ℕ) (xs ys : List ℕ) → layer_words id xs ≡ layer_words id ys → layer_words id (x ∷ xs) ≡ layer_words id (x ∷ ys)
longer id x xs ys e = by (eqb (layer x) id)
  where
    by : (t : Bool) → cond t (x ∷ layer_words id xs) (layer_words id xs) ≡ cond t (x ∷ layer_words id ys) (layer_words id ys)
    by true = ap (λ (l : List ℕ). x ∷ l) e
    by false = e

pub walk_sound : WalkSound
unfolding differing
walk_sound [] ys id e = sym (none_of id ys e)
walk_sound (x ∷ xs) [] id e = none_of id (x ∷ xs) e
walk_sound (x ∷ xs) (y ∷ ys) id e = by (eqb x y) refl (ltb (key x) (key y)) (ltb (key y) (key x)) e (walk_sound xs ys id) (walk_sound xs (y ∷ ys) id) (walk_sound (x ∷ xs) ys id)
  where
    by : (a : Bool) → eqb x y ≡ a → (b c : Bool)
        → any (eqb id) (cond a (differing xs ys) (cond b (layer_id_of cpu x ∷ differing xs (y ∷ ys)) (cond c (layer_id_of cpu y ∷ differing (x ∷ xs) ys) (layer_id_of cpu x ∷ layer_id_of cpu y ∷ differing xs ys)))) ≡ false
        → (is_differing xs ys id ≡ false → layer_words id xs ≡ layer_words id ys)
        → (is_differing xs (y ∷ ys) id ≡ false → layer_words id xs ≡ layer_words id (y ∷ ys))
        → (is_differing (x ∷ xs) ys id ≡ false → layer_words id (x ∷ xs) ≡ layer_words id ys)
        → layer_words id (x ∷ xs) ≡ layer_words id (y ∷ ys)
    by true q b c h r1 r2 r3 = longer id x xs ys (r1 h) ∙ ap (λ (w : ℕ). layer_words id (w ∷ ys)) (eqb-true x y q)
    by false q true c h r1 r2 r3 =
        other id x xs (no_left (eqb id (layer x)) (is_differing xs (y ∷ ys) id) h) ∙ r2 (no_right (eqb id (layer x)) (is_differing xs (y ∷ ys) id) h)
    by false q false true h r1 r2 r3 =
        r3 (no_right (eqb id (layer y)) (is_differing (x ∷ xs) ys id) h) ∙ sym (other id y ys (no_left (eqb id (layer y)) (is_differing (x ∷ xs) ys id) h))
    by false q false false h r1 r2 r3 =
        let rest = no_right (eqb id (layer x)) (eqb id (layer y) || is_differing xs ys id) h in
        other id x xs (no_left (eqb id (layer x)) (eqb id (layer y) || is_differing xs ys id) h)
        ∙ r1 (no_right (eqb id (layer y)) (is_differing xs ys id) rest)
        ∙ sym (other id y ys (no_left (eqb id (layer y)) (is_differing xs ys id) rest))

-- ---- no other is met

abbrev filled : List ℕ → Bool
filled [] = false
filled (v ∷ vs) = true

not_filled : (w : ℕ) (rest : List ℕ) → [] ≡ w ∷ rest → ⊥
not_filled w rest q = false≢true (ap filled q)

-- the first word of the layer is not below the bound
first_up : (id k : ℕ) (ws : List ℕ) (w : ℕ) (rest : List ℕ) → ascends_from (order_key cpu) k ws ≡ true → layer_words id ws ≡ w ∷ rest → k ≤ key w
unfolding ascends_from
first_up id k [] w rest up e = absurd (not_filled w rest e)
first_up id k (v ∷ ws) w rest up e =
    let head = leb-true k (key v) (left (leb k (key v)) (ascends_from (order_key cpu) (key v) ws) up) in
    let tail = right (leb k (key v)) (ascends_from (order_key cpu) (key v) ws) up in
    ⊎_elim
    (λ q.
    let same : v ≡ w = ap (λ (l : List ℕ). get_or l 0 0) (sym (own id v ws q) ∙ e) in
    omega (arith, head, ap (order_key cpu) same))
    (λ q. omega (arith, head, first_up id (key v) ws w rest tail (sym (other id v ws q) ∙ e)))
    (either (eqb id (layer v)))

-- so a word that comes before all of another list is not of a layer that agrees
ahead : (id x : ℕ) (xs ys : List ℕ) (k : ℕ) → ascends_from (order_key cpu) k ys ≡ true → key x < k → layer_words id (x ∷ xs) ≡ layer_words id ys
    → eqb id (layer x) ≡ false
ahead id x xs ys k up p e =
    ⊎_elim (λ q. absurd (omega (arith, p, first_up id k ys x (layer_words id xs) up (sym e ∙ own id x xs q)))) (λ q. q) (either (eqb id (layer x)))

none_back : (id : ℕ) (ws : List ℕ) → layer_words id ws ≡ [] → any (eqb id) (map layer ws) ≡ false
none_back id [] e = refl
none_back id (w ∷ ws) e =
    ⊎_elim
    (λ q. absurd (not_filled w (layer_words id ws) (sym e ∙ own id w ws q)))
    (λ q. neither (eqb id (layer w)) (any (eqb id) (map layer ws)) q (none_back id ws (sym (other id w ws q) ∙ e)))
    (either (eqb id (layer w)))

rest_same : (id x : ℕ) (xs ys : List ℕ) → layer_words id (x ∷ xs) ≡ layer_words id (x ∷ ys) → layer_words id xs ≡ layer_words id ys
rest_same id x xs ys e = by (eqb (layer x) id) e
  where
    by : (t : Bool) → cond t (x ∷ layer_words id xs) (layer_words id xs) ≡ cond t (x ∷ layer_words id ys) (layer_words id ys) → layer_words id xs ≡ layer_words id ys
    by true q = ap (λ (l : List ℕ). drop 1 l) q
    by false q = q

exact : (xs ys : List ℕ) (id kx ky : ℕ) → ascends_from (order_key cpu) kx xs ≡ true → ascends_from (order_key cpu) ky ys ≡ true
    → layer_words id xs ≡ layer_words id ys → is_differing xs ys id ≡ false
unfolding differing ascends_from
exact [] ys id kx ky ux uy e = none_back id ys (sym e)
exact (x ∷ xs) [] id kx ky ux uy e = none_back id (x ∷ xs) e
exact (x ∷ xs) (y ∷ ys) id kx ky ux uy e =
    let tx = right (leb kx (key x)) (ascends_from (order_key cpu) (key x) xs) ux in
    let ty = right (leb ky (key y)) (ascends_from (order_key cpu) (key y) ys) uy in
    let fx : ascends_from (order_key cpu) (key x) (x ∷ xs) ≡ true = both (leb (key x) (key x)) (ascends_from (order_key cpu) (key x) xs) (le-leb (key x) (key x) (omega arith)) tx in
    let fy : ascends_from (order_key cpu) (key y) (y ∷ ys) ≡ true = both (leb (key y) (key y)) (ascends_from (order_key cpu) (key y) ys) (le-leb (key y) (key y) (omega arith)) ty in
    by (eqb x y) refl (ltb (key x) (key y)) refl (ltb (key y) (key x)) refl fx fy
    (exact xs ys id (key x) (key y) tx ty) (exact xs (y ∷ ys) id (key x) (key y) tx fy) (exact (x ∷ xs) ys id (key x) (key y) fx ty)
  where
    by : (a : Bool) → eqb x y ≡ a → (b : Bool) → ltb (key x) (key y) ≡ b → (c : Bool) → ltb (key y) (key x) ≡ c
        → ascends_from (order_key cpu) (key x) (x ∷ xs) ≡ true
        → ascends_from (order_key cpu) (key y) (y ∷ ys) ≡ true
        → (layer_words id xs ≡ layer_words id ys → is_differing xs ys id ≡ false)
        → (layer_words id xs ≡ layer_words id (y ∷ ys) → is_differing xs (y ∷ ys) id ≡ false)
        → (layer_words id (x ∷ xs) ≡ layer_words id ys → is_differing (x ∷ xs) ys id ≡ false)
        → any (eqb id) (cond a (differing xs ys) (cond b (layer_id_of cpu x ∷ differing xs (y ∷ ys)) (cond c (layer_id_of cpu y ∷ differing (x ∷ xs) ys) (layer_id_of cpu x ∷ layer_id_of cpu y ∷ differing xs ys)))) ≡ false
    by true q b p c s fx fy r1 r2 r3 = r1 (rest_same id x xs ys (e ∙ ap (λ (w : ℕ). layer_words id (w ∷ ys)) (sym (eqb-true x y q))))
    by false q true p c s fx fy r1 r2 r3 =
        let no = ahead id x xs (y ∷ ys) (key y) fy (ltb-true (key x) (key y) p) e in
        neither (eqb id (layer x)) (is_differing xs (y ∷ ys) id) no (r2 (sym (other id x xs no) ∙ e))
    by false q false p true s fx fy r1 r2 r3 =
        let no = ahead id y ys (x ∷ xs) (key x) fx (ltb-true (key y) (key x) s) (sym e) in
        neither (eqb id (layer y)) (is_differing (x ∷ xs) ys id) no (r3 (e ∙ other id y ys no))
    by false q false p false s fx fy r1 r2 r3 =
        let keys : key x ≡ key y = omega (arith, ltb-false (key x) (key y) p, ltb-false (key y) (key x) s) in
        let layers : layer x ≡ layer y = ap (λ (k : ℕ). k % 2 ^ 21) keys in
        let no : eqb id (layer x) ≡ false = ⊎_elim
        (λ t.
        let same : x ≡ y = ap (λ (l : List ℕ). get_or l 0 0) (sym (own id x xs t) ∙ e ∙ own id y ys (ap (eqb id) (sym layers) ∙ t)) in
        absurd (eqb-false x y q same))
        (λ t. t)
        (either (eqb id (layer x))) in
        let no' : eqb id (layer y) ≡ false = ap (eqb id) (sym layers) ∙ no in
        neither (eqb id (layer x)) (eqb id (layer y) || is_differing xs ys id) no
        (neither (eqb id (layer y)) (is_differing xs ys id) no' (r1 (sym (other id x xs no) ∙ e ∙ other id y ys no')))

pub walk_exact : WalkExact
walk_exact xs ys id ux uy e = exact xs ys id 0 0 ux uy e
