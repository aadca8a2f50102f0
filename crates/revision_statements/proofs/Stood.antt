-- Which records stand, said without the steps of adding: each is one of those given, the highest of its layer and no withdrawal (`stood`), and where
-- no two records of a layer have equal revisions every such record stands (`stands`). Assumes nothing.
use Rattle.std.specs.Prelude.{◌≡◌, ◌⊎◌, ◌∷◌, ◌≤◌, ◌<◌}
use Rattle.laws.proofs.Prelude.{refl, sym, ap, ◌∙◌, Bool, true, false, cond, inl, inr, ⊎_elim, ⊎_map, List, [], ℕ, suc}
use Rattle.laws.proofs.Prelude.{arith, eq-eqb, eqb, length, get_or, any, filter, both, clash}
use native.Mathlib.Nat.{le_antisymm}
use Rattle.refusals.proofs.Judging.{or_left, or_right}
use Rattle.styling.specs.Ascending.{strictly_ascends_from}
use Rattle.styling.proofs.Ascents.{ascends_head, ascends_tail}
use Rattle.revision_statements.specs.Sent.{Sent, id_of, has_properties}
use Rattle.revision_statements.specs.Standing.{higher_of, add_sent, add_sents, latest_in, standing_of, sent_ids}
use Rattle.revision_statements.specs.Verdict.{is_twin, has_twins}
use Rattle.revision_statements.specs.Laws.{Among, Highest, Stood}
use Rattle.revision_statements.proofs.Adding.{Order, equal, less, more, order, Higher, stays, yields, higher, add_there, add_before, add_after, latest_ascends}

-- ---- a record is one of a list

-- it stands at a place
pub data Place (s : Sent) (ss : List Sent) : Type 0 where
  at : (i : ℕ) → i < length ss → get_or ss i s ≡ s → Place s ss

pub place : (s : Sent) (ss : List Sent) → Among s ss → Place s ss
place s [] a = elim a [ ]
place s (t ∷ ts) (inl e) = at 0 (omega arith) e
place s (t ∷ ts) (inr a) = more (place s ts a)
  where
    more : Place s ts → Place s (t ∷ ts)
    more (at i h e) = at (suc i) (omega arith) e

-- those that a test keeps
pub among_kept : (p : Sent → Bool) (s : Sent) (ss : List Sent) → Among s (filter p ss) → Among s ss × (p s ≡ true)
among_kept p s [] a = elim a [ ]
among_kept p s (t ∷ ts) a = by (p t) refl a (among_kept p s ts)
  where
    by : (b : Bool) → p t ≡ b → Among s (cond b (t ∷ filter p ts) (filter p ts)) → (Among s (filter p ts) → Among s ts × (p s ≡ true)) → ((t ≡ s) ⊎ Among s ts) × (p s ≡ true)
    by true e (inl q) rest = (inl q, rw (← q) e)
    by true e (inr q) rest = (inr (rest q).0, (rest q).1)
    by false e q rest = (inr (rest q).0, (rest q).1)

pub kept_among : (p : Sent → Bool) (s : Sent) (ss : List Sent) → Among s ss → p s ≡ true → Among s (filter p ss)
kept_among p s [] a h = elim a [ ]
kept_among p s (t ∷ ts) (inl q) h = rw (q, h) (inl refl)
kept_among p s (t ∷ ts) (inr q) h = by (p t) (kept_among p s ts q h)
  where
    by : (b : Bool) → Among s (filter p ts) → Among s (cond b (t ∷ filter p ts) (filter p ts))
    by true a = inr a
    by false a = a

-- ---- a record added

-- nothing else comes in
among_added : (r s : Sent) (ts : List Sent) → Among r (add_sent s ts) → (s ≡ r) ⊎ Among r ts
unfolding add_sent
among_added r s [] a = a
among_added r s (t ∷ ts) a = by (among_added r s ts) (order (id_of t) (id_of s)) a
  where
    by : (Among r (add_sent s ts) → (s ≡ r) ⊎ Among r ts) → Order (id_of t) (id_of s) → Among r (add_sent s (t ∷ ts)) → (s ≡ r) ⊎ Among r (t ∷ ts)
    by rest (more l) q = rw (add_before s t ts l) at q
    by rest (less l) q = ⊎_elim (λ (e : t ≡ r). inr (inl e)) (λ (w : Among r (add_sent s ts)). ⊎_map (λ e. e) (λ v. inr v) (rest w)) (rw (add_after s t ts l) at q)
    by rest (equal e) q = ⊎_elim (taken (higher t s)) (λ (w : Among r ts). inr (inr w)) (rw (add_there s t ts e) at q)
      where
        taken : Higher t s → higher_of t s ≡ r → (s ≡ r) ⊎ Among r (t ∷ ts)
        taken (stays h w) z = inr (inl (sym w ∙ z))
        taken (yields h w) z = inl (sym w ∙ z)

-- a record, or one of its layer that is no lower, is there
pub data Topped (r : Sent) (ts : List Sent) : Type 0 where
  top : (t : Sent) → Among t ts → id_of t ≡ id_of r → r.revision ≤ t.revision → Topped r ts

topped_later : (r s : Sent) (ts : List Sent) → Topped r ts → Topped r (s ∷ ts)
topped_later r s ts (top t a e h) = top t (inr a) e h

-- the one that is added
topped_new : (s : Sent) (ts : List Sent) → Topped s (add_sent s ts)
unfolding add_sent
topped_new s [] = top s (inl refl) refl (omega arith)
topped_new s (t ∷ ts) = by (topped_new s ts) (order (id_of t) (id_of s))
  where
    by : Topped s (add_sent s ts) → Order (id_of t) (id_of s) → Topped s (add_sent s (t ∷ ts))
    by rest (more l) = rw (add_before s t ts l) (top s (inl refl) refl (omega arith))
    by rest (less l) = rw (add_after s t ts l) (topped_later s t (add_sent s ts) rest)
    by rest (equal e) = rw (add_there s t ts e) (taken (higher t s))
      where
        taken : Higher t s → Topped s (higher_of t s ∷ ts)
        taken (stays h w) = rw w (top t (inl refl) e h)
        taken (yields h w) = rw w (top s (inl refl) refl (omega arith))

-- one that was there
topped_old : (r s : Sent) (ts : List Sent) → Topped r ts → Topped r (add_sent s ts)
unfolding add_sent
topped_old r s ts (top u a p h) = found ts a
  where
    found : (ts : List Sent) → Among u ts → Topped r (add_sent s ts)
    found [] a = elim a [ ]
    found (t ∷ ts) a = by (found ts) (order (id_of t) (id_of s)) a
      where
        by : (Among u ts → Topped r (add_sent s ts)) → Order (id_of t) (id_of s) → (t ≡ u) ⊎ Among u ts → Topped r (add_sent s (t ∷ ts))
        by rest (more l) q = rw (add_before s t ts l) (top u (inr q) p h)
        by rest (less l) (inl q) = rw (add_after s t ts l) (top u (inl q) p h)
        by rest (less l) (inr q) = rw (add_after s t ts l) (topped_later r t (add_sent s ts) (rest q))
        by rest (equal e) (inr q) = rw (add_there s t ts e) (top u (inr q) p h)
        by rest (equal e) (inl q) = rw (add_there s t ts e) (taken (higher t s))
          where
            taken : Higher t s → Topped r (higher_of t s ∷ ts)
            taken (stays k w) = rw w (top t (inl refl) (ap id_of q ∙ p) (omega (arith, ap (λ (x : Sent). x.revision) q)))
            taken (yields k w) = rw w (top s (inl refl) (sym e ∙ ap id_of q ∙ p) (omega (arith, ap (λ (x : Sent). x.revision) q)))

-- ---- all records added

all_among : (r : Sent) (ss ts : List Sent) → Among r (add_sents ss ts) → Among r ss ⊎ Among r ts
unfolding add_sents
all_among r [] ts a = inr a
all_among r (s ∷ ss) ts a =
    ⊎_elim (λ (w : Among r ss). inl (inr w)) (λ (w : Among r (add_sent s ts)). ⊎_map (λ (e : s ≡ r). inl e) (λ (v : Among r ts). v) (among_added r s ts w))
    (all_among r ss (add_sent s ts) a)

all_topped : (r : Sent) (ss ts : List Sent) → Topped r ts → Topped r (add_sents ss ts)
unfolding add_sents
all_topped r [] ts t = t
all_topped r (s ∷ ss) ts t = all_topped r ss (add_sent s ts) (topped_old r s ts t)

sent_topped : (r : Sent) (ss ts : List Sent) → Among r ss → Topped r (add_sents ss ts)
unfolding add_sents
sent_topped r [] ts a = elim a [ ]
sent_topped r (s ∷ ss) ts (inl e) = all_topped r ss (add_sent s ts) (rw e (topped_new r ts))
sent_topped r (s ∷ ss) ts (inr a) = sent_topped r ss (add_sent s ts) a

pub latest_among : (r : Sent) (ss : List Sent) → Among r (latest_in ss) → Among r ss
latest_among r ss a = ⊎_elim (λ (w : Among r ss). w) (λ (w : Among r []). absurd w) (all_among r ss [] a)

-- ---- one record for each layer, and one for each layer and revision

pub among_low : (low : ℕ) (s : Sent) (ts : List Sent) → strictly_ascends_from low (sent_ids ts) ≡ true → Among s ts → low ≤ id_of s
among_low low s [] h a = elim a [ ]
among_low low s (t ∷ ts) h (inl e) = rw (← e) (ascends_head low (id_of t) (sent_ids ts) h)
among_low low s (t ∷ ts) h (inr a) =
    omega (arith, ascends_head low (id_of t) (sent_ids ts) h, among_low (suc (id_of t)) s ts (ascends_tail low (id_of t) (sent_ids ts) h) a)

one_of_layer : (low : ℕ) (a b : Sent) (ts : List Sent) → strictly_ascends_from low (sent_ids ts) ≡ true → Among a ts → Among b ts → id_of a ≡ id_of b → a ≡ b
one_of_layer low a b [] h i _ e = elim i [ ]
one_of_layer low a b (t ∷ ts) h (inl p) (inl q) e = sym p ∙ q
one_of_layer low a b (t ∷ ts) h (inl p) (inr q) e =
    absurd (omega (arith, ap id_of p, e, among_low (suc (id_of t)) b ts (ascends_tail low (id_of t) (sent_ids ts) h) q))
one_of_layer low a b (t ∷ ts) h (inr p) (inl q) e =
    absurd (omega (arith, ap id_of q, e, among_low (suc (id_of t)) a ts (ascends_tail low (id_of t) (sent_ids ts) h) p))
one_of_layer low a b (t ∷ ts) h (inr p) (inr q) e = one_of_layer (suc (id_of t)) a b ts (ascends_tail low (id_of t) (sent_ids ts) h) p q e

is_twin_lem : (s t : Sent) → id_of t ≡ id_of s → t.revision ≡ s.revision → is_twin s t ≡ true
is_twin_lem s t p q = both (eqb (id_of t) (id_of s)) (eqb t.revision s.revision) (eq-eqb (id_of t) (id_of s) p) (eq-eqb t.revision s.revision q)

no_twin : (s t : Sent) (ts : List Sent) → any (is_twin s) ts ≡ false → Among t ts → is_twin s t ≡ false
no_twin s t [] h a = elim a [ ]
no_twin s t (u ∷ us) h (inl e) = rw (← e) (or_left (is_twin s u) (any (is_twin s) us) h)
no_twin s t (u ∷ us) h (inr a) = no_twin s t us (or_right (is_twin s u) (any (is_twin s) us) h) a

pub no_twins : (a b : Sent) (ss : List Sent) → has_twins ss ≡ false → Among a ss → Among b ss → id_of a ≡ id_of b → a.revision ≡ b.revision → a ≡ b
unfolding has_twins
no_twins a b [] h i _ e r = elim i [ ]
no_twins a b (s ∷ ss) h (inl p) (inl q) e r = sym p ∙ q
no_twins a b (s ∷ ss) h (inl p) (inr q) e r =
    absurd (clash (is_twin_lem s b (sym e ∙ sym (ap id_of p)) (sym r ∙ sym (ap (λ (x : Sent). x.revision) p))) (no_twin s b ss (or_left (any (is_twin s) ss) (has_twins ss) h) q))
no_twins a b (s ∷ ss) h (inr p) (inl q) e r =
    absurd (clash (is_twin_lem s a (e ∙ sym (ap id_of q)) (r ∙ sym (ap (λ (x : Sent). x.revision) q))) (no_twin s a ss (or_left (any (is_twin s) ss) (has_twins ss) h) p))
no_twins a b (s ∷ ss) h (inr p) (inr q) e r = no_twins a b ss (or_right (any (is_twin s) ss) (has_twins ss) h) p q e r

-- ---- of each layer the highest

pub latest_highest : (s : Sent) (ss : List Sent) → Among s (latest_in ss) → Highest s ss
latest_highest s ss a t b e = by (sent_topped t ss [] b)
  where
    by : Topped t (latest_in ss) → t.revision ≤ s.revision
    by (top u k p h) =
        let same : u ≡ s = one_of_layer 0 u s (latest_in ss) (latest_ascends ss) k a (p ∙ e) in
        omega (arith, h, ap (λ (x : Sent). x.revision) same)

pub latest_has : (s : Sent) (ss : List Sent) → has_twins ss ≡ false → Among s ss → Highest s ss → Among s (latest_in ss)
latest_has s ss h a k = by (sent_topped s ss [] a)
  where
    by : Topped s (latest_in ss) → Among s (latest_in ss)
    by (top u b p l) =
        let given : Among u ss = latest_among u ss b in
        let same : u ≡ s = no_twins u s ss h given a p (le_antisymm (k u given p) l) in
        rw (← same) b

-- ---- which stand

pub stood : (s : Sent) (ss : List Sent) → Among s (standing_of ss) → Stood s ss
unfolding standing_of
stood s ss a =
    let kept = among_kept has_properties s (latest_in ss) a in
    record { among = latest_among s ss kept.0; highest = latest_highest s ss kept.0; properties = kept.1 }

pub stands : (s : Sent) (ss : List Sent) → has_twins ss ≡ false → Stood s ss → Among s (standing_of ss)
unfolding standing_of
stands s ss h w = kept_among has_properties s (latest_in ss) (latest_has s ss h w.among w.highest) w.properties
