-- The laws of standing records. Together `ascending`, `given_one`, `highest`, `nothing_lost` and `withdrawn` determine the table (`only_one`).
-- Assumes nothing.
use Rattle.std.specs.Prelude.{◌≡◌, ◌∷◌, ◌++◌, ◌≤◌, ◌<◌}
use Rattle.laws.proofs.Prelude.{refl, sym, ap, ◌∙◌, Bool, true, false, cond, inr, ⊎_elim, List, [], ℕ, suc, arith, le-leb}
use Rattle.laws.proofs.Prelude.{leb, Float, any, filter, both, clash, length_tabulate, get_d_tabulate}
use Rattle.refusals.proofs.Judging.{or_right}
use Rattle.styling.specs.Ascending.{strictly_ascends_from, strictly_ascends}
use Rattle.styling.proofs.Ascents.{ascends_head, ascends_tail, ascends_weaken}
use Rattle.revision_statements.specs.Sent.{Sent, id_of, has_properties, sent_at, sent_room, first_sent, sent_of}
use Rattle.revision_statements.specs.Standing.{latest_in, standing_of, sent_ids}
use Rattle.revision_statements.specs.Verdict.{is_twin, has_twins}
use Rattle.revision_statements.specs.Laws.{Among, Highest, Stood, Reordered, Given}
use Rattle.revision_statements.proofs.Adding.{latest_ascends}
use Rattle.revision_statements.proofs.Stood.{Place, at, place, no_twins, stood, stands}
use Rattle.revision_statements.proofs.Orders.{turned, moved, reordered_among, reordered_twins, same_records}

-- ---- ids ascending

filter_ascends : (p : Sent → Bool) (low : ℕ) (ss : List Sent) → strictly_ascends_from low (sent_ids ss) ≡ true → strictly_ascends_from low (sent_ids (filter p ss)) ≡ true
unfolding strictly_ascends_from
filter_ascends p low [] h = refl
filter_ascends p low (s ∷ ss) h = by (p s) (filter_ascends p (suc (id_of s)) ss (ascends_tail low (id_of s) (sent_ids ss) h))
  where
    head : low ≤ id_of s
    head = ascends_head low (id_of s) (sent_ids ss) h

    by : (b : Bool) → strictly_ascends_from (suc (id_of s)) (sent_ids (filter p ss)) ≡ true → strictly_ascends_from low (sent_ids (cond b (s ∷ filter p ss) (filter p ss))) ≡ true
    by true rest = both (leb low (id_of s)) (strictly_ascends_from (suc (id_of s)) (sent_ids (filter p ss))) (le-leb low (id_of s) head) rest
    by false rest = ascends_weaken (suc (id_of s)) low (sent_ids (filter p ss)) (omega (arith, head)) rest

pub ascending : (ss : List Sent) → strictly_ascends (sent_ids (standing_of ss)) ≡ true
unfolding standing_of
ascending ss = filter_ascends has_properties 0 (latest_in ss) (latest_ascends ss)

-- ---- every entry is one of the records given: which one, by its place

pub given_one : (records : List ℕ) (floats : List Float) (s : Sent) → Among s (standing_of (sent_of records floats)) → Given records floats s
unfolding first_sent
given_one records floats s a = by (place s (sent_of records floats) (stood s (sent_of records floats) a).among)
  where
    n : ℕ
    n = sent_room records floats

    by : Place s (sent_of records floats) → Given records floats s
    by (at i h e) =
        let within : i < n = omega (arith, length_tabulate n (sent_at records floats)) in
        Given.sent i within (sym (get_d_tabulate n (sent_at records floats) s i within) ∙ e)

-- ---- of each layer the highest revision stands; a withdrawal that stands leaves the layer out

pub highest : (s : Sent) (ss : List Sent) → Among s (standing_of ss) → Highest s ss
highest s ss a = (stood s ss a).highest

pub nothing_lost : (s : Sent) (ss : List Sent) → has_twins ss ≡ false → Among s ss → Highest s ss → has_properties s ≡ true → Among s (standing_of ss)
nothing_lost s ss h a k p = stands s ss h (record { among = a; highest = k; properties = p })

pub withdrawn : (s : Sent) (ss : List Sent) → has_twins ss ≡ false → Among s ss → Highest s ss → has_properties s ≡ false → (t : Sent) → Among t (standing_of ss) → id_of t ≡ id_of s → ⊥
withdrawn s ss h a k p t b e =
    let w : Stood t ss = stood t ss b in
    let same : t ≡ s = no_twins t s ss h w.among a e (omega (arith, w.highest s a (sym e), k t w.among e)) in
    clash (rw same at w.properties) p

-- a list that says the same is the table
pub only_one : (ss ts : List Sent) → has_twins ss ≡ false → strictly_ascends (sent_ids ts) ≡ true → ((s : Sent) → Among s ts → Stood s ss) → ((s : Sent) → Stood s ss → Among s ts) → ts ≡ standing_of ss
only_one ss ts h a f g = same_records 0 ts (standing_of ss) a (ascending ss) (λ s b. stands s ss h (f s b)) (λ s b. g s (stood s ss b))

-- ---- in any order

reordered_stood : (s : Sent) {ss ts : List Sent} → Reordered ss ts → Stood s ss → Stood s ts
reordered_stood s r w =
    record { among = reordered_among s r w.among; highest = λ t a e. w.highest t (reordered_among t (turned r) a) e; properties = w.properties }

pub any_order : {ss ts : List Sent} → Reordered ss ts → has_twins ss ≡ false → standing_of ts ≡ standing_of ss
any_order {ss} {ts} r h =
    only_one ss (standing_of ts) h (ascending ts) (λ s a. reordered_stood s (turned r) (stood s ts a))
    (λ s w. stands s ts (sym (reordered_twins r) ∙ h) (reordered_stood s r w))

-- ---- a record of a lower revision than one that is there changes nothing, wherever it comes

sent_first : (s t : Sent) (ss : List Sent) → has_twins (s ∷ ss) ≡ false → Among t ss → id_of t ≡ id_of s → s.revision < t.revision → standing_of ss ≡ standing_of (s ∷ ss)
unfolding has_twins
sent_first s t ss h a e l =
    only_one (s ∷ ss) (standing_of ss) h (ascending ss) (λ u b. more u (stood u ss b)) (λ u w. stands u ss (or_right (any (is_twin s) ss) (has_twins ss) h) (fewer u w))
  where
    more : (u : Sent) → Stood u ss → Stood u (s ∷ ss)
    more u w =
        record {
          among = inr w.among;
          highest =
              λ v b q.
              ⊎_elim (λ (z : s ≡ v). omega (arith, w.highest t a (e ∙ ap id_of z ∙ q), ap (λ (x : Sent). x.revision) z)) (λ (z : Among v ss). w.highest v z q) b;
          properties = w.properties;
        }

    fewer : (u : Sent) → Stood u (s ∷ ss) → Stood u ss
    fewer u w =
        record {
          among =
              ⊎_elim (λ (z : s ≡ u). absurd (omega (arith, w.highest t (inr a) (e ∙ ap id_of z), ap (λ (x : Sent). x.revision) z))) (λ (z : Among u ss). z)
              w.among;
          highest = λ v b q. w.highest v (inr b) q;
          properties = w.properties;
        }

pub sent_again : (s t : Sent) (xs ys : List Sent) → has_twins (xs ++ (s ∷ ys)) ≡ false → Among t (xs ++ ys) → id_of t ≡ id_of s → s.revision < t.revision → standing_of (xs ++ (s ∷ ys)) ≡ standing_of (xs ++ ys)
sent_again s t xs ys h a e l =
    let single : has_twins (s ∷ (xs ++ ys)) ≡ false = reordered_twins (moved s xs ys) ∙ h in
    any_order (moved s xs ys) single ∙ sym (sent_first s t (xs ++ ys) single a e l)
