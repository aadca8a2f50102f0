-- The written table passes 1 and 4 at its count, and its layers are those of the standing records: 'demands on rows begin from that table'.
-- Assumes nothing.
use Rattle.std.specs.Prelude.{◌≡◌, ◌&&◌, ◌∷◌, ◌++◌, ◌+◌, ◌*◌, ◌<◌}
use Rattle.laws.proofs.Prelude.{refl, sym, ap, ap₂, ◌∙◌, Bool, true, false, inl, inr, List, [], map, ℕ, zero, suc}
use Rattle.laws.proofs.Prelude.{add-zero, le_of_suc-le-suc, not-suc-le-zero, arith, le-ltb, Float, nan, length, get_or, drop, length-map}
use Rattle.laws.proofs.Prelude.{List·getD-map, get_or-drop, drop-cons, given, tabulate, all, over, both, left, right, is_tabulate, length_over}
use Rattle.refusals.specs.Refusal.{Judgement, pass, refuse}
use Rattle.styling.specs.Ascending.{strictly_ascends}
use Rattle.layer_table.specs.Record.{in_range, layer_of}
use Rattle.layer_table.specs.Table.{words_at, color_at, layer_at, table_of, table_room, is_table_short, is_valid, is_table}
use Rattle.revision_statements.specs.Sent.{Sent, has_properties, is_good, sent_at, sent_of}
use Rattle.revision_statements.specs.Standing.{standing_of}
use Rattle.revision_statements.specs.Verdict.{stand_verdict, words_in, floats_in, Stands}
use Rattle.revision_statements.specs.Laws.{Among, sent_layer, Begins}
use Rattle.revision_statements.proofs.Walking.{length_words, length_floats}
use Rattle.revision_statements.proofs.Verdicts.{Passed, passes}
use Rattle.revision_statements.proofs.Stood.{stood}
use Rattle.revision_statements.proofs.Laws.{ascending}

-- ---- an entry of the written table

-- eight words and four floats are one entry
drop_words : (ss : List Sent) (rest : List ℕ) (i : ℕ) → i < length ss → drop (8 * i) (words_in ss ++ rest) ≡ words_in (drop i ss) ++ rest
unfolding words_in
drop_words [] rest i h = absurd (not-suc-le-zero h)
drop_words (s ∷ ss) rest zero h = refl
drop_words (s ∷ ss) rest (suc i) h =
    let place : 8 * suc i ≡ suc (suc (suc (suc (suc (suc (suc (suc (8 * i)))))))) = omega arith in
    rw place (drop_words ss rest i (le_of_suc-le-suc h))

drop_floats : (ss : List Sent) (rest : List Float) (i : ℕ) → i < length ss → drop (4 * i) (floats_in ss ++ rest) ≡ floats_in (drop i ss) ++ rest
unfolding floats_in
drop_floats [] rest i h = absurd (not-suc-le-zero h)
drop_floats (s ∷ ss) rest zero h = refl
drop_floats (s ∷ ss) rest (suc i) h =
    let place : 4 * suc i ≡ suc (suc (suc (suc (4 * i)))) = omega arith in
    rw place (drop_floats ss rest i (le_of_suc-le-suc h))

-- what stands k further on from a place
on {ℓ} : {A : Type ℓ} (l m : List A) (a k : ℕ) (d : A) → drop a l ≡ m → get_or l (a + k) d ≡ get_or m k d
on {A} l m a k d e = sym (get_or-drop a l k d) ∙ ap (λ (r : List A). get_or r k d) e

words_of : (l : List ℕ) (i : ℕ) (s : Sent) (ss : List Sent) (rest : List ℕ) → drop (8 * i) l ≡ words_in (s ∷ ss) ++ rest → words_at l i ≡ s.words
unfolding words_in
words_of l i s ss rest e =
    let m = words_in (s ∷ ss) ++ rest in
    rw (ap (λ (a : ℕ). get_or l a 0) (sym (add-zero (8 * i))) ∙ on l m (8 * i) 0 0 e, on l m (8 * i) 1 0 e, on l m (8 * i) 2 0 e, on l m (8 * i) 3 0 e, on l m (8 * i) 4 0 e, on l m (8 * i) 5 0 e, on l m (8 * i) 6 0 e, on l m (8 * i) 7 0 e) refl

color_of : (l : List Float) (i : ℕ) (s : Sent) (ss : List Sent) (rest : List Float) → drop (4 * i) l ≡ floats_in (s ∷ ss) ++ rest → color_at l i ≡ s.color
unfolding floats_in
color_of l i s ss rest e =
    let m = floats_in (s ∷ ss) ++ rest in
    rw (ap (λ (a : ℕ). get_or l a nan) (sym (add-zero (4 * i))) ∙ on l m (4 * i) 0 nan e, on l m (4 * i) 1 nan e, on l m (4 * i) 2 nan e, on l m (4 * i) 3 nan e) refl

module _ (ss : List Sent) (oldWords : List ℕ) (oldFloats : List Float) where
  pub entry_words : (i : ℕ) (d : Sent) → i < length ss → words_at (over (words_in ss) oldWords) i ≡ (get_or ss i d).words
  unfolding over
  entry_words i d h =
      let rest = drop (length (words_in ss)) oldWords in
      words_of (words_in ss ++ rest) i (get_or ss i d) (drop (suc i) ss) rest
      (drop_words ss rest i h ∙ ap (λ (l : List Sent). words_in l ++ rest) (drop-cons ss i d h))

  pub entry_color : (i : ℕ) (d : Sent) → i < length ss → color_at (over (floats_in ss) oldFloats) i ≡ (get_or ss i d).color
  unfolding over
  entry_color i d h =
      let rest = drop (length (floats_in ss)) oldFloats in
      color_of (floats_in ss ++ rest) i (get_or ss i d) (drop (suc i) ss) rest
      (drop_floats ss rest i h ∙ ap (λ (l : List Sent). floats_in l ++ rest) (drop-cons ss i d h))

-- ---- tests of every record

all_map : {A B : Type 0} (p : B → Bool) (f : A → B) (xs : List A) → all p (map f xs) ≡ all (λ x. p (f x)) xs
all_map p f [] = refl
all_map p f (x ∷ xs) = ap (λ (b : Bool). p (f x) && b) (all_map p f xs)

map-map : {A B C : Type 0} (g : B → C) (f : A → B) (xs : List A) → map g (map f xs) ≡ map (λ x. g (f x)) xs
map-map {C} g f [] = refl
map-map {C} g f (x ∷ xs) = ap (λ (l : List C). g (f x) ∷ l) (map-map g f xs)

among_all : (p : Sent → Bool) (ss : List Sent) → ((s : Sent) → Among s ss → p s ≡ true) → all p ss ≡ true
among_all p [] f = refl
among_all p (s ∷ ss) f = both (p s) (all p ss) (f s (inl refl)) (among_all p ss (λ t a. f t (inr a)))

all_among : (p : Sent → Bool) (s : Sent) (ss : List Sent) → all p ss ≡ true → Among s ss → p s ≡ true
all_among p s [] h a = elim a [ ]
all_among p s (t ∷ ts) h (inl e) = rw (← e) (left (p t) (all p ts) h)
all_among p s (t ∷ ts) h (inr a) = all_among p s ts (right (p t) (all p ts) h) a

-- properties that are good are in range
good_range : (s : Sent) → is_good s ≡ true → has_properties s ≡ true → in_range s.words ≡ true
unfolding is_good
good_range s h p = rw p at h

standing_range : (ss : List Sent) → all is_good ss ≡ true → all (λ s. in_range s.words) (standing_of ss) ≡ true
standing_range ss h =
    among_all (λ s. in_range s.words) (standing_of ss)
    (λ s a. let w = stood s ss a in good_range s (all_among is_good s ss h w.among) w.properties)

-- ---- the table

module _ (ss : List Sent) (d : Sent) (oldWords : List ℕ) (oldFloats : List Float) where
  table_words : tabulate (length ss) (words_at (over (words_in ss) oldWords)) ≡ map (λ s. s.words) ss
  table_words =
      sym
      (is_tabulate (length ss) (words_at (over (words_in ss) oldWords)) d.words (map (λ s. s.words) ss) (length-map ss (λ s. s.words))
      (λ i h. List·getD-map (λ s. s.words) ss i d ∙ sym (entry_words ss oldWords oldFloats i d h)))

  table_layers : table_of (over (words_in ss) oldWords) (over (floats_in ss) oldFloats) (length ss) ≡ map sent_layer ss
  unfolding table_of layer_at
  table_layers =
      sym
      (is_tabulate (length ss) (layer_at (over (words_in ss) oldWords) (over (floats_in ss) oldFloats)) (sent_layer d) (map sent_layer ss) (length-map ss sent_layer)
      (λ i h. List·getD-map sent_layer ss i d ∙ sym (ap₂ layer_of (entry_words ss oldWords oldFloats i d h) (entry_color ss oldWords oldFloats i d h))))

-- what is written holds every entry that stands
long_enough : {records : List ℕ} {colors : List Float} {oldWords : List ℕ} {oldFloats : List Float} → Passed records colors oldWords oldFloats → let ss = standing_of (sent_of records colors) in is_table_short (over (words_in ss) oldWords) (over (floats_in ss) oldFloats) (length ss) ≡ false
unfolding is_table_short
long_enough {records} {colors} {oldWords} {oldFloats} p =
    let ss = standing_of (sent_of records colors) in
    let words = over (words_in ss) oldWords in
    let floats = over (floats_in ss) oldFloats in
    let words_same : length words ≡ length oldWords = length_over oldWords (words_in ss) (omega (arith, length_words ss, p.room.words_long)) in
    let floats_same : length floats ≡ length oldFloats = length_over oldFloats (floats_in ss) (omega (arith, length_floats ss, p.room.floats_long)) in
    le-ltb (table_room words floats) (length ss) (omega (arith, words_same, floats_same, p.room.words_long, p.room.floats_long))

valid : (ss : List Sent) (oldWords : List ℕ) (oldFloats : List Float) → all is_good ss ≡ true → is_valid (tabulate (length (standing_of ss)) (words_at (over (words_in (standing_of ss)) oldWords))) ≡ true
unfolding is_valid
valid ss oldWords oldFloats g =
    let standing = standing_of ss in
    rw (table_words standing (sent_at [] [] 0) oldWords oldFloats)
    (both (all in_range (map (λ s. s.words) standing)) (strictly_ascends (map (λ w. w.id) (map (λ s. s.words) standing)))
    (all_map in_range (λ s. s.words) standing ∙ standing_range ss g)
    (ap strictly_ascends (map-map (λ w. w.id) (λ s. s.words) standing) ∙ ascending ss))

pub is_table_lem : (records : List ℕ) (colors : List Float) {n : ℕ} {oldWords words : List ℕ} {oldFloats floats : List Float} → Stands (stand_verdict records colors oldWords oldFloats) (sent_of records colors) oldWords oldFloats (given n) words floats → Begins (sent_of records colors) n words floats
unfolding is_table
is_table_lem records colors {n} {oldWords} {words} {oldFloats} {floats} w = by (stand_verdict records colors oldWords oldFloats) refl w
  where
    ss : List Sent
    ss = sent_of records colors

    by : (v : Judgement) → stand_verdict records colors oldWords oldFloats ≡ v → Stands v ss oldWords oldFloats (given n) words floats → Begins ss n words floats
    by (refuse k) e u = let q = u.answer in absurd (let z : ◌≡◌ {A = ℕ} 0 1 = cc in omega arith)
    by pass e u =
        let q = u.answer in
        let counted : n ≡ length (standing_of ss) = cc in
        let p : Passed records colors oldWords oldFloats = passes e in
        let long : is_table_short (over (words_in (standing_of ss)) oldWords) (over (floats_in (standing_of ss)) oldFloats) (length (standing_of ss)) ≡ false = long_enough p in
        record {
          table = rw (u.words_are, u.floats_are, counted, long) (valid ss oldWords oldFloats p.good);
          layers = rw (u.words_are, u.floats_are, counted) (table_layers (standing_of ss) (sent_at [] [] 0) oldWords oldFloats);
        }
