-- The judge's answers, one after the other, and what holds where it passes. Assumes nothing.
use Rattle.std.specs.Prelude.{◌≡◌, ◌<◌}
use Rattle.laws.proofs.Prelude.{refl, ap, true, false, not, List, ℕ, arith, not-false, Float, length, get_or, refused, given, tabulate, all}
use Rattle.laws.proofs.Prelude.{all_intro, length_tabulate, get_d_tabulate}
use Rattle.refusals.specs.Refusal.{Judgement, pass, refuse}
use Rattle.refusals.proofs.Judging.{passed}
use Rattle.layer_table.specs.Table.{is_table_short}
use Rattle.layer_table.proofs.Judging.{Long, long}
use Rattle.revision_statements.specs.Sent.{Sent, is_good, sent_at, sent_room, first_sent, sent_of}
use Rattle.revision_statements.specs.Standing.{standing_of}
use Rattle.revision_statements.specs.Verdict.{has_twins, stand_verdict, Stands}
use Rattle.revision_statements.specs.InnerWalk.{RecordsJudged, Room, Written}
use Rattle.revision_statements.proofs.Keys.{good_at}

-- ---- the answers

module _ (records : List ℕ) (colors : List Float) (n : ℕ) (there : n ≡ sent_room records colors) (words : List ℕ) (floats : List Float) where
  first_is : first_sent records colors n ≡ sent_of records colors
  first_is = ap (first_sent records colors) there

  pub says_4 : all is_good (first_sent records colors n) ≡ false → refuse 4 ≡ stand_verdict records colors words floats
  unfolding stand_verdict
  says_4 g = rw (← first_is, g) refl

  module _ (good : all is_good (first_sent records colors n) ≡ true) where
    pub says_15 : has_twins (first_sent records colors n) ≡ true → refuse 15 ≡ stand_verdict records colors words floats
    unfolding stand_verdict
    says_15 t = rw (← first_is, good, t) refl

    module _ (single : has_twins (first_sent records colors n) ≡ false) {k : ℕ} (counted : k ≡ length (standing_of (first_sent records colors n))) where
      pub says_1 : is_table_short words floats k ≡ true → refuse 1 ≡ stand_verdict records colors words floats
      unfolding stand_verdict
      says_1 s = rw (← first_is, good, single, ← counted, s) refl

      pub says_pass : is_table_short words floats k ≡ false → pass ≡ stand_verdict records colors words floats
      unfolding stand_verdict
      says_pass s = rw (← first_is, good, single, ← counted, s) refl

-- ---- where it passes

-- whether records are good does not rest on their colours
same_good : (records : List ℕ) (floats floats' : List Float) (i : ℕ) → is_good (sent_at records floats i) ≡ true → is_good (sent_at records floats' i) ≡ true
unfolding is_good sent_at
same_good records floats floats' i e = e

good_always : (records : List ℕ) (floats floats' : List Float) (n : ℕ) → all is_good (first_sent records floats n) ≡ true → all is_good (first_sent records floats' n) ≡ true
unfolding first_sent
good_always records floats floats' n h =
    let f = sent_at records floats' in
    all_intro is_good (tabulate n f) (f 0)
    (λ i l. let p : i < n = omega (arith, length_tabulate n f) in rw (get_d_tabulate n f (f 0) i p) (same_good records floats floats' i (good_at records floats n h i p)))

pub record Passed (records : List ℕ) (colors : List Float) (words : List ℕ) (floats : List Float) : Type 0 where
  pub good : all is_good (sent_of records colors) ≡ true
  pub single : has_twins (sent_of records colors) ≡ false
  pub room : Room (length (standing_of (sent_of records colors))) words floats

module _ {records : List ℕ} {colors : List Float} {words : List ℕ} {floats : List Float} where
  pub passes : stand_verdict records colors words floats ≡ pass → Passed records colors words floats
  unfolding stand_verdict
  passes e =
      let ss = sent_of records colors in
      let first = passed (not (all is_good ss)) 4 _ e in
      let second = passed (has_twins ss) 15 _ first.1 in
      let third = passed (is_table_short words floats (length (standing_of ss))) 1 pass second.1 in
      let fits : Long words floats (length (standing_of ss)) = long third.0 in
      record {
        good = not-false (all is_good ss) first.0;
        single = second.0;
        room = record { words_long = fits.words_long; floats_long = fits.floats_long };
      }

  -- what writing asks
  pub judged : Passed records colors words floats → ((i : ℕ) → get_or records i 0 < 4294967296) → RecordsJudged records (sent_room records colors)
  judged p w = record { long = omega arith; words = w; good = λ fs. good_always records colors fs (sent_room records colors) p.good }

-- ---- what a call leaves

pub stands_refused : {v : Judgement} {k : ℕ} (ss : List Sent) (words : List ℕ) (floats : List Float) → refuse k ≡ v → Stands v ss words floats (refused k) words floats
stands_refused ss words floats e = rw (← e) (record { answer = refl; words_are = refl; floats_are = refl })

pub stands_written : {v : Judgement} {ss : List Sent} {oldWords words : List ℕ} {oldFloats floats : List Float} {r : ℕ} → pass ≡ v → Written ss oldWords oldFloats r words floats → Stands v ss oldWords oldFloats (given r) words floats
stands_written e w = rw (← e) (record { answer = ap given w.count; words_are = w.words_are; floats_are = w.floats_are })
