-- The walk over the layers of a solid tile, step by step. Assumes nothing.
use Rattle.std.specs.Prelude.{◌≡◌, ◌∷◌, ◌+◌, ◌*◌, ◌≤◌, ◌<◌}
use Rattle.laws.proofs.Prelude.{refl, ap, sym, ◌∙◌, Bool, true, false, cond, List, [], ℕ, zero, suc, arith, length}
use Rattle.laws.proofs.Prelude.{drop, take, get_or, sets, length-take-le, get_or-take}
use Rattle.row_lines.specs.Shown.{shown_in}
use Rattle.shown_layers.proofs.Rest.{walk_next_lem, walk_end}
use Rattle.batch_statements.specs.BatchLent.{WordsAt, words_at, mixes_from}
use Rattle.batch_mixing.specs.InnerMixing.{MixAt, mix_by, mix_next, mix_from}

pub none_mixed : (w : WordsAt) → w ≡ mixes_from w []
unfolding mixes_from
none_mixed w = refl

-- the walk, layer by layer
unfoldable pub mix_walk : MixAt → List ℕ → MixAt
mix_walk x [] = x
mix_walk x (id ∷ ids) = mix_walk (mix_next x id) ids

walk_words : (ids : List ℕ) (before : ℕ) (w : WordsAt) → (mix_walk (record { before = before; words = w }) ids).words ≡ mixes_from w (drop before ids)
unfolding mix_walk mixes_from
walk_words [] zero w = refl
walk_words [] (suc before) w = refl
walk_words (id ∷ ids) zero w = walk_words ids zero (words_at (w.used + 1) (sets w.painted (w.used * 2) (id ∷ 0 ∷ [])))
walk_words (id ∷ ids) (suc before) w = walk_words ids before w

one_step : (x : MixAt) (id : ℕ) (ids : List ℕ) → mix_walk x (id ∷ ids) ≡ mix_walk (mix_next x id) ids
unfolding mix_walk
one_step x id ids = refl

no_step : (x : MixAt) → mix_walk x [] ≡ x
unfolding mix_walk
no_step x = refl

used_by : (before : ℕ) (w : WordsAt) (id : ℕ) → (mix_by before w id).words.used ≤ w.used + 1
used_by zero w id = omega arith
used_by (suc before) w id = omega arith

pub record Walking (ids : List ℕ) (unmasked : List Bool) (skipped listed : ℕ) (x₀ x : MixAt) (i : ℕ) : Type 0 where
  pub within : i ≤ listed
  pub few : x.words.used + skipped ≤ x₀.words.used + i
  pub rest : mix_walk x (shown_in i (take listed unmasked) (take listed ids)) ≡ mix_walk x₀ (shown_in skipped (take listed unmasked) (take listed ids))

module _ (ids : List ℕ) (unmasked : List Bool) (skipped listed : ℕ) (x₀ : MixAt) (room : listed ≤ length ids) (flags : listed ≤ length unmasked) where
  all_ids : length (take listed ids) ≡ listed
  all_ids = length-take-le listed ids room

  module _ {x : MixAt} {i : ℕ} (v : Walking ids unmasked skipped listed x₀ x i) where
    pub next : {r : MixAt} → i < listed → r ≡ cond (get_or unmasked i false) (mix_next x (get_or ids i 0)) x → Walking ids unmasked skipped listed x₀ r (i + 1)
    next {r} p is =
        let own : r ≡ cond (get_or unmasked i false) (mix_next x (get_or (take listed ids) i 0)) x = is ∙ ap (λ (n : ℕ). cond (get_or unmasked i false) (mix_next x n) x) (sym (get_or-take listed ids i 0 p)) in
        record {
          within = omega (arith, p);
          few = by (get_or unmasked i false) is;
          rest = walk_next_lem (take listed ids) unmasked listed i all_ids flags mix_next mix_walk one_step p own ∙ v.rest;
        }
      where
        by : (b : Bool) → r ≡ cond b (mix_next x (get_or ids i 0)) x → r.words.used + skipped ≤ x₀.words.used + (i + 1)
        by true e = let u = used_by x.before x.words (get_or ids i 0) in let same = ap (λ (y : MixAt). y.words.used) e in omega (arith, u, same, v.few)
        by false e = let same = ap (λ (y : MixAt). y.words.used) e in omega (arith, same, v.few)

    pub end : listed ≤ i → x.words ≡ mix_from x₀ (shown_in skipped (take listed unmasked) (take listed ids))
    end p =
        ap (λ (y : MixAt). y.words) (sym (walk_end (take listed ids) unmasked listed i all_ids flags mix_next mix_walk no_step x p) ∙ v.rest)
        ∙ walk_words (shown_in skipped (take listed unmasked) (take listed ids)) x₀.before x₀.words
