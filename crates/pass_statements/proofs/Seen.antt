-- The shown layers, in the words of specs/Shown; what is masked off plays no part in them. Assumes nothing.
use Rattle.std.specs.Prelude.{◌≡◌, ◌&&◌, ◌∷◌, ◌+◌}
use Rattle.laws.proofs.Prelude.{refl, sym, ap, ap₂, ◌∙◌, Bool, true, false, cond, not, List, [], map, ℕ, zero, suc, add-zero}
use Rattle.laws.proofs.Prelude.{zero-add, add-suc, suc-add, arith, ltb-true, ltb-false, le-leb, lt-leb, ltb, leb, length, get_or, tabulate, filter}
use Rattle.laws.proofs.Prelude.{filter_ext}
use Rattle.pass_statements.specs.declared.item.Item.{Item}
use Rattle.pass_statements.specs.Covered.{item_at}
use Rattle.pass_statements.specs.Decide.{shown_from, shown_of}
use Rattle.pass_statements.specs.Shown.{is_shown, shown_layers}
use Rattle.pass_statements.specs.Rules.{Alike}

-- ---- the shown layers

-- place k, counted from i
abbrev is_shown_from : ℕ → ℕ → List Bool → ℕ → Bool
is_shown_from i skipped unmasked k = not (not (get_or unmasked k false)) && not (ltb (i + k) skipped)

by_place : (a i skipped : ℕ) → a ≡ i → (s : Bool) → (not (not s) && not (ltb a skipped)) ≡ (s && leb skipped i)
by_place a i skipped e true = rw e (by (ltb i skipped) refl)
  where
    by : (t : Bool) → ltb i skipped ≡ t → not t ≡ leb skipped i
    by true q = sym (lt-leb skipped i (ltb-true i skipped q))
    by false q = sym (le-leb skipped i (ltb-false i skipped q))
by_place a i skipped e false = refl

-- the first place, kept or not
first_kept : (f : ℕ → Item) (t : Bool) (k : ℕ) (ks : List ℕ) → map f (cond t (k ∷ ks) ks) ≡ cond t (f k ∷ map f ks) (map f ks)
first_kept f true k ks = refl
first_kept f false k ks = refl

module _ (skipped : ℕ) where
  -- the places after the first, in the list and in its rest
  shifted : (x : Item) (xs : List Item) (s : Bool) (ss : List Bool) (i n : ℕ) (g : ℕ → ℕ)
      → map (item_at (x ∷ xs)) (filter (is_shown_from i skipped (s ∷ ss)) (tabulate n (λ k. suc (g k)))) ≡ map (item_at xs) (filter (is_shown_from (suc i) skipped ss) (tabulate n g))
  shifted x xs s ss i zero g = refl
  shifted x xs s ss i (suc n) g =
      let t = is_shown_from (suc i) skipped ss (g 0) in
      let place : i + suc (g 0) ≡ suc i + g 0 = add-suc i (g 0) ∙ sym (suc-add i (g 0)) in
      rw place
      (first_kept (item_at (x ∷ xs)) t (suc (g 0)) (filter (is_shown_from i skipped (s ∷ ss)) (tabulate n (λ k. suc (g (suc k)))))
      ∙ ap (λ (l : List Item). cond t (item_at xs (g 0) ∷ l) l) (shifted x xs s ss i n (λ k. g (suc k)))
      ∙ sym (first_kept (item_at xs) t (g 0) (filter (is_shown_from (suc i) skipped ss) (tabulate n (λ k. g (suc k))))))

  none_shown : (xs : List Item) (i n : ℕ) (g : ℕ → ℕ) → [] ≡ map (item_at xs) (filter (is_shown_from i skipped []) (tabulate n g))
  none_shown xs i zero g = refl
  none_shown xs i (suc n) g = none_shown xs i n (λ k. g (suc k))

  shown_from_lem : (i : ℕ) (xs : List Item) (ss : List Bool) → shown_from i skipped xs ss ≡ map (item_at xs) (filter (is_shown_from i skipped ss) (tabulate (length xs) (λ k. k)))
  unfolding shown_from
  shown_from_lem i [] ss = refl
  shown_from_lem i (x ∷ xs) [] = none_shown (x ∷ xs) i (length (x ∷ xs)) (λ k. k)
  shown_from_lem i (x ∷ xs) (s ∷ ss) =
      ap₂ (λ (t : Bool) (l : List Item). cond t (x ∷ l) l) (sym (by_place (i + 0) i skipped (add-zero i) s))
      (shown_from_lem (suc i) xs ss ∙ sym (shifted x xs s ss i (length xs) (λ k. k)))
      ∙ sym (first_kept (item_at (x ∷ xs)) (is_shown_from i skipped (s ∷ ss) 0) 0 (filter (is_shown_from i skipped (s ∷ ss)) (tabulate (length xs) (λ k. suc k))))

  pub shown_layers_lem : (items : List Item) (unmasked : List Bool) → shown_of skipped items unmasked ≡ shown_layers skipped items unmasked
  shown_layers_lem items unmasked =
      shown_from_lem 0 items unmasked
      ∙ ap (map (item_at items)) (filter_ext (is_shown_from 0 skipped unmasked) (is_shown skipped unmasked) (tabulate (length items) (λ k. k)) (λ k. rw (zero-add k)))

-- ---- two lists that agree where nothing is masked off

alike_from : (skipped i : ℕ) (xs ys : List Item) (ss : List Bool) → length xs ≡ length ys → ((k : ℕ) → get_or ss k false ≡ true → item_at xs k ≡ item_at ys k) → shown_from i skipped xs ss ≡ shown_from i skipped ys ss
unfolding shown_from
alike_from skipped i [] [] ss e h = refl
alike_from skipped i [] (y ∷ ys) ss e h = absurd (omega arith)
alike_from skipped i (x ∷ xs) [] ss e h = absurd (omega arith)
alike_from skipped i (x ∷ xs) (y ∷ ys) [] e h = refl
alike_from skipped i (x ∷ xs) (y ∷ ys) (true ∷ ss) e h =
    ap₂ (λ (z : Item) (zs : List Item). cond (leb skipped i) (z ∷ zs) zs) (h 0 refl) (alike_from skipped (suc i) xs ys ss (omega arith) (λ k q. h (suc k) q))
alike_from skipped i (x ∷ xs) (y ∷ ys) (false ∷ ss) e h = alike_from skipped (suc i) xs ys ss (omega arith) (λ k q. h (suc k) q)

pub shown_alike : (skipped : ℕ) (items items' : List Item) (unmasked : List Bool) → Alike unmasked items items' → shown_of skipped items unmasked ≡ shown_of skipped items' unmasked
shown_alike skipped items items' unmasked a = alike_from skipped 0 items items' unmasked a.same_length a.same_layer
