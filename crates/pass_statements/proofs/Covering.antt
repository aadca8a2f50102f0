-- The third pass as it runs: what is left of it, over the i lowest layers, gives what the whole pass gives. Assumes nothing.
use Rattle.std.specs.Prelude.{◌≡◌, ◌⊎◌, ◌-◌, ◌≤◌, ◌<◌}
use Rattle.laws.proofs.Prelude.{refl, sym, ap, ◌∙◌, Bool, true, false, cond, inl, inr, ⊎_map, List, ℕ, zero, suc}
use Rattle.laws.proofs.Prelude.{not-suc-le-zero, arith, length, get_or, clash}
use Rattle.pass_statements.specs.declared.item.Item.{Item}
use Rattle.pass_statements.specs.declared.covered.Covered.{Covered}
use Rattle.pass_statements.specs.Covered.{hides, look_at, item_at, covered_from, start_of, covered_of}

-- ---- one layer, by its tests

module _ (items : List Item) (unmasked unclipped : List Bool) (i : ℕ) (found : Covered) where
  pub look_past : get_or unmasked i false ≡ false → covered_from items unmasked unclipped (suc i) found ≡ covered_from items unmasked unclipped i found
  unfolding covered_from
  look_past e = rw e

  module _ (e : get_or unmasked i false ≡ true) where
    pub look_on : hides (item_at items i) (get_or unclipped i false) ≡ false
        → covered_from items unmasked unclipped (suc i) found ≡ covered_from items unmasked unclipped i (look_at (item_at items i) (get_or unclipped i false) i found)
    unfolding covered_from
    look_on h = rw (e, h)

    pub look_last : hides (item_at items i) (get_or unclipped i false) ≡ true
        → covered_from items unmasked unclipped (suc i) found ≡ look_at (item_at items i) (get_or unclipped i false) i found
    unfolding covered_from
    look_last h = rw (e, h)

-- ---- the loop

pub record Looking (items : List Item) (unmasked unclipped : List Bool) (n : ℕ) (removed : Bool) (i : ℕ) (found : Covered) : Type 0 where
  pub reached : i ≤ n
  pub rest : covered_from items unmasked unclipped i found ≡ covered_of items unmasked unclipped removed

module _ {items : List Item} {unmasked unclipped : List Bool} {n : ℕ} {removed : Bool} where
  pub look_start : {found : Covered} → length items ≡ n → found ≡ start_of items removed → Looking items unmasked unclipped n removed n found
  look_start e f = record { reached = omega arith; rest = rw (f, e) }

  module _ {i : ℕ} {found : Covered} (v : Looking items unmasked unclipped n removed i found) (p : 0 < i) where
    before : covered_from items unmasked unclipped (suc (i - 1)) found ≡ covered_of items unmasked unclipped removed
    before = let e : suc (i - 1) ≡ i = omega arith in ap (λ (k : ℕ). covered_from items unmasked unclipped k found) e ∙ v.rest

    pub look_masked : get_or unmasked (i - 1) false ≡ false → Looking items unmasked unclipped n removed (i - 1) found
    look_masked e =
        record {
          reached = omega arith;
          rest = sym (look_past items unmasked unclipped (i - 1) found e) ∙ before;
        }

    module _ (e : get_or unmasked (i - 1) false ≡ true) {x : Item} (ex : x ≡ item_at items (i - 1)) {seen : Covered} (es : seen ≡ look_at x (get_or unclipped (i - 1) false) (i - 1) found) {t : Bool} (et : t ≡ hides x (get_or unclipped (i - 1) false)) where
      at : seen ≡ look_at (item_at items (i - 1)) (get_or unclipped (i - 1) false) (i - 1) found
      at = es ∙ ap (λ (y : Item). look_at y (get_or unclipped (i - 1) false) (i - 1) found) ex

      hid : hides (item_at items (i - 1)) (get_or unclipped (i - 1) false) ≡ t
      hid = ap (λ (y : Item). hides y (get_or unclipped (i - 1) false)) (sym ex) ∙ sym et

      pub look_next : t ≡ false → Looking items unmasked unclipped n removed (i - 1) seen
      look_next h =
          record {
            reached = omega arith;
            rest = ap (covered_from items unmasked unclipped (i - 1)) at ∙ sym (look_on items unmasked unclipped (i - 1) found e (hid ∙ h)) ∙ before;
          }

      pub look_found : t ≡ true → seen ≡ covered_of items unmasked unclipped removed
      look_found h = at ∙ sym (look_last items unmasked unclipped (i - 1) found e (hid ∙ h)) ∙ before

  pub look_end : {i : ℕ} {found : Covered} → Looking items unmasked unclipped n removed i found → i ≤ 0 → found ≡ covered_of items unmasked unclipped removed
  unfolding covered_from
  look_end {i} {found} v h =
      let e : 0 ≡ i = omega arith in ap (λ (k : ℕ). covered_from items unmasked unclipped k found) e ∙ v.rest

-- ---- how many are skipped: all below a layer that hides them and is not masked off, or as many as before

pub record Hiding (items : List Item) (unmasked unclipped : List Bool) (n p : ℕ) : Type 0 where
  pub listed : p < n
  pub is_unmasked : get_or unmasked p false ≡ true
  pub hides_all : hides (item_at items p) (get_or unclipped p false) ≡ true

module _ (items : List Item) (unmasked unclipped : List Bool) where
  -- what the rest of the pass makes of a place that was reached before
  abbrev pub Skipped : ℕ → ℕ → ℕ → Type 0
  Skipped n p before = (p ≡ before) ⊎ Hiding items unmasked unclipped n p

  skipped_up : (n p before : ℕ) → Skipped n p before → Skipped (suc n) p before
  skipped_up n p before = ⊎_map (λ e. e) (λ h. record { listed = omega (arith, h.listed); is_unmasked = h.is_unmasked; hides_all = h.hides_all })

  skipped_at : (n before : ℕ) {a b : Covered} → a ≡ b → Skipped n b.skipped.0 before → Skipped n a.skipped.0 before
  skipped_at n before e s = rw e s

  skipped_look : (x : Item) (free : Bool) (i : ℕ) (found : Covered) → hides x free ≡ false → (look_at x free i found).skipped.0 ≡ found.skipped.0
  skipped_look x free i found h = rw h

  skipped_hid : (x : Item) (free : Bool) (i : ℕ) (found : Covered) → hides x free ≡ true → (look_at x free i found).skipped.0 ≡ i
  skipped_hid x free i found h = rw h

  pub skipped_by : (n : ℕ) (found : Covered) → Skipped n (covered_from items unmasked unclipped n found).skipped.0 found.skipped.0
  unfolding covered_from
  skipped_by zero found = inl refl
  skipped_by (suc i) found =
      let seen = look_at (item_at items i) (get_or unclipped i false) i found in
      by (skipped_by i found) (skipped_by i seen) (get_or unmasked i false) refl (hides (item_at items i) (get_or unclipped i false)) refl
    where
      by : Skipped i (covered_from items unmasked unclipped i found).skipped.0 found.skipped.0
          → Skipped i (covered_from items unmasked unclipped i (look_at (item_at items i) (get_or unclipped i false) i found)).skipped.0 (look_at (item_at items i) (get_or unclipped i false) i found).skipped.0
          → (a : Bool) → get_or unmasked i false ≡ a → (b : Bool) → hides (item_at items i) (get_or unclipped i false) ≡ b
          → Skipped (suc i) (covered_from items unmasked unclipped (suc i) found).skipped.0 found.skipped.0
      by past on false e b h = skipped_at (suc i) found.skipped.0 (look_past items unmasked unclipped i found e) (skipped_up i _ _ past)
      by past on true e false h =
          skipped_at (suc i) found.skipped.0 (look_on items unmasked unclipped i found e h)
          (skipped_up i _ _ (rw (skipped_look (item_at items i) (get_or unclipped i false) i found h) at on))
      by past on true e true h =
          skipped_at (suc i) found.skipped.0 (look_last items unmasked unclipped i found e h)
          (inr (rw (skipped_hid (item_at items i) (get_or unclipped i false) i found h) (record { listed = omega arith; is_unmasked = e; hides_all = h })))

  -- every layer that hides all below it lies at or below the first that is not skipped
  pub hidden_skipped : (n : ℕ) (found : Covered) (i : ℕ) → Hiding items unmasked unclipped n i → i ≤ (covered_from items unmasked unclipped n found).skipped.0
  unfolding covered_from
  hidden_skipped zero found i h = absurd (not-suc-le-zero h.listed)
  hidden_skipped (suc m) found i h =
      by (λ f p. hidden_skipped m f i (record { listed = p; is_unmasked = h.is_unmasked; hides_all = h.hides_all }))
      (get_or unmasked m false) refl (hides (item_at items m) (get_or unclipped m false)) refl
    where
      -- it is another layer than the one in place m, if that is masked off or hides nothing
      below : (i ≡ m → ⊥) → i < m
      below q = omega (arith, h.listed, q)

      by : ((f : Covered) → i < m → i ≤ (covered_from items unmasked unclipped m f).skipped.0)
          → (a : Bool) → get_or unmasked m false ≡ a → (b : Bool) → hides (item_at items m) (get_or unclipped m false) ≡ b
          → i ≤ (covered_from items unmasked unclipped (suc m) found).skipped.0
      by go false e b p =
          rw (look_past items unmasked unclipped m found e) (go found (below (λ q. clash h.is_unmasked (ap (λ (k : ℕ). get_or unmasked k false) q ∙ e))))
      by go true e false p =
          rw (look_on items unmasked unclipped m found e p)
          (go (look_at (item_at items m) (get_or unclipped m false) m found) (below (λ q. clash h.hides_all (ap (λ (k : ℕ). hides (item_at items k) (get_or unclipped k false)) q ∙ p))))
      by go true e true p =
          rw (look_last items unmasked unclipped m found e p, skipped_hid (item_at items m) (get_or unclipped m false) m found p) (omega (arith, h.listed))

-- ---- what is masked off is not looked at

module _ (items items' : List Item) (unmasked unclipped : List Bool) (same : (i : ℕ) → get_or unmasked i false ≡ true → item_at items i ≡ item_at items' i) where
  pub unseen : (n : ℕ) (found : Covered) → covered_from items unmasked unclipped n found ≡ covered_from items' unmasked unclipped n found
  unfolding covered_from
  unseen zero found = refl
  unseen (suc i) found = by (unseen i) (get_or unmasked i false) refl
    where
      free : Bool
      free = get_or unclipped i false

      by : ((f : Covered) → covered_from items unmasked unclipped i f ≡ covered_from items' unmasked unclipped i f)
          → (a : Bool) → get_or unmasked i false ≡ a → covered_from items unmasked unclipped (suc i) found ≡ covered_from items' unmasked unclipped (suc i) found
      by go false e = look_past items unmasked unclipped i found e ∙ go found ∙ sym (look_past items' unmasked unclipped i found e)
      by go true e =
          rw (e, same i e)
          (ap (λ (on : Covered). cond (hides (item_at items' i) free) (look_at (item_at items' i) free i found) on) (go (look_at (item_at items' i) free i found)))
