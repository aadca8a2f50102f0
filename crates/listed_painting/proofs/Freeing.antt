-- The layer id below which the clips that are passed free clipped draws tells whether the next layer, if it is a clipped draw, is freed: the layers
-- ascend, so that the clips below it are those that are passed. Assumes nothing.
use Rattle.std.specs.Prelude.{◌≡◌, ◌&&◌, ◌∷◌, ◌++◌, ◌+◌, ◌≤◌, ◌<◌}
use Rattle.laws.proofs.Prelude.{refl, sym, ap, ◌∙◌, Bool, true, false, cond, not, and-true, and-false, List, [], Option}
use Rattle.laws.proofs.Prelude.{Some, None, ℕ, zero, suc, eq-or-lt_of_le, arith, lt-ltb, le-ltb, leb-true, leb-false}
use Rattle.laws.proofs.Prelude.{⊎_elim, leb, ltb, length, get_or, take, length-map, List·getD-map, Answer, refused, given}
use Rattle.layer_table.specs.Lookup.{lookup}
use Rattle.styling.specs.Ascending.{strictly_ascends}
use Rattle.styling.specs.Style.{is_clipped_of}
use Rattle.styling.specs.declared.Func.{Func}
use Rattle.styling.specs.declared.Layer.{Layer}
use Rattle.styling.proofs.Ascents.{ascends_lt}
use Rattle.tile_layers.specs.Listing.{Listed, no_listed}
use Rattle.tile_layers.proofs.Ordering.{listed_ids}
use Rattle.pass_statements.specs.Clips.{is_clip}
use Rattle.pass_statements.specs.Entry.{Entry}
use Rattle.pass_statements.specs.Item.{item_for}
use Rattle.pass_statements.specs.Rules.{last_reached, latest_clip, is_freed, needs_clip}
use Rattle.pass_statements.specs.declared.item.Item.{Item}
use Rattle.layer_workbench.specs.Work.{entry_of}
use Rattle.painter.specs.Painting.{items_in}
use Rattle.painter.proofs.Freeing.{latest_with, latest_after, latest_cons, latest_nil}
use Rattle.listed_painting.specs.InnerFreeing.{free_after, free_by, free_from}

-- one more layer at the end
pub free_snoc : (table : List Layer) (ls : List Listed) (x : Listed) (below : ℕ) → free_from table (ls ++ (x ∷ [])) below ≡ free_by (lookup table x.id) (entry_of table x) (free_from table ls below)
unfolding free_from
free_snoc table [] x below = refl
free_snoc table (l ∷ ls) x below = free_snoc table ls x (free_by (lookup table l.id) (entry_of table l) below)

-- whether the layer is changed plays no part
pub unmarked : (a : Answer Layer) (e : Entry) (below : ℕ) → free_by a (record { id = e.id; cover = e.cover; segments = e.segments; changed = false }) below ≡ free_by a e below
unmarked (refused n) e below = refl
unmarked (given l) e below = refl

module _ (table : List Layer) (id : ℕ) where
  -- the clip that was found and the number that is kept say the same of the layer
  abbrev Tells : Option Item → ℕ → Type 0
  Tells found below = is_freed found id ≡ ltb id below

  leb_next : (last : ℕ) → leb id last ≡ ltb id (last + 1)
  leb_next last = by (leb id last) refl
    where
      by : (b : Bool) → leb id last ≡ b → b ≡ ltb id (last + 1)
      by true e = sym (lt-ltb id (last + 1) (omega (arith, leb-true id last e)))
      by false e = sym (le-ltb id (last + 1) (omega (arith, leb-false id last e)))

  tell_clip : (full : Bool) (last : ℕ) → (leb id last && full) ≡ ltb id (cond full (last + 1) 0)
  tell_clip true last = and-true (leb id last) ∙ leb_next last
  tell_clip false last = and-false (leb id last) ∙ sym (le-ltb id 0 (omega arith))

  -- a layer below it
  met : (x : Item) (found : Option Item) (below : ℕ) → x.id < id → Tells found below → Tells (latest_with table id x found) (free_after x below)
  met x found below h t = rw (lt-ltb x.id id h) (by (is_clip x.func))
    where
      by : (c : Bool) → is_freed (cond (c && true) (Some x) found) id ≡ ltb id (cond c (cond x.full (last_reached x.id x.func + 1) 0) below)
      by true = tell_clip x.full (last_reached x.id x.func)
      by false = t

  met_by : (a : Answer Layer) (e : Entry) (found : Option Item) (below : ℕ) → e.id < id → Tells found below → Tells (latest_after table id a e found) (free_by a e below)
  met_by (refused n) e found below h t = t
  met_by (given l) e found below h t = met (item_for l e) found below h t

  -- a layer that is not below it
  left_with : (x : Item) (found : Option Item) → id ≤ x.id → latest_with table id x found ≡ found
  left_with x found h = rw (le-ltb x.id id h, and-false (is_clip x.func))

  left_by : (a : Answer Layer) (e : Entry) (found : Option Item) → id ≤ e.id → latest_after table id a e found ≡ found
  left_by (refused n) e found h = refl
  left_by (given l) e found h = left_with (item_for l e) found h

  rest_left : (ls : List Listed) (found : Option Item) → ((k : ℕ) → k < length ls → id ≤ (get_or ls k no_listed).id) → latest_clip (items_in table ls) id found ≡ found
  rest_left [] found h = latest_nil table id found
  rest_left (l ∷ ls) found h =
      latest_cons table id l ls found
      ∙ ap (latest_clip (items_in table ls) id) (left_by (lookup table l.id) (entry_of table l) found (h 0 (omega arith)))
      ∙ rest_left ls found (λ k p. h (suc k) (omega (arith, p)))

  -- the first i layers are below it, and the others are not
  passed_tell : (ls : List Listed) (i : ℕ) (found : Option Item) (below : ℕ) → ((k : ℕ) → k < i → k < length ls → (get_or ls k no_listed).id < id) → ((k : ℕ) → i ≤ k → k < length ls → id ≤ (get_or ls k no_listed).id) → Tells found below → is_freed (latest_clip (items_in table ls) id found) id ≡ ltb id (free_from table (take i ls) below)
  unfolding free_from
  passed_tell [] zero found below lower upper t = ap (λ (o : Option Item). is_freed o id) (latest_nil table id found) ∙ t
  passed_tell [] (suc i) found below lower upper t = ap (λ (o : Option Item). is_freed o id) (latest_nil table id found) ∙ t
  passed_tell (l ∷ ls) zero found below lower upper t = ap (λ (o : Option Item). is_freed o id) (rest_left (l ∷ ls) found (λ k p. upper k (omega arith) p)) ∙ t
  passed_tell (l ∷ ls) (suc i) found below lower upper t =
      ap (λ (o : Option Item). is_freed o id) (latest_cons table id l ls found)
      ∙ passed_tell ls i (latest_after table id (lookup table l.id) (entry_of table l) found) (free_by (lookup table l.id) (entry_of table l) below)
      (λ k p q. lower (suc k) (omega (arith, p)) (omega (arith, q)))
      (λ k p q. upper (suc k) (omega (arith, p)) (omega (arith, q)))
      (met_by (lookup table l.id) (entry_of table l) found below (lower 0 (omega arith) (omega arith)) t)

-- the layers of a list that ascends: those before a place are below the one in it
module _ (ls : List Listed) (up : strictly_ascends (listed_ids ls) ≡ true) where
  id_lt : (i j : ℕ) → i < j → j < length ls → (get_or ls i no_listed).id < (get_or ls j no_listed).id
  id_lt i j p q =
      omega (arith, ascends_lt 0 (listed_ids ls) up i j p (rw (length-map ls (λ l. l.id)) q), List·getD-map (λ (l : Listed). l.id) ls i no_listed, List·getD-map (λ (l : Listed). l.id) ls j no_listed)

  -- the need of a clip, by what is passed
  pub needs_passed : (table : List Layer) (func : Func) (i below : ℕ) → i < length ls → below ≡ free_from table (take i ls) 0 → (is_clipped_of func && not (ltb (get_or ls i no_listed).id below)) ≡ needs_clip (items_in table ls) func (get_or ls i no_listed).id
  needs_passed table func i below h e =
      ap (λ (n : ℕ). is_clipped_of func && not (ltb (get_or ls i no_listed).id n)) e
      ∙ sym (ap (λ (b : Bool). is_clipped_of func && not b)
      (passed_tell table (get_or ls i no_listed).id ls i None 0 (λ k p q. id_lt k i p h) (λ k p q. ⊎_elim (λ s. omega (arith, ap (λ (m : ℕ). (get_or ls m no_listed).id) s)) (λ s. omega (arith, id_lt i k s q)) (eq-or-lt_of_le p)) (sym (le-ltb (get_or ls i no_listed).id 0 (omega arith)))))
