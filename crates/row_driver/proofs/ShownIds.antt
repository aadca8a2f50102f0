-- The shown layers of a line are those that the passes leave (`shown_of`): the same ids, in the same order. Assumes nothing.
use Rattle.std.specs.Prelude.{◌≡◌, ◌&&◌, ◌∷◌, ◌+◌, ◌≤◌}
use Rattle.laws.proofs.Prelude.{refl, ap, ap₂, sym, ◌∙◌, Bool, true, false, cond, List, [], map, ℕ, zero, suc, arith}
use Rattle.laws.proofs.Prelude.{le-leb, lt-leb, leb, drop, Answer, refused, given}
use Rattle.layer_table.specs.Lookup.{lookup}
use Rattle.styling.specs.declared.Layer.{Layer}
use Rattle.queue_statements.specs.Queue.{ids_in}
use Rattle.tile_layers.specs.Listing.{Listed, incoming_of}
use Rattle.pass_statements.specs.Decide.{shown_from, shown_of}
use Rattle.pass_statements.specs.Entry.{Entry}
use Rattle.pass_statements.specs.Item.{item_from, items_of}
use Rattle.pass_statements.specs.declared.item.Item.{Item}
use Rattle.layer_workbench.specs.Work.{entry_of}
use Rattle.row_lines.specs.Shown.{flagged, shown_in}

abbrev id_of : Item → ℕ
id_of x = x.id

no_ids : (ss : List Bool) → flagged ss [] ≡ []
unfolding flagged
no_ids [] = refl
no_ids (s ∷ ss) = refl

-- from the first layer on that is not skipped
past : (skipped i : ℕ) (xs : List Item) (ss : List Bool) → skipped ≤ i → map id_of (shown_from i skipped xs ss) ≡ flagged ss (map id_of xs)
unfolding shown_from flagged
past skipped i [] ss h = sym (no_ids ss)
past skipped i (x ∷ xs) [] h = refl
past skipped i (x ∷ xs) (true ∷ ss) h = rw (le-leb skipped i h) (ap (λ (ids : List ℕ). x.id ∷ ids) (past skipped (suc i) xs ss (omega arith)))
past skipped i (x ∷ xs) (false ∷ ss) h = past skipped (suc i) xs ss (omega arith)

-- from a layer on that k others lie before
before : (k i : ℕ) (xs : List Item) (ss : List Bool) → map id_of (shown_from i (i + k) xs ss) ≡ flagged (drop k ss) (drop k (map id_of xs))
unfolding shown_from flagged
before zero i xs ss = past (i + zero) i xs ss (omega arith)
before (suc k) i [] ss = sym (no_ids (drop (suc k) ss))
before (suc k) i (x ∷ xs) [] = refl
before (suc k) i (x ∷ xs) (s ∷ ss) =
    let skips : leb (i + suc k) i ≡ false = lt-leb (i + suc k) i (omega arith) in
    let same : i + suc k ≡ suc i + k = omega arith in
    ap (map id_of) (masked s (leb (i + suc k) i) skips) ∙ ap (λ (m : ℕ). map id_of (shown_from (suc i) m xs ss)) same ∙ before k (suc i) xs ss
  where
    masked : (s b : Bool) → b ≡ false → cond (s && b) (x ∷ shown_from (suc i) (i + suc k) xs ss) (shown_from (suc i) (i + suc k) xs ss) ≡ shown_from (suc i) (i + suc k) xs ss
    masked true b e = rw e
    masked false b e = refl

item_id : (a : Answer Layer) (e : Entry) → (item_from a e).id ≡ e.id
item_id (refused n) e = refl
item_id (given l) e = refl

items_ids : (table : List Layer) (ls : List Listed) → map id_of (items_of table (map (entry_of table) ls)) ≡ ids_in (incoming_of ls)
items_ids table [] = refl
items_ids table (l ∷ ls) = ap₂ (λ (i : ℕ) (is : List ℕ). i ∷ is) (item_id (lookup table l.id) (entry_of table l)) (items_ids table ls)

pub shown_ids : (table : List Layer) (skipped : ℕ) (shown : List Bool) (ls : List Listed)
    → shown_in skipped shown (ids_in (incoming_of ls)) ≡ map (λ x. x.id) (shown_of skipped (items_of table (map (entry_of table) ls)) shown)
shown_ids table skipped shown ls =
    let items = items_of table (map (entry_of table) ls) in
    let none : 0 + skipped ≡ skipped = omega arith in
    ap (shown_in skipped shown) (sym (items_ids table ls)) ∙ sym (before skipped 0 items shown) ∙ ap (λ (m : ℕ). map id_of (shown_from 0 m items shown)) none
