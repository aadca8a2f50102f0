-- The walk over a tile's shown layers: what is tallied, with what is left, gives what the whole list gives. Assumes nothing.
use Rattle.std.specs.Prelude.{◌≡◌, ◌∷◌, ◌+◌, ◌*◌, ◌≤◌, ◌<◌}
use Rattle.laws.proofs.Prelude.{refl, ap, sym, ◌∙◌, Bool, true, false, cond, List, [], ℕ, zero, suc, le_of_suc-le-suc}
use Rattle.laws.proofs.Prelude.{bool_byte, add-zero, arith, length, take, get_or, length-map}
use Rattle.styling.specs.declared.Layer.{Layer}
use Rattle.queue_statements.specs.Queue.{Carry, ids_in}
use Rattle.tile_layers.specs.Listing.{Listed, no_listed, layers_in, incoming_of}
use Rattle.row_lines.specs.Shown.{shown_in}
use Rattle.shown_layers.specs.Counting.{Sum, ids_of, at_start, tally_next, tallied}
use Rattle.shown_layers.proofs.Rest.{rest_shown, rest_masked, rest_none, walk_next_lem, walk_end}

-- ---- the ids of a tile's layers

pub id_at_lem : (ls : List Listed) (i : ℕ) → i < length ls → get_or (ids_in (incoming_of ls)) i 0 ≡ (get_or ls i no_listed).id
id_at_lem [] i h = absurd (omega arith)
id_at_lem (l ∷ ls) zero h = refl
id_at_lem (l ∷ ls) (suc i) h = id_at_lem ls i (le_of_suc-le-suc h)

pub ids_long : (queue : List Carry) (part : List ℕ) → length (ids_of queue part) ≡ length (layers_in queue part)
ids_long queue part = length-map (incoming_of (layers_in queue part)) (λ c. c.id) ∙ length-map (layers_in queue part) (λ x. record { id = x.id; cover = x.cover })

-- ---- layers that are counted

pub record Counting (shown : List Bool) (skipped n r i : ℕ) : Type 0 where
  pub few : r ≤ i
  pub same : (ids : List ℕ) → length ids ≡ n → r + length (shown_in i (take n shown) ids) ≡ length (shown_in skipped (take n shown) ids)

pub count_start : (shown : List Bool) (skipped n : ℕ) → Counting shown skipped n 0 skipped
count_start shown skipped n = record { few = omega arith; same = λ ids e. omega arith }

module _ {shown : List Bool} {skipped n r i : ℕ} (v : Counting shown skipped n r i) (ls : n ≤ length shown) where
  pub count_next : {s : ℕ} → i < n → s ≡ r + bool_byte (get_or shown i false) → Counting shown skipped n s (i + 1)
  count_next {s} p e = by (get_or shown i false) refl e
    where
      by : (b : Bool) → get_or shown i false ≡ b → s ≡ r + bool_byte b → Counting shown skipped n s (i + 1)
      by true eb es =
          record {
            few = omega (arith, es, v.few);
            same = λ ids li. omega (arith, es, v.same ids li, ap length (rest_shown ids shown n i li ls p eb));
          }
      by false eb es =
          record {
            few = omega (arith, es, v.few);
            same = λ ids li. omega (arith, es, v.same ids li, ap length (rest_masked ids shown n i li ls p eb));
          }

  pub count_end : n ≤ i → (ids : List ℕ) → length ids ≡ n → r ≡ length (shown_in skipped (take n shown) ids)
  count_end p ids li = omega (arith, v.same ids li, ap length (rest_none ids shown n i li ls p))

-- in a tile that is not painted the shown layers are counted
pub counted : (table : List Layer) (queue : List Carry) (part : List ℕ) (t : Sum) (ids : List ℕ) → tallied false table queue part t ids ≡ record { clip = t.clip; shown = t.shown + length ids; octets = t.octets }
unfolding tallied tally_next
counted table queue part t [] = λ i. record { clip = t.clip; shown = sym (add-zero t.shown) i; octets = t.octets }
counted table queue part t (id ∷ ids) =
    let next : t.shown + 1 + length ids ≡ t.shown + suc (length ids) = omega arith in
    counted table queue part (record { clip = t.clip; shown = t.shown + 1; octets = t.octets }) ids
    ∙ (λ i. record { clip = t.clip; shown = next i; octets = t.octets })

-- ---- layers that are painted

-- a shown layer counts, whether it is painted or not
pub next_shown : (paints : Bool) (table : List Layer) (queue : List Carry) (part : List ℕ) (t : Sum) (id : ℕ) → (tally_next paints table queue part t id).shown ≡ t.shown + 1
unfolding tally_next
next_shown true table queue part t id = refl
next_shown false table queue part t id = refl

pub record Tallying (table : List Layer) (queue : List Carry) (part ids : List ℕ) (shown : List Bool) (skipped n : ℕ) (t : Sum) (i : ℕ) : Type 0 where
  pub few : t.shown ≤ i
  pub used : t.octets ≤ 32 * i
  pub same : tallied true table queue part t (shown_in i (take n shown) ids) ≡ tallied true table queue part at_start (shown_in skipped (take n shown) ids)

one_tallied : (table : List Layer) (queue : List Carry) (part : List ℕ) (t : Sum) (id : ℕ) (ids : List ℕ) → tallied true table queue part t (id ∷ ids) ≡ tallied true table queue part (tally_next true table queue part t id) ids
unfolding tallied
one_tallied table queue part t id ids = refl

none_tallied : (table : List Layer) (queue : List Carry) (part : List ℕ) (t : Sum) → tallied true table queue part t [] ≡ t
unfolding tallied
none_tallied table queue part t = refl

-- at most one more is shown
one_shown : (table : List Layer) (queue : List Carry) (part : List ℕ) (b : Bool) (t : Sum) (id : ℕ) → (cond b (tally_next true table queue part t id) t).shown ≤ t.shown + 1
one_shown table queue part true t id = omega (arith, next_shown true table queue part t id)
one_shown table queue part false t id = omega arith

module _ {table : List Layer} {queue : List Carry} {part ids : List ℕ} {shown : List Bool} {skipped n : ℕ} where
  pub start : Tallying table queue part ids shown skipped n at_start skipped
  start = record { few = omega arith; used = omega arith; same = refl }

  module _ {t : Sum} {i : ℕ} (v : Tallying table queue part ids shown skipped n t i) (li : length ids ≡ n) (ls : n ≤ length shown) where
    pub next : {r : Sum} → i < n → r ≡ cond (get_or shown i false) (tally_next true table queue part t (get_or ids i 0)) t → r.octets ≤ t.octets + 32 → Tallying table queue part ids shown skipped n r (i + 1)
    next {r} p is h =
        let count = ap (λ (x : Sum). x.shown) is in
        record {
          few = omega (arith, count, one_shown table queue part (get_or shown i false) t (get_or ids i 0), v.few);
          used = omega (arith, h, v.used);
          same = walk_next_lem ids shown n i li ls (tally_next true table queue part) (tallied true table queue part) (one_tallied table queue part) p is ∙ v.same;
        }

    pub end : n ≤ i → t ≡ tallied true table queue part at_start (shown_in skipped (take n shown) ids)
    end p = sym (walk_end ids shown n i li ls (tally_next true table queue part) (tallied true table queue part) (none_tallied table queue part) t p) ∙ v.same
