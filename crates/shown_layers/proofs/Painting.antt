-- The shown layers of a painted tile, painted in one walk: each step goes by `Tallying`, with the layer that the walk meets. Assumes nothing.
use Rattle.std.specs.Prelude.{◌≡◌, ◌+◌, ◌≤◌, ◌<◌}
use Rattle.laws.proofs.Prelude.{refl, ap, sym, subst, ◌∙◌, Bool, true, false, cond, false≢true, List, Option, ℕ, arith, ones}
use Rattle.laws.proofs.Prelude.{Float, ℤ, length, take, get_or, Answer, refused, given, is_given}
use Rattle.layer_table.specs.Lookup.{lookup}
use Rattle.styling.specs.declared.Layer.{Layer}
use Rattle.queue_statements.specs.Queue.{Carry, queue_of}
use Rattle.tile_layers.specs.Listing.{layers_in}
use Rattle.painter.specs.Clip.{clip_after}
use Rattle.painter.specs.Painting.{mark_in}
use Rattle.listed_painting.specs.InnerWalk.{WalkHolds, WalkStarts, PassesOver, CanPaint, PaintsNext, id_in}
use Rattle.listed_painting.specs.declared.PaintWalk.{PaintWalk}
use Rattle.listed_painting.specs.declared.PaintedNext.{PaintedNext}
use Rattle.row_statements.specs.Painting.{layer_from, layer_in}
use Rattle.row_lines.specs.Shown.{shown_in}
use Rattle.shown_layers.specs.Counting.{Sum, sum_in, ids_of, at_start, tally_next, tallied}
use Rattle.shown_layers.specs.InnerTally.{EntryTallied, CountsShown, Walkable}
use Rattle.shown_layers.specs.declared.Tally.{Tally}
use Rattle.shown_layers.proofs.Tallying.{Tallying, start, next, end, counted, id_at_lem, ids_long}

-- the record that the table has
pub found_layer : (table : List Layer) (id : ℕ) → is_given (lookup table id) ≡ true → lookup table id ≡ given (layer_in table id)
found_layer table id h = by (lookup table id) refl h
  where
    by : (a : Answer Layer) → lookup table id ≡ a → is_given a ≡ true → lookup table id ≡ given (layer_in table id)
    by (refused n) e h = absurd (false≢true h)
    by (given l) e h = e ∙ sym (ap (λ (a : Answer Layer). given (layer_from a id)) e)

-- a layer that is painted counts with its octets and its clip
painted : (table : List Layer) (queue : List Carry) (part : List ℕ) (t : Sum) (id : ℕ) {clip : Option ℕ} {mark used : ℕ} → mark ≡ mark_in table queue part id (layer_in table id) t.clip → clip ≡ clip_after (layer_in table id).props.func id t.clip → used ≡ ones mark → record { clip = clip; shown = t.shown + 1; octets = t.octets + used } ≡ tally_next true table queue part t id
unfolding tally_next
painted table queue part t id em ec eu = rw (eu, em, ec)

module _ (table : List Layer) (n : ℕ) (ids : List ℕ) (covers : List ℤ) (part : List ℕ) where
  -- ---- one layer

  pub entry_painted : {b : Bool} {old plane : List Float} {used : ℕ} (t : Tally) (p : PaintedNext) → b ≡ true → CanPaint table (queue_of n ids covers) part t.walk.passed → PaintsNext table n ids covers part t.walk old p plane → used ≡ ones p.mark → used ≤ 32 → EntryTallied b table n ids covers part t (record { walk = p.walk; shown = t.shown + 1; octets = t.octets + used })
  entry_painted {b} {old} {plane} {used} t p e can pn eu hu =
      let id = id_in (queue_of n ids covers) part t.walk.passed in
      let q = pn.paints (layer_in table id) (found_layer table id can.known) in
      record {
        holds = pn.holds;
        one_more = pn.one_more;
        sum_is =
            painted table (queue_of n ids covers) part (sum_in t) id q.mark_is q.clip_is eu
            ∙ sym (ap (λ (x : Bool). cond x (tally_next true table (queue_of n ids covers) part (sum_in t) id) (sum_in t)) e);
        few = omega (arith, hu);
      }

  pub entry_passed : {b : Bool} (t : Tally) (r : PaintWalk) → b ≡ false → PassesOver table n ids covers part t.walk r → EntryTallied b table n ids covers part t (record { walk = r; shown = t.shown; octets = t.octets })
  entry_passed {b} t r e p =
      let id = id_in (queue_of n ids covers) part t.walk.passed in
      record {
        holds = p.holds;
        one_more = p.one_more;
        sum_is =
            ap (λ (c : Option ℕ). record { clip = c; shown = t.shown; octets = t.octets }) p.clip_kept
            ∙ sym (ap (λ (x : Bool). cond x (tally_next true table (queue_of n ids covers) part (sum_in t) id) (sum_in t)) e);
        few = omega arith;
      }

  -- ---- the loop

  module _ (shown : List Bool) (skipped m : ℕ) where
    pub record Shown (t : Tally) (i : ℕ) : Type 0 where
      pub holds : WalkHolds table n ids covers part t.walk
      pub past : t.walk.passed ≡ i
      pub tally : Tallying table (queue_of n ids covers) part (ids_of (queue_of n ids covers) part) shown skipped m (sum_in t) i

    pub shown_start : {w : PaintWalk} → WalkStarts table n ids covers part skipped w → Shown (record { walk = w; shown = 0; octets = 0 }) skipped
    shown_start {w} s =
        record {
          holds = s.holds;
          past = s.past;
          tally =
              subst (λ (c : Option ℕ). Tallying table (queue_of n ids covers) part (ids_of (queue_of n ids covers) part) shown skipped m (record { clip = c; shown = 0; octets = 0 }) skipped)
              (sym s.no_clip) start;
        }

    -- in a tile that is not painted
    pub not_painted : {paints : Bool} {w : PaintWalk} {r : ℕ} → paints ≡ false → WalkStarts table n ids covers part 0 w → CountsShown (take m shown) skipped m r → m ≡ length (layers_in (queue_of n ids covers) part) → sum_in (record { walk = w; shown = r; octets = 0 }) ≡ tallied paints table (queue_of n ids covers) part at_start (shown_in skipped (take m shown) (ids_of (queue_of n ids covers) part))
    not_painted {paints} {w} {r} e s c all =
        let due = shown_in skipped (take m shown) (ids_of (queue_of n ids covers) part) in
        let many : r ≡ 0 + length due = let k = c.count (ids_of (queue_of n ids covers) part) (ids_long (queue_of n ids covers) part ∙ sym all) in omega (arith, k) in
        (λ i. record { clip = s.no_clip i; shown = many i; octets = 0 })
        ∙ sym (counted table (queue_of n ids covers) part at_start due)
        ∙ sym (ap (λ (b : Bool). tallied b table (queue_of n ids covers) part at_start due) e)

    module _ (w : Walkable table (queue_of n ids covers) part shown skipped m) where
      all_ids : length (ids_of (queue_of n ids covers) part) ≡ m
      all_ids = ids_long (queue_of n ids covers) part ∙ sym w.all

      pub shown_next : {t : Tally} {i : ℕ} (r : Tally) → Shown t i → i < m → EntryTallied (get_or shown i false) table n ids covers part t r → Shown r (i + 1)
      shown_next {t} {i} r s p e =
          let queue = queue_of n ids covers in
          let here : id_in queue part t.walk.passed ≡ get_or (ids_of queue part) i 0 =
          ap (id_in queue part) s.past ∙ sym (id_at_lem (layers_in queue part) i (omega (arith, p, w.all))) in
          record {
            holds = e.holds;
            past = omega (arith, e.one_more, s.past);
            tally =
                next s.tally all_ids w.unmasked_long p
                (e.sum_is ∙ ap (λ (id : ℕ). cond (get_or shown i false) (tally_next true table queue part (sum_in t) id) (sum_in t)) here)
                e.few;
          }

      pub shown_end : {t : Tally} {i : ℕ} → Shown t i → m ≤ i → sum_in t ≡ tallied true table (queue_of n ids covers) part at_start (shown_in skipped (take m shown) (ids_of (queue_of n ids covers) part))
      shown_end s p = end s.tally all_ids w.unmasked_long p
