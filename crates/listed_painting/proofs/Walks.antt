-- The walk that paints a tile's layers: what it holds at the start and after each layer, and that the layer it meets is painted as by itself.
-- Assumes nothing.
use Rattle.std.specs.Prelude.{◌≡◌, ◌&&◌, ◌+◌, ◌<◌}
use Rattle.laws.proofs.Prelude.{Option, refl, sym, ap, ap₂, subst, ◌∙◌, Bool, true, false, cond, not, false≢true, ⊎_elim, List, ℕ}
use Rattle.laws.proofs.Prelude.{add-one, arith, ltb, Float, ℤ, length, get_or, take, take-suc, refused, given, is_given, cons_lt, le_or_lt}
use Rattle.laws.proofs.Drops.{cons_at}
use Rattle.pixel_segment.specs.Field.{cpu}
use Rattle.segment_rows.specs.Search.{between, layer_part}
use Rattle.segment_rows.proofs.TileParts.{layer_part_lem}
use Rattle.styling.specs.Ascending.{strictly_ascends}
use Rattle.styling.specs.Style.{is_clipped_of}
use Rattle.styling.specs.declared.Layer.{Layer}
use Rattle.layer_table.specs.Lookup.{lookup}
use Rattle.cover_statements.specs.Carry.{is_light}
use Rattle.cover_statements.specs.Entry.{cover_entry}
use Rattle.queue_statements.specs.Queue.{queue_of, ids_in, held_in, zeros, Queued}
use Rattle.queue_statements.proofs.Queues.{ids_queue}
use Rattle.tile_layers.specs.Listing.{Listed, no_listed, layers_in}
use Rattle.tile_layers.specs.InnerWalk.{Walks, listed_at, Stepped, Moved}
use Rattle.tile_layers.specs.declared.walk.Next.{Next}
use Rattle.tile_layers.proofs.Filling.{has_between}
use Rattle.tile_layers.proofs.Ordering.{list_ascends}
use Rattle.tile_layers.proofs.Walking.{Walking, walk_start, walk_here, walk_next_lem, walk_all}
use Rattle.pass_statements.specs.Entry.{Entry}
use Rattle.pass_statements.specs.Item.{item_for}
use Rattle.layer_workbench.specs.Work.{entry_of}
use Rattle.row_carries.proofs.Merged.{listed_cover, listed_own}
use Rattle.painter.specs.InnerOwn.{PaintsOwn}
use Rattle.painter.specs.declared.painting.Painting as painting
use Rattle.painter.proofs.Painted.{painted}
use Rattle.listed_painting.specs.InnerFreeing.{free_after, free_by, free_from}
use Rattle.listed_painting.specs.InnerWalk.{WalkHolds, PassesOver, CanPaint, PaintsNext, id_in}
use Rattle.listed_painting.specs.declared.PaintWalk.{PaintWalk}
use Rattle.listed_painting.proofs.Freeing.{free_snoc, unmarked, needs_passed}

module _ (table : List Layer) (n : ℕ) (ids : List ℕ) (covers : List ℤ) (part : List ℕ) where
  abbrev whole : List Listed
  whole = layers_in (queue_of n ids covers) part

  pub begun : (clip : Option ℕ) (hint : ℕ) → WalkHolds table n ids covers part (record { passed = 0; carries = 0; segments = 0; clip = clip; free_below = 0; hint = hint })
  unfolding free_from
  begun clip hint =
      let w = walk_start n ids covers part in
      record { carries_in = w.within_i; segments_in = w.within_j; few = w.few; inside = w.inside; left = w.left; free = refl }

  -- what the code reads of the layer that it meets
  abbrev met : PaintWalk → Next → Entry
  met w r = record { id = r.id; cover = cond r.carried (cover_entry 16 w.carries covers) zeros; segments = ltb w.segments r.end; changed = false }

  module _ {w : PaintWalk} (h : WalkHolds table n ids covers part w) where
    pub walking : Walking n ids covers part w.carries w.segments w.passed
    walking = record { within_i = h.carries_in; within_j = h.segments_in; few = h.few; inside = h.inside; left = h.left }

    -- where a layer is left, a carry or a segment is
    pub more : w.passed < length whole → w.carries + w.segments < n + length part
    more p = ⊎_elim (λ q. absurd (omega (arith, p, walk_all n ids covers part walking q))) (λ q. q) (le_or_lt (n + length part) (w.carries + w.segments))

    module _ (r : Next) (s : Stepped n ids covers part w.carries w.segments r) (m : Moved n part w.carries w.segments r) where
      pub inside : w.passed < length whole
      inside = cons_lt whole w.passed (walk_here n ids covers part walking r s)

      here : get_or whole w.passed no_listed ≡ listed_at covers part w.carries w.segments r
      here = cons_at whole w.passed (walk_here n ids covers part walking r s) no_listed

      pub id_is : r.id ≡ id_in (queue_of n ids covers) part w.passed
      id_is = sym (ap (λ (l : Listed). l.id) here)

      free_next : {below : ℕ} → below ≡ free_by (lookup table r.id) (met w r) w.free_below → below ≡ free_from table (take (w.passed + 1) whole) 0
      free_next {below} e =
          let x = listed_at covers part w.carries w.segments r in
          e
          ∙ ap (λ (b : Bool). free_by (lookup table r.id) (record { id = r.id; cover = x.cover; segments = b; changed = false }) w.free_below) (has_between w.segments r.end part m.high_j)
          ∙ unmarked (lookup table x.id) (entry_of table x) w.free_below
          ∙ ap₂ (λ (l : Listed) (b : ℕ). free_by (lookup table l.id) (entry_of table l) b) (sym here) h.free
          ∙ sym (free_snoc table (take w.passed whole) (get_or whole w.passed no_listed) 0)
          ∙ sym (ap (λ (ls : List Listed). free_from table ls 0) (ap (λ (k : ℕ). take k whole) (add-one w.passed) ∙ take-suc whole w.passed no_listed inside))

      -- after the layer
      pub stepped : (clip : Option ℕ) {below : ℕ} (hint : ℕ) → below ≡ free_by (lookup table r.id) (met w r) w.free_below → WalkHolds table n ids covers part (record { passed = w.passed + 1; carries = r.i; segments = r.end; clip = clip; free_below = below; hint = hint })
      stepped clip hint e =
          let v = walk_next_lem n ids covers part walking r s m in
          record { carries_in = v.within_i; segments_in = v.within_j; few = v.few; inside = v.inside; left = v.left; free = free_next e }

      -- passed over: its record is known, or the table lacks it
      pub over_known : {v : PaintWalk} {below hint : ℕ} {layer : Layer} {cover : List ℤ} → v ≡ record { passed = w.passed + 1; carries = r.i; segments = r.end; clip = w.clip; free_below = below; hint = hint } → lookup table r.id ≡ given layer → cover ≡ cond r.carried (cover_entry 16 w.carries covers) zeros → below ≡ free_after (item_for layer (record { id = r.id; cover = cover; segments = ltb w.segments r.end; changed = false })) w.free_below → PassesOver table n ids covers part w v
      over_known {v} {below} {hint} e found ec eb =
          subst (PassesOver table n ids covers part w) (sym e) (record { holds = stepped w.clip hint (rw (found, ← ec) eb); one_more = refl; clip_kept = refl })

      pub over_missing : {v : PaintWalk} {k : ℕ} → v ≡ record { passed = w.passed + 1; carries = r.i; segments = r.end; clip = w.clip; free_below = w.free_below; hint = w.hint } → lookup table r.id ≡ refused k → PassesOver table n ids covers part w v
      over_missing {v} e missing =
          subst (PassesOver table n ids covers part w) (sym e) (record { holds = stepped w.clip w.hint (rw missing refl); one_more = refl; clip_kept = refl })

      -- a layer that can be painted is in the table
      pub in_table : {k : ℕ} → CanPaint table (queue_of n ids covers) part w.passed → lookup table r.id ≡ refused k → ⊥
      in_table c e = false≢true (sym (ap is_given (rw id_is at e)) ∙ c.known)

      module _ (q : Queued n ids covers) (o : Walks n ids part) where
        up : strictly_ascends (ids_in (queue_of n ids covers)) ≡ true
        up = rw (ids_queue n ids covers q.ids_long) q.ascending

        pub own_is : between w.segments r.end part ≡ layer_part (id_in (queue_of n ids covers) part w.passed) part
        own_is =
            sym (ap (λ (l : Listed). l.own) here)
            ∙ listed_own (queue_of n ids covers) part up o.ordered w.passed inside
            ∙ sym (layer_part_lem (id_in (queue_of n ids covers) part w.passed) part o.ordered)

        pub cover_is : cond r.carried (cover_entry 16 w.carries covers) zeros ≡ held_in (queue_of n ids covers) (id_in (queue_of n ids covers) part w.passed)
        cover_is = sym (ap (λ (l : Listed). l.cover) here) ∙ listed_cover (queue_of n ids covers) part up o.ordered w.passed inside

        -- 9 does not apply to what the code paints
        pub light_is : {cover : List ℤ} {own : List ℕ} → cover ≡ cond r.carried (cover_entry 16 w.carries covers) zeros → own ≡ between w.segments r.end part → CanPaint table (queue_of n ids covers) part w.passed → is_light cpu 16 cover own ≡ true
        light_is ec eo c = ap₂ (is_light cpu 16) (ec ∙ cover_is) (eo ∙ own_is) ∙ c.light

        pub paints_next : {v : PaintWalk} {layer : Layer} {cover : List ℤ} {own : List ℕ} {needs : Bool} {old plane : List Float} {below hint : ℕ} (p : painting.Painting)
            → v ≡ record { passed = w.passed + 1; carries = r.i; segments = r.end; clip = p.clip; free_below = below; hint = hint }
            → lookup table r.id ≡ given layer
            → cover ≡ cond r.carried (cover_entry 16 w.carries covers) zeros → own ≡ between w.segments r.end part
            → needs ≡ (is_clipped_of layer.props.func && not (ltb r.id w.free_below))
            → PaintsOwn own cover r.id layer needs w.clip old p plane
            → below ≡ free_after (item_for layer (record { id = r.id; cover = cover; segments = ltb w.segments r.end; changed = false })) w.free_below
            → PaintsNext table n ids covers part w old (record { walk = v; id = r.id; mark = p.mark }) plane
        paints_next {v} {layer} {cover} {own} {needs} {old} {plane} {below} {hint} p e found ec eo en po eb =
            subst (λ (x : PaintWalk). PaintsNext table n ids covers part w old (record { walk = x; id = r.id; mark = p.mark }) plane) (sym e)
            (record {
              holds = stepped p.clip hint (rw (found, ← ec) eb);
              one_more = refl;
              id_is = id_is;
              paints = λ l el.
                  let same : layer ≡ l = cc (found, el, id_is) in
                  let t = painted table (queue_of n ids covers) part (id_in (queue_of n ids covers) part w.passed) layer w.clip old
                  (eo ∙ own_is) (ec ∙ cover_is)
                  (en ∙ ap (λ (k : ℕ). is_clipped_of layer.props.func && not (ltb k w.free_below)) id_is ∙ needs_passed whole (list_ascends (queue_of n ids covers) part up o.ordered) table layer.props.func w.passed w.free_below inside h.free)
                  (rw id_is at po) in
                  rw (← same) (record { clip_is = t.clip_is; mark_is = t.mark_is; plane_is = t.plane_is });
            })
