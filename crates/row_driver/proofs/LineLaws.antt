-- The line of a tile, by what its work is called with, is the one that the whole row gives. Assumes nothing.
use Rattle.std.specs.Prelude.{◌≡◌, ◌∷◌, ◌+◌}
use Rattle.laws.proofs.Prelude.{refl, ap, sym, ◌∙◌, Bool, true, false, cond, List, [], None, ℕ, suc, arith, ones, pos, length}
use Rattle.segment_rows.specs.Search.{tile_part}
use Rattle.styling.specs.declared.Layer.{Layer}
use Rattle.queue_statements.specs.Queue.{Carry, ids_in}
use Rattle.cached_tile.specs.Kept.{no_tile}
use Rattle.tile_layers.specs.Listing.{Listed, incoming_of, are_known}
use Rattle.layer_carrying.specs.Carrying.{handed_on}
use Rattle.pass_statements.specs.Decision.{code_of}
use Rattle.layer_workbench.specs.Work.{outcome_in}
use Rattle.row_carries.proofs.Carried.{queue_next}
use Rattle.painter.specs.Clip.{clip_after}
use Rattle.row_statements.specs.Due.{OpenRow, table_on, queue_on, layers_on, func_on, mark_on}
use Rattle.row_statements.specs.InnerHolding.{IsOpen}
use Rattle.row_statements.proofs.PaintSteps.{row_mark}
use Rattle.row_lines.specs.Shown.{shown_in}
use Rattle.row_lines.specs.Lines.{clear_color, is_paint, decided_on, shown_on, octets_on, line_on}
use Rattle.shown_layers.specs.Counting.{Sum, at_start, tally_next, tallied}
use Rattle.row_lines.specs.declared.Line.{Line}
use Rattle.shown_layers.proofs.Tallying.{next_shown}

-- ---- what a walk tallies

module _ (table : List Layer) (queue : List Carry) (part : List ℕ) where
  -- as many as there are
  tallied_shown : (paints : Bool) (ids : List ℕ) (t : Sum) → (tallied paints table queue part t ids).shown ≡ t.shown + length ids
  unfolding tallied
  tallied_shown paints [] t = omega arith
  tallied_shown paints (id ∷ ids) t =
      let step = tallied_shown paints ids (tally_next paints table queue part t id) in
      omega (arith, step, next_shown paints table queue part t id)

  -- where the tile is not painted, no octet is used
  tallied_none : (ids : List ℕ) (t : Sum) → (tallied false table queue part t ids).octets ≡ t.octets
  unfolding tallied tally_next
  tallied_none [] t = refl
  tallied_none (id ∷ ids) t = tallied_none ids (tally_next false table queue part t id)

-- the octets of the tile from + n, by the whole row
module _ {o : OpenRow} (is_open : IsOpen o) (n : ℕ) (known : are_known (table_on o) (layers_on o n) ≡ true) where
  part : List ℕ
  part = tile_part (pos (o.from + n)) o.row

  tallied_octets : (ids : List ℕ) (t : Sum) → (tallied true (table_on o) (queue_on o n) part t ids).octets ≡ t.octets + octets_on o n t.clip ids
  unfolding tallied tally_next octets_on part
  tallied_octets [] t = omega arith
  tallied_octets (id ∷ ids) t =
      let step = tallied_octets ids (tally_next true (table_on o) (queue_on o n) part t id) in
      let same = ap ones (row_mark is_open n id known t.clip) in
      let rest = octets_on o n (clip_after (func_on o id) id t.clip) ids in
      step ∙ ap (λ (m : ℕ). t.octets + m + rest) same ∙ assoc t.octets (ones (mark_on o n id t.clip)) rest
    where
      assoc : (x y z : ℕ) → x + y + z ≡ x + (y + z)
      assoc x y z = omega arith

  octets_due : (paints : Bool) (ids : List ℕ) → (tallied paints (table_on o) (queue_on o n) part at_start ids).octets ≡ cond paints (octets_on o n None ids) 0
  octets_due true ids = let e = tallied_octets ids at_start in omega (arith, e)
  octets_due false ids = tallied_none (table_on o) (queue_on o n) part ids at_start

  -- ---- the line, of the tile's layers, the queue that it takes in, and its part of the row

  abbrev line_for : List Listed → List Carry → List ℕ → Line
  line_for ls q p =
      let out = outcome_in (table_on o) no_tile clear_color None ls in
      let t = tallied (is_paint out.decision) (table_on o) q p at_start (shown_in out.skipped out.unmasked (ids_in (incoming_of ls))) in
      record { decision = code_of out.decision; listed = length ls; shown = t.shown; octets = t.octets; carried = length (handed_on (table_on o) ls) }

  line_due : line_for (layers_on o n) (queue_on o n) part ≡ line_on o n
  unfolding line_on
  line_due =
      let d = decided_on o n in
      let many : (tallied (is_paint d.decision) (table_on o) (queue_on o n) part at_start (shown_on o n)).shown ≡ length (shown_on o n) = let e = tallied_shown (table_on o) (queue_on o n) part (is_paint d.decision) (shown_on o n) at_start in omega (arith, e) in
      let used = octets_due (is_paint d.decision) (shown_on o n) in
      let carried : length (handed_on (table_on o) (layers_on o n)) ≡ length (queue_on o (suc n)) = ap length (sym (queue_next (table_on o) o.row o.from n)) in
      λ i. record { decision = code_of d.decision; listed = length (layers_on o n); shown = many i; octets = used i; carried = carried i }

  -- from what a work is called with
  pub line_is : {ls : List Listed} {q : List Carry} {p : List ℕ} → ls ≡ layers_on o n → q ≡ queue_on o n → p ≡ tile_part (pos (o.from + n)) o.row → line_for ls q p ≡ line_on o n
  unfolding part
  line_is el eq ep = rw (el, eq, ep) line_due
