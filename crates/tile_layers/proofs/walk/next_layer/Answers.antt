-- `walk::next_layer` meets its contract: a carry comes next, or a group and a carry with it where one is due. Assumes nothing.
use Rattle.std.specs.Prelude.{◌≡◌, ◌&&◌, ◌≤◌, ◌<◌}
use Rattle.laws.proofs.Prelude.{sym, ◌∙◌, Bool, true, false, false≢true, ℕ, List, [], arith, ltb-true, ltb, leb, get_or}
use Rattle.laws.proofs.Prelude.{bool_byte, left}
use Rattle.pixel_segment.specs.Field.{cpu, layer_id_of}
use Rattle.tile_layers.proofs.Runs.{group_at}
use Rattle.tile_layers.proofs.Steps.{only_carry, lower_carry, group_next, group_moved}
use Rattle.tile_layers.proofs.walk.next_layer.Goals as goal
use Rattle.tile_layers.proofs.walk.next_layer.Goals.{Then-carried, then-carried+else-id-layer, else-carried}

-- whether a carry is due, by the layer of the next group
due : (ids part : List ℕ) (n i j layer : ℕ) (t : Bool) → layer ≡ layer_id_of cpu (get_or part j 0) → t ≡ (ltb i n && leb (get_or ids i 0) layer) → t ≡ (ltb i n && leb (get_or ids i 0) (layer_id_of cpu (get_or part j 0)))
due ids part n i j layer t e h = rw e at h

left_over : (c : Then-carried) → c.args.i < c.args.n
left_over c = ltb-true _ _ (left _ _ (sym c.is_carry_due-carried.ensures ∙ c.if-carried.true))

one_at_most : (t : Bool) → bool_byte t ≤ 1
one_at_most true = omega arith
one_at_most false = omega arith

pub returns-then-j-part : goal.returns-then-j-part
returns-then-j-part c =
    let a = c.args in
    record { stepped = (λ covers. only_carry a.n a.ids.now covers a.part.now a.i a.j (omega arith) (omega arith)); moved = record { low_i = omega arith; high_i = omega arith; low_j = omega arith; high_j = omega arith; further = omega arith; has = λ e. omega arith } }

pub bounds-ids-i-then-carried : goal.bounds-ids-i-then-carried
bounds-ids-i-then-carried c = omega (arith, left_over (goal.at.bounds-ids-i-then-carried c).Then-carried, c.requires.0.long)

pub returns-then-id-layer : goal.returns-then-id-layer
returns-then-id-layer c =
    let a = c.args in
    let e = c.layer_at-layer.ensures in
    let g = group_at a.part.now a.j c.requires.0.ordered (omega arith) in
    let h = left_over (goal.at.returns-then-id-layer c).Then-carried in
    record { stepped = (λ covers. lower_carry a.n a.ids.now covers a.part.now a.i a.j g.0 h g.1 (omega (arith, e, c.if-id-layer.true))); moved = record { low_i = omega arith; high_i = omega (arith, h); low_j = omega arith; high_j = omega arith; further = omega arith; has = λ e. h } }

pub overflow_add-result-2 : goal.overflow_add-result-2
overflow_add-result-2 c = omega (arith, one_at_most c.is_carry_due-carried.result, c.requires.0.few, c.requires.1)

pub returns : goal.returns
returns c =
    let a = c.args in
    let g = c.group_end.ensures in
    let e = due a.ids.now a.part.now a.n a.i a.j _ _ c.layer_at-layer.ensures c.is_carry_due-carried.ensures in
    let not_lower : c.is_carry_due-carried.result ≡ true → layer_id_of cpu (get_or a.part.now a.j 0) ≤ get_or a.ids.now a.i 0 = λ t. elim c.if-carried.branch [
      | then-carried+else-id-layer w ↦ rw c.layer_at-layer.ensures at w.if-id-layer.false
      | else-carried w ↦ absurd (false≢true (sym w.if-carried.false ∙ t))
    ] in
    record {
      stepped = (λ covers. rw c.layer_at-layer.ensures (group_next a.n a.ids.now covers a.part.now a.i a.j c.group_end.result c.is_carry_due-carried.result g e not_lower));
      moved = group_moved a.n a.ids.now [] a.part.now a.i a.j c.group_end.result c.is_carry_due-carried.result c.layer_at-layer.result c.requires.1 g e;
    }
