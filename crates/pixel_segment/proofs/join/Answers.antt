-- `join` meets its contract: the word is put together by seven steps of one definition. Assumes nothing.
use Rattle.laws.proofs.Prelude.{arith, pow_pos, to_z-of_z}
use Rattle.pixel_segment.specs.declared.consts.Layout.{Layout}
use Rattle.pixel_segment.proofs.Joining.{Held, room, held_next, joined}
use Rattle.pixel_segment.proofs.join.Goals as goal
use Rattle.pixel_segment.proofs.join.Goals.{After-append-w0, After-append-w1, After-append-w2, After-append-w3, After-append-w4, After-append-w5}

-- what the word has after each field
none : (l : Layout) → Held l 0 0
none l = pow_pos _

held-1 : (c : After-append-w0) → Held c.args.layout 1 c.append-w0.result
held-1 c =
    held_next c.args.layout 0 c.stored.result (omega arith) c.append-w0.ensures (none c.args.layout)

held-2 : (c : After-append-w1) → Held c.args.layout 2 c.append-w1.result
held-2 c =
    held_next c.args.layout 1 c.stored-2.result (omega arith) c.append-w1.ensures (held-1 c.before.before)

held-3 : (c : After-append-w2) → Held c.args.layout 3 c.append-w2.result
held-3 c =
    held_next c.args.layout 2 c.args.layer_id (omega arith) c.append-w2.ensures (held-2 c.before)

held-4 : (c : After-append-w3) → Held c.args.layout 4 c.append-w3.result
held-4 c =
    held_next c.args.layout 3 c.args.local_x (omega arith) c.append-w3.ensures (held-3 c.before)

held-5 : (c : After-append-w4) → Held c.args.layout 5 c.append-w4.result
held-5 c =
    held_next c.args.layout 4 c.args.local_y (omega arith) c.append-w4.ensures (held-4 c.before)

held-6 : (c : After-append-w5) → Held c.args.layout 6 c.append-w5.result
held-6 c =
    held_next c.args.layout 5 c.args.double_area_multiplier (omega arith) c.append-w5.ensures (held-5 c.before)

pub returns : goal.returns
returns c =
    let a = c.args in
    rw (
      c.append.ensures,
      c.cover_bits.ensures,
      c.append-w5.ensures,
      c.append-w4.ensures,
      c.append-w3.ensures,
      c.append-w2.ensures,
      c.append-w1.ensures,
      c.stored-2.ensures,
      c.append-w0.ensures,
      c.stored.ensures,
      to_z-of_z c.ranges.tile_x,
      to_z-of_z c.ranges.tile_y,
      to_z-of_z c.ranges.cover,
    )
    (joined a.layout a.layer_id a.tile_x a.tile_y a.local_x a.local_y a.double_area_multiplier a.cover)

pub append-w0-requires : goal.append-w0-requires
append-w0-requires c = room c.args.layout 0 (omega arith) (none c.args.layout)

pub append-w1-requires : goal.append-w1-requires
append-w1-requires c = room c.args.layout 1 (omega arith) (held-1 (goal.at.append-w1-requires c).After-append-w0)

pub append-w2-requires : goal.append-w2-requires
append-w2-requires c = room c.args.layout 2 (omega arith) (held-2 c)

pub append-w3-requires : goal.append-w3-requires
append-w3-requires c = room c.args.layout 3 (omega arith) (held-3 c)

pub append-w4-requires : goal.append-w4-requires
append-w4-requires c = room c.args.layout 4 (omega arith) (held-4 c)

pub append-w5-requires : goal.append-w5-requires
append-w5-requires c = room c.args.layout 5 (omega arith) (held-5 c)

pub append-requires : goal.append-requires
append-requires c = room c.args.layout 6 (omega arith) (held-6 (goal.at.append-requires c).After-append-w5)
