-- `write_job` meets its contract: each answer is a law of `Outcomes`. Assumes nothing.
use Rattle.laws.proofs.Prelude.{arith, w32, kept}
use Rattle.job_statements.proofs.Outcomes.{no_room, room, written}
use Rattle.job.proofs.write_job.Goals as goal

pub returns-then-not-has_room : goal.returns-then-not-has_room
returns-then-not-has_room c =
    let a = c.args in
    no_room a.head c.requires a.layers.now a.colors.now a.row.now (c.if-not-has_room.true)

pub write_words-requires : goal.write_words-requires
write_words-requires c =
    let a = c.args in
    let r = room a.head c.requires a.layers.now a.colors.now a.row.now (c.if-not-has_room.false) in
    (c.requires.layers_long, r.0)

pub write_colors-requires : goal.write_colors-requires
write_colors-requires c =
    let a = c.args in
    let r = room a.head c.requires a.layers.now a.colors.now a.row.now (c.if-not-has_room.false) in
    (c.requires.layers_long, r.1, c.requires.layer_rules)

pub write_row-requires : goal.write_row-requires
write_row-requires c =
    let a = c.args in
    let r = room a.head c.requires a.layers.now a.colors.now a.row.now (c.if-not-has_room.false) in
    (c.requires.segments_long, c.requires.segment_rules, omega (arith, r.2, c.requires.counted))

pub returns : goal.returns
returns c =
    let a = c.args in
    let number = kept w32 a.head.row (omega arith) in
    written a.head c.requires a.layers.now a.colors.now a.row.now (c.if-not-has_room.false)
    c.write_words.ensures c.write_colors.ensures (rw number at c.write_row.ensures)
