-- P7, from the contracts. Assumes nothing.
use Rattle.laws.proofs.Prelude.{refl, rules}
use Rattle.cases.proofs.Tile.{first_known, second_known, draw_known, first_seen, second_seen, draw_seen}
use Rattle.cases.proofs.clips.p7.Goals as goal

pub paint_anew-first-requires : goal.paint_anew-first-requires
paint_anew-first-requires c = first_known c.layer_of.ensures

pub paint_anew-second-requires : goal.paint_anew-second-requires
paint_anew-second-requires c = second_known c.layer_of-2.ensures

pub paint_anew-third-requires : goal.paint_anew-third-requires
paint_anew-third-requires c = draw_known c.clipped_draw.ensures

pub returns : goal.returns
returns c =
    let one = first_seen c.layer_of.ensures refl c.paint_anew-first.ensures in
    let two = second_seen c.layer_of-2.ensures one.clip_is c.paint_anew-second.ensures in
    let three = draw_seen c.clipped_draw.ensures two.clip_is c.paint_anew-third.ensures in
    rw (one.mark_is, two.mark_is, three.mark_is, one.half_is, two.half_is, three.half_is)
