-- `judging::judge_bounds` meets its contract. Assumes nothing.
use Rattle.std.specs.Prelude.{◌≡◌}
use Rattle.laws.proofs.Prelude.{sym, ◌∙◌, to_z-of_z, all, left}
use Rattle.segment_set_statements.specs.Set.{is_of}
use Rattle.cover_bounds_statements.specs.Within.{bounds_call, bound_planes, lacks_room, bounds_verdict}
use Rattle.cover_bounds_statements.proofs.Calls.{pairs_there}
use Rattle.cover_bounds.proofs.judging.judge_bounds.Goals as goal
use Rattle.cover_bounds.proofs.judging.judge_bounds.Goals.{After-are_of, After-lacks_room}

room-told : (c : After-lacks_room) → c.lacks_room.result ≡ lacks_room (bounds_call c.args.layer_id c.args.tile_x c.args.tile_y c.args.part.now c.args.bounds.now c.args.low.covers c.args.high.covers) (bound_planes c.args.lowest.now c.args.highest.now c.args.least_non_zero.now c.args.greatest_non_zero.now c.args.least_even_odd.now c.args.greatest_even_odd.now)
room-told c =
    c.lacks_room.ensures c.args.layer_id c.args.tile_x c.args.tile_y c.args.low.covers c.args.high.covers

are-told : (c : After-are_of) → c.are_of.result ≡ all (is_of c.args.layer_id c.args.tile_x c.args.tile_y) c.args.part.now
are-told c =
    rw (to_z-of_z c.ranges.tile_x, to_z-of_z c.ranges.tile_y) at c.are_of.ensures

pub returns-then-lacks_room : goal.returns-then-lacks_room
unfolding bounds_verdict
returns-then-lacks_room c = rw (← room-told (goal.at.returns-then-lacks_room c).After-lacks_room, c.if-lacks_room.true)

pub returns-then-not-are_of : goal.returns-then-not-are_of
unfolding bounds_verdict
returns-then-not-are_of c =
    rw (← room-told (goal.at.returns-then-not-are_of c).After-lacks_room, c.if-lacks_room.false, ← are-told (goal.at.returns-then-not-are_of c).After-are_of, c.if-not-are_of.true)

pub are_bounded-requires : goal.are_bounded-requires
are_bounded-requires c =
    pairs_there (bounds_call c.args.layer_id c.args.tile_x c.args.tile_y c.args.part.now c.args.bounds.now c.args.low.covers c.args.high.covers) (bound_planes c.args.lowest.now c.args.highest.now c.args.least_non_zero.now c.args.greatest_non_zero.now c.args.least_even_odd.now c.args.greatest_even_odd.now) (sym (room-told (goal.at.are_bounded-requires c).After-lacks_room) ∙ c.if-lacks_room.false)

pub returns-then-not-are_bounded-is_carry_bounded : goal.returns-then-not-are_bounded-is_carry_bounded
unfolding bounds_verdict
returns-then-not-are_bounded-is_carry_bounded c =
    rw (← room-told (goal.at.returns-then-not-are_bounded-is_carry_bounded c).After-lacks_room, c.if-lacks_room.false, ← are-told (goal.at.returns-then-not-are_bounded-is_carry_bounded c).After-are_of, c.if-not-are_of.false, ← c.are_bounded.ensures, ← c.is_carry_bounded.ensures, c.if-not-are_bounded-is_carry_bounded.true)

pub is_light_within-requires : goal.is_light_within-requires
is_light_within-requires c = (
  pairs_there (bounds_call c.args.layer_id c.args.tile_x c.args.tile_y c.args.part.now c.args.bounds.now c.args.low.covers c.args.high.covers) (bound_planes c.args.lowest.now c.args.highest.now c.args.least_non_zero.now c.args.greatest_non_zero.now c.args.least_even_odd.now c.args.greatest_even_odd.now) (sym (room-told (goal.at.is_light_within-requires c).After-lacks_room) ∙ c.if-lacks_room.false),
  sym c.are_bounded.ensures ∙ left _ _ (c.if-not-are_bounded-is_carry_bounded.false),
)

pub returns-then-not-is_light_within : goal.returns-then-not-is_light_within
unfolding bounds_verdict
returns-then-not-is_light_within c =
    rw (
      ← room-told (goal.at.returns-then-not-is_light_within c).After-lacks_room,
      c.if-lacks_room.false,
      ← are-told (goal.at.returns-then-not-is_light_within c).After-are_of,
      c.if-not-are_of.false,
      ← c.are_bounded.ensures,
      ← c.is_carry_bounded.ensures,
      c.if-not-are_bounded-is_carry_bounded.false,
      ← c.is_light_within.ensures,
      c.if-not-is_light_within.true,
    )

pub returns : goal.returns
unfolding bounds_verdict
returns c =
    rw (
      ← room-told (goal.at.returns c).After-lacks_room,
      c.if-lacks_room.false,
      ← are-told (goal.at.returns c).After-are_of,
      c.if-not-are_of.false,
      ← c.are_bounded.ensures,
      ← c.is_carry_bounded.ensures,
      c.if-not-are_bounded-is_carry_bounded.false,
      ← c.is_light_within.ensures,
      c.if-not-is_light_within.false,
    )
