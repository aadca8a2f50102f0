-- The work on a tile: what a passed verdict tells, and the operation put together from its parts. Assumes nothing.
use Rattle.std.specs.Prelude.{◌≡◌, ◌||◌, ◌/◌, ◌≤◌, ◌<◌}
use Rattle.laws.proofs.Prelude.{refl, ap, sym, subst, ◌∙◌, Bool, true, false, not, List, ℕ, suc, arith, not-false}
use Rattle.laws.proofs.Prelude.{ltb-false, leb-false, eqb-true, ltb, leb, eqb, ℤ, pos, length, lt_z, given, plus, minus, whole, equal, lt_false}
use Rattle.refusals.specs.Refusal.{Judgement, pass, refuse, unless, and_then, number_of}
use Rattle.refusals.specs.declared.Refusal.{Refusal}
use Rattle.refusals.proofs.Judging.{passed, or_left, or_right}
use Rattle.pixel_segment.specs.Field.{cpu, layer_id_of}
use Rattle.segment_rows.specs.Rows.{Words, Ordered, is_row}
use Rattle.segment_rows.specs.Search.{tile_part}
use Rattle.layer_table.proofs.Judging as table-judging
use Rattle.styling.specs.declared.Layer.{Layer}
use Rattle.queue_statements.specs.Queue.{is_queue}
use Rattle.queue_statements.proofs.Judging as queue-judging
use Rattle.cached_tile.specs.Kept.{tag_out_of_range}
use Rattle.tile_layers.specs.Listing.{Listed, layers_in, are_known, are_light}
use Rattle.layer_carrying.specs.Carrying.{handed_on}
use Rattle.row_carries.proofs.Parts.{tile_ordered}
use Rattle.layer_workbench.specs.Work.{outcome_in, Works, ListWritten, QueueWritten, Rooms}
use Rattle.layer_workbench.specs.declared.Worked.{Worked}
use Rattle.row_statements.specs.Lent.{ListColumns, LentTable, carries_in, is_queue_short, is_list_short, layers_of, is_lent_short, is_lent_table}
use Rattle.row_statements.specs.State.{State, next_state, is_stray, is_not_next, is_wrong_next}
use Rattle.row_statements.specs.Conditions.{first_five}
use Rattle.row_statements.specs.TileWork.{WorkCall, WorkLent, list_verdict, args_verdict, is_short_for, says_for, work_out, GivesWork}
use Rattle.row_statements.specs.InnerWork.{judged_by, judged_with, refused_work, done_work, WorkJudged}
use Rattle.row_statements.specs.declared.RowState.{RowState}
use Rattle.row_statements.specs.declared.TileWorked.{TileWorked}
use Rattle.row_statements.specs.State.{state_in}

-- ---- 2: where the state is one of a row's

pub record InRow (s : State) : Type 0 where
  pub tile_y : s.tile_y ≤ 2046
  pub last : s.to ≤ 4095
  pub first : s.from ≤ s.next
  pub within : s.next ≤ s.to

pub in_row_lem : (s : State) → is_stray s ≡ false → InRow s
in_row_lem s e =
    let t1 = ltb 2046 s.tile_y in
    let t2 = t1 || ltb 4095 s.to in
    let t3 = t2 || ltb s.next s.from in
    let e3 = or_left t3 (ltb s.to s.next) e in
    let e2 = or_left t2 (ltb s.next s.from) e3 in
    record {
      tile_y = ltb-false 2046 s.tile_y (or_left t1 (ltb 4095 s.to) e2);
      last = ltb-false 4095 s.to (or_right t1 (ltb 4095 s.to) e2);
      first = ltb-false s.next s.from (or_right t2 (ltb s.next s.from) e3);
      within = ltb-false s.to s.next (or_right t3 (ltb s.to s.next) e);
    }

-- and the tile is its next one
pub record IsNext (s : State) (tile : ℤ) : Type 0 where
  pub inside : s.next < s.to
  pub is_tile : tile ≡ pos s.next

pub is_next : (s : State) (tile : ℤ) → is_not_next s tile ≡ false → IsNext s tile
is_next s tile e =
    let end = leb s.to s.next in
    let low = end || lt_z tile (pos 0) in
    let e1 = or_left low (not (eqb (plus tile) s.next)) e in
    let natural = lt_false tile (pos 0) (or_right end (lt_z tile (pos 0)) e1) in
    let same = eqb-true (plus tile) s.next (not-false _ (or_right low (not (eqb (plus tile) s.next)) e)) in
    record {
      inside = leb-false s.to s.next (or_left end (lt_z tile (pos 0)) e1);
      is_tile = equal tile (pos s.next) (omega (arith, whole tile, natural, same));
    }

-- ---- 7, 8 and 9: at most 256 layers, each in the table, and none too heavy

pub record Listable (layers : List Layer) (ls : List Listed) : Type 0 where
  pub few : length ls ≤ 256
  pub known : are_known layers ls ≡ true
  pub light : are_light ls ≡ true

pub list_passed : (layers : List Layer) (ls : List Listed) → list_verdict layers ls ≡ pass → Listable layers ls
unfolding list_verdict
list_passed layers ls e =
    let seven = passed _ _ _ e in
    let eight = passed _ _ _ seven.1 in
    let nine = passed _ _ _ eight.1 in
    record { few = ltb-false 256 (length ls) seven.0; known = not-false _ eight.0; light = not-false _ nine.0 }

-- the lines below the first five follow where those pass
pub five_then : (short wrong : Bool) (tile_y : ℕ) (row : List ℕ) (table : LentTable) (n : ℕ) (ids : List ℕ) (below : Judgement) → and_then (first_five short wrong tile_y row table n ids pass) below ≡ first_five short wrong tile_y row table n ids below
five_then short wrong tile_y row table n ids below = by short wrong (not (is_row cpu (suc tile_y) row)) (not (is_lent_table table)) (not (is_queue n ids))
  where
    by : (one two three four five : Bool) → and_then (unless one 1 (unless two 2 (unless three 3 (unless four 4 (unless five 5 pass))))) below ≡ unless one 1 (unless two 2 (unless three 3 (unless four 4 (unless five 5 below))))
    by true two three four five = refl
    by false true three four five = refl
    by false false true four five = refl
    by false false false true five = refl
    by false false false false true = refl
    by false false false false false = refl

-- where 1 does not apply, there are two flags for each of 256 entries
pub flags_room : (l : ListColumns) → is_list_short l ≡ false → 512 ≤ length l.flags
flags_room l e =
    let iv = ltb (length l.ids) 256 || ltb (length l.covers / 16) 256 in
    let s = ltb (length l.flags) 512 in
    ltb-false (length l.flags) 512 (or_right iv s (or_left (iv || s) (ltb (length l.unmasked) 256) e))

module _ (c : WorkCall) (lent : WorkLent) where
  -- ---- 1 to 6

  pub judged_args : judged_with (is_short_for c lent) c.state c.tile c.row c.table c.kept c.queue.ids ≡ args_verdict c lent
  unfolding judged_by args_verdict
  judged_args =
      five_then (is_short_for c lent) (is_wrong_next c.state c.tile) c.state.tile_y c.row c.table c.state.left c.queue.ids (unless (tag_out_of_range c.kept) 6 pass)

  pub record Passed : Type 0 where
    pub queue_room : is_queue_short c.queue ≡ false
    pub next_room : is_queue_short lent.queue ≡ false
    pub list_room : is_list_short lent.list ≡ false
    pub in_state : InRow c.state
    pub next : IsNext c.state c.tile
    pub ascends : is_row cpu (suc c.state.tile_y) c.row ≡ true
    pub in_table : is_lent_table c.table ≡ true
    pub in_queue : is_queue c.state.left c.queue.ids ≡ true

  pub args_passed : args_verdict c lent ≡ pass → Passed
  unfolding args_verdict
  args_passed e =
      let q = is_queue_short c.queue in
      let n = is_queue_short lent.queue in
      let t = is_lent_short c.table in
      let l = is_list_short lent.list in
      let one = passed _ _ _ e in
      let two = passed _ _ _ one.1 in
      let three = passed _ _ _ two.1 in
      let four = passed _ _ _ three.1 in
      let five = passed _ _ _ four.1 in
      let qn = or_left (q || n) t (or_left (q || n || t) l one.0) in
      record {
        queue_room = or_left q n qn;
        next_room = or_right q n qn;
        list_room = or_right (q || n || t) l one.0;
        in_state = in_row_lem c.state (or_left (is_stray c.state) (is_not_next c.state c.tile) two.0);
        next = is_next c.state c.tile (or_right (is_stray c.state) (is_not_next c.state c.tile) two.0);
        ascends = not-false _ three.0;
        in_table = not-false _ four.0;
        in_queue = not-false _ five.0;
      }

  rooms : Passed → Rooms lent.list.ids lent.list.covers lent.list.flags lent.list.unmasked lent.queue.ids lent.queue.covers
  rooms p =
      let i = ltb (length lent.list.ids) 256 in
      let v = ltb (length lent.list.covers / 16) 256 in
      let s = ltb (length lent.list.flags) 512 in
      let h = ltb (length lent.list.unmasked) 256 in
      let ivs = or_left (i || v || s) h p.list_room in
      let iv = or_left (i || v) s ivs in
      let covers = ltb-false (length lent.list.covers / 16) 256 (or_right i v iv) in
      let q = queue-judging.room {ids = lent.queue.ids} {covers = lent.queue.covers} p.next_room in
      record {
        list_ids = ltb-false (length lent.list.ids) 256 (or_left i v iv);
        list_covers = omega (arith, covers);
        list_flags = flags_room lent.list p.list_room;
        list_unmasked = ltb-false (length lent.list.unmasked) 256 (or_right (i || v || s) h p.list_room);
        queue_ids = q.ids_long;
        queue_covers = q.covers_long;
      }

  pub judged : Words c.row → Passed → WorkJudged c lent
  judged w p =
      let n = p.next in
      let q = queue-judging.ordered c.state.left c.queue.ids p.in_queue in
      let room = queue-judging.room {ids = c.queue.ids} {covers = c.queue.covers} p.queue_room in
      record {
        tile_natural = ap minus n.is_tile;
        tile_low = omega (arith, ap plus n.is_tile, n.inside, p.in_state.last);
        next_low = omega (arith, n.inside, p.in_state.last);
        walks =
            record {
              few = q.few;
              long = omega (arith, q.few, room.ids_long);
              ordered = subst (λ (t : ℤ). Ordered (layer_id_of cpu) (tile_part t c.row)) (sym n.is_tile) (tile_ordered (record { words = w; is_row_lem = p.ascends }) c.state.next);
            };
        covers_long = omega (arith, q.few, room.covers_long);
        in_table = table-judging.table p.in_table;
        rooms = rooms p;
      }

  -- ---- the operation

  -- a refusal leaves everything as it was
  pub refused_by : {v : Judgement} {r : Refusal} {s : RowState} {t : TileWorked} → v ≡ refuse (number_of r) → state_in s ≡ c.state → t ≡ refused_work s c.kept r → GivesWork (work_out v (says_for c) c.state c.kept lent) t lent
  unfolding work_out
  refused_by {v} {r} {s} {t} e es h = rw (e, h) (record { answer = refl; state = es; kept = refl; lent_is = refl })

  -- an accepted work gives what the workbench does
  pub done_by : (s : RowState) {v : Judgement} {w : Worked} {t : TileWorked} {queueIds : List ℕ} {queueCovers : List ℤ} {ids : List ℕ} {covers : List ℤ} {flags unmasked : List Bool} (part : List ℕ) → part ≡ tile_part c.tile c.row → v ≡ pass → state_in s ≡ c.state → t ≡ done_work s w
      → Works (layers_of c.table) c.kept c.clear c.previous (layers_in (carries_in c.state.left c.queue) part) w
      → ListWritten (layers_of c.table) (layers_in (carries_in c.state.left c.queue) part) (outcome_in (layers_of c.table) c.kept c.clear c.previous (layers_in (carries_in c.state.left c.queue) part)) lent.list.ids lent.list.covers lent.list.flags lent.list.unmasked ids covers flags unmasked
      → QueueWritten (handed_on (layers_of c.table) (layers_in (carries_in c.state.left c.queue) part)) lent.queue.ids lent.queue.covers queueIds queueCovers
      → GivesWork (work_out v (says_for c) c.state c.kept lent) t (record { queue = record { ids = queueIds; covers = queueCovers }; list = record { ids = ids; covers = covers; flags = flags; unmasked = unmasked } })
  unfolding work_out
  done_by s {v} {w} {t} part found e es h works₀ list₀ q₀ =
      let works = rw found at works₀ in
      let list = rw found at list₀ in
      let q = rw found at q₀ in
      rw (e, h)
      (record {
        answer = λ i. given (record { decision = works.decision i; listed = works.listed i; skipped = works.skipped i });
        state = ap (λ (x : State). next_state x w.left) es ∙ ap (next_state c.state) works.handed;
        kept = works.kept_is;
        lent_is =
            λ i.
            record {
              queue = record { ids = q.ids_are i; covers = q.covers_are i };
              list = record { ids = list.ids_are i; covers = list.covers_are i; flags = list.flags_are i; unmasked = list.unmasked_are i };
            };
      })
