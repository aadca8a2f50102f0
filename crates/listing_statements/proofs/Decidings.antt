-- Deciding: the loop over the ids of a list, what a passed verdict tells, and the operation put together from its parts. Assumes nothing.
use Rattle.std.specs.Prelude.{◌≡◌, ◌&&◌, ◌||◌, ◌+◌, ◌/◌, ◌≤◌, ◌<◌}
use Rattle.laws.proofs.Prelude.{refl, ap, sym, ◌∙◌, Bool, true, false, not, and-true, List, ℕ, min, arith}
use Rattle.laws.proofs.Prelude.{not-false, ltb-false, ltb, length, get_or, take, drop, drop_of_length-le, length-take, drop-cons, get_or-take, given, all}
use Rattle.laws.proofs.Prelude.{all_again, all_end}
use Rattle.refusals.specs.Refusal.{Judgement, pass, refuse, unless, number_of}
use Rattle.refusals.specs.declared.Refusal.{Refusal}
use Rattle.refusals.proofs.Judging.{passed, or_left, or_right}
use Rattle.styling.specs.Ascending.{strictly_ascends_from, strictly_ascends}
use Rattle.layer_table.specs.Table.{Table}
use Rattle.layer_table.proofs.Judging as table-judging
use Rattle.cached_tile.specs.Kept.{tag_out_of_range}
use Rattle.queue_statements.proofs.Judging.{Judging}
use Rattle.pass_statements.specs.Item.{EntryColumns}
use Rattle.layer_workbench.specs.Work.{Decides}
use Rattle.layer_workbench.specs.declared.DecidedTile.{DecidedTile}
use Rattle.row_statements.specs.Lent.{layers_of, is_lent_short, is_lent_table}
use Rattle.listing_statements.specs.Deciding.{DecideCall, is_deciding_short, are_in_table, lines_for, deciding_verdict, deciding_out, decided_outcome, DecidesTile}
use Rattle.listing_statements.specs.InnerDeciding.{refused_deciding, done_deciding}
use Rattle.listing_statements.specs.declared.TileDecided.{TileDecided}

-- ---- 5: the ids are passed as those of a queue are

pub ascended : {n : ℕ} {ids : List ℕ} {i : ℕ} {ok : Bool} {low : ℕ} → Judging n ids i ok low → min n (length ids) ≤ i → ok ≡ strictly_ascends (take n ids)
unfolding strictly_ascends_from
ascended {n} {ids} {i} {ok} {low} v h =
    let past : length (take n ids) ≤ i = omega (arith, length-take n ids) in
    sym (and-true ok) ∙ ap (λ (l : List ℕ). ok && strictly_ascends_from low l) (sym (drop_of_length-le (take n ids) past)) ∙ v.judged

-- ---- 8: a test of each of the first n ids

module _ (p : ℕ → Bool) (n : ℕ) (ids : List ℕ) where
  pub record Testing (i : ℕ) (ok : Bool) : Type 0 where
    pub within : i ≤ n
    pub so_far : (ok && all p (drop i (take n ids))) ≡ all p (take n ids)

  pub test_start : Testing 0 true
  test_start = record { within = omega arith; so_far = refl }

  pub test_next : {i : ℕ} {ok b : Bool} → Testing i ok → i < n → n ≤ length ids → b ≡ p (get_or ids i 0) → Testing (i + 1) (ok && b)
  test_next {i} {ok} {b} v h long e =
      let listed = take n ids in
      let here : i < length listed = omega (arith, length-take n ids) in
      record {
        within = omega arith;
        so_far =
            rw (e, ← get_or-take n ids i 0 (omega arith)) (all_again listed i (drop-cons listed i 0 here) p ok (all p listed) v.so_far);
      }

  pub test_end : {i : ℕ} {ok : Bool} → Testing i ok → n ≤ i → ok ≡ all p (take n ids)
  test_end {i} {ok} v h =
      let past : length (take n ids) ≤ i = omega (arith, length-take n ids) in
      all_end (take n ids) i p ok (all p (take n ids)) (drop_of_length-le (take n ids) past) v.so_far

-- ---- 1 and 4 to 8

module _ (c : DecideCall) (unmasked : List Bool) where
  pub record Passed : Type 0 where
    pub columns : EntryColumns c.count c.list.ids c.list.covers c.list.flags
    pub in_table : Table c.table.words c.table.floats c.table.count
    pub masks : c.count ≤ length unmasked

  -- where 1 does not apply, there are 256 ids
  pub ids_room : is_deciding_short c unmasked ≡ false → 256 ≤ length c.list.ids
  ids_room e =
      let i = ltb (length c.list.ids) 256 in
      let v = ltb (length c.list.covers / 16) 256 in
      let s = ltb (length c.list.flags) 512 in
      let u = ltb (length unmasked) 256 in
      ltb-false (length c.list.ids) 256 (or_left i v (or_left (i || v) s (or_left (i || v || s) u (or_left (i || v || s || u) (is_lent_short c.table) e))))

  pub deciding_passed : deciding_verdict c unmasked ≡ pass → Passed
  unfolding lines_for
  deciding_passed e =
      let ids = take c.count c.list.ids in
      let eighth = unless (not (are_in_table (layers_of c.table) ids)) 8 pass in
      let seventh = unless (ltb 256 c.count) 7 eighth in
      let sixth = unless (tag_out_of_range c.kept) 6 seventh in
      let fifth = unless (not (strictly_ascends ids)) 5 sixth in
      let fourth = unless (not (is_lent_table c.table)) 4 fifth in
      let one = passed (is_deciding_short c unmasked) 1 fourth e in
      let four = passed (not (is_lent_table c.table)) 4 fifth one.1 in
      let five = passed (not (strictly_ascends ids)) 5 sixth four.1 in
      let six = passed (tag_out_of_range c.kept) 6 seventh five.1 in
      let seven = passed (ltb 256 c.count) 7 eighth six.1 in
      let few = ltb-false 256 c.count seven.0 in
      let i = ltb (length c.list.ids) 256 in
      let v = ltb (length c.list.covers / 16) 256 in
      let s = ltb (length c.list.flags) 512 in
      let u = ltb (length unmasked) 256 in
      let ivsu = or_left (i || v || s || u) (is_lent_short c.table) one.0 in
      let ivs = or_left (i || v || s) u ivsu in
      let iv = or_left (i || v) s ivs in
      record {
        columns =
            record {
              few = few;
              ids_long = omega (arith, few, ltb-false (length c.list.ids) 256 (or_left i v iv));
              covers_long = omega (arith, few, ltb-false (length c.list.covers / 16) 256 (or_right i v iv));
              flags_long = omega (arith, few, ltb-false (length c.list.flags) 512 (or_right (i || v) s ivs));
            };
        in_table = table-judging.table (not-false _ four.0);
        masks = omega (arith, few, ltb-false (length unmasked) 256 (or_right (i || v || s) u ivsu));
      }

  -- ---- the operation

  -- a refusal leaves everything as it was
  pub refused_by : {v : Judgement} {r : Refusal} {t : TileDecided} → v ≡ refuse (number_of r) → t ≡ refused_deciding c.kept r → DecidesTile (deciding_out v (decided_outcome c) c.count c.kept unmasked) t unmasked
  unfolding deciding_out
  refused_by {v} {r} {t} e h = rw (e, h) (record { answer = refl; kept = refl; unmasked_is = refl })

  -- an accepted deciding gives what the workbench decides
  pub done_by : {v : Judgement} {d : DecidedTile} {t : TileDecided} {back : List Bool} → v ≡ pass → t ≡ done_deciding d → Decides (decided_outcome c) c.kept c.count unmasked d back → DecidesTile (deciding_out v (decided_outcome c) c.count c.kept unmasked) t back
  unfolding deciding_out
  done_by {v} {d} {t} {back} e h made =
      rw (e, h) (record { answer = λ i. given (record { decision = made.decision i; skipped = made.skipped i }); kept = made.kept_is; unmasked_is = made.unmasked_are })
