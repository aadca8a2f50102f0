-- What a passed verdict tells, and the operation put together from its parts. Assumes nothing.
use Rattle.std.specs.Prelude.{◌≡◌, ◌&&◌, ◌||◌, ◌≤◌}
use Rattle.laws.proofs.Prelude.{refl, sym, ap, ◌∙◌, Bool, true, false, not, List, ℕ, min, arith, not-false, ltb-false, ltb}
use Rattle.laws.proofs.Prelude.{length, take, left, right}
use Rattle.refusals.specs.Refusal.{Judgement, pass, refuse, unless, number_of}
use Rattle.refusals.specs.declared.Refusal.{Refusal}
use Rattle.refusals.proofs.Judging.{passed, or_left, or_right}
use Rattle.styling.specs.Ascending.{strictly_ascends}
use Rattle.cached_tile.specs.Kept.{tag_out_of_range}
use Rattle.cached_tile.specs.declared.kept.Kept.{Kept}
use Rattle.queue_statements.specs.Queue.{is_queue}
use Rattle.queue_statements.proofs.Judging.{ordered}
use Rattle.kept_count.specs.Keeping.{LentMembers, are_members_short, judged_count, are_kinds, keep_verdict, keep_out, KeepsCount}
use Rattle.kept_count.specs.InnerKeeping.{MembersLent, answered_by}
use Rattle.kept_count.specs.declared.CountAnswer.TheVariants.{Refused}
use Rattle.kept_count.specs.declared.CountKept.{CountKept}

pub record Room (ids kinds : List ℕ) : Type 0 where
  pub ids_long : 256 ≤ length ids
  pub kinds_long : 256 ≤ length kinds

pub room : (ids kinds : List ℕ) → are_members_short ids kinds ≡ false → Room ids kinds
room ids kinds e =
    let i = ltb (length ids) 256 in
    let k = ltb (length kinds) 256 in
    record { ids_long = ltb-false (length ids) 256 (or_left i k e); kinds_long = ltb-false (length kinds) 256 (or_right i k e) }

lent : (l : LentMembers) → Room l.ids l.kinds → is_queue (judged_count l.count) l.ids ≡ true → ltb 256 l.count ≡ false → MembersLent l.ids l.kinds l.count
lent l r q f =
    let few : l.count ≤ 256 = ltb-false 256 l.count f in
    let all_of : min l.count 256 ≡ l.count = omega (arith, few) in
    record {
      few = few;
      ids_long = omega (arith, few, r.ids_long);
      kinds_long = omega (arith, few, r.kinds_long);
      ascending = ap (λ (n : ℕ). strictly_ascends (take n l.ids)) (sym all_of) ∙ (ordered (min l.count 256) l.ids q).ascending;
    }

-- where nothing is refused, both lists are as the walk asks them to be
module _ (last today : LentMembers) (k : Kept) where
  pub keep_passed : keep_verdict last today k ≡ pass → MembersLent last.ids last.kinds last.count × MembersLent today.ids today.kinds today.count
  unfolding keep_verdict
  keep_passed e =
      let short = are_members_short last.ids last.kinds in
      let short' = are_members_short today.ids today.kinds in
      let kinds = are_kinds last.kinds (judged_count last.count) && are_kinds today.kinds (judged_count today.count) in
      let up = is_queue (judged_count last.count) last.ids in
      let up' = is_queue (judged_count today.count) today.ids in
      let many = ltb 256 last.count in
      let many' = ltb 256 today.count in
      let seventh = unless (many || many') 7 pass in
      let sixth = unless (tag_out_of_range k) 6 seventh in
      let fifth = unless (not (up && up')) 5 sixth in
      let fourth = unless (not kinds) 4 fifth in
      let one = passed (short || short') 1 fourth e in
      let four = passed (not kinds) 4 fifth one.1 in
      let five = passed (not (up && up')) 5 sixth four.1 in
      let six = passed (tag_out_of_range k) 6 seventh five.1 in
      let seven = passed (many || many') 7 pass six.1 in
      let order = not-false (up && up') five.0 in (
        lent last (room last.ids last.kinds (or_left short short' one.0)) (left up up' order) (or_left many many' seven.0),
        lent today (room today.ids today.kinds (or_right short short' one.0)) (right up up' order) (or_right many many' seven.0),
      )

-- a refusal leaves the tile as it was
pub refused_by : (may : Bool) {v : Judgement} {k : Kept} {r : Refusal} → v ≡ refuse (number_of r) → KeepsCount (keep_out v may k) (record { kept = k; answer = Refused r })
unfolding keep_out
refused_by may {v} {k} {r} e = rw e (record { answer = refl; kept = refl })

-- and else the tile keeps its count or loses it
pub done_by : (k : Kept) {v : Judgement} {may b : Bool} {r : CountKept} → v ≡ pass → b ≡ may → r ≡ answered_by b k → KeepsCount (keep_out v may k) r
unfolding keep_out
done_by k {v} {may} {b} {r} e f h = rw (e, h, f) (by may)
  where
    by : (t : Bool) → KeepsCount (keep_out pass t k) (answered_by t k)
    by true = record { answer = refl; kept = refl }
    by false = record { answer = refl; kept = refl }
