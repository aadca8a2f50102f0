-- Whether whoever is in one list is in another still, as the same kind, as a public operation on the count that a tile keeps: two lists by ids and
-- kinds. Judged by 1 and 4 to 7, the lowest that applies; a refusal says its number and leaves the cached tile as it was. Else the answer is `stays`
-- of the two lists, and where it is no, the count's tag is dropped and nothing else. Asked twice, of the shown layers of the tile's last accepted work and of
-- today and then the other way, it is the comparison of the keep rule (`kept_frames/specs/Right`, `TwiceAlike`); asked once, of all that are listed, it is
-- not enough (`Wrong`, `KeptOtherwise`). A caller who wants the Rust's behaviour leaves the call out.
use Rattle.std.specs.Prelude.{◌≡◌, ◌&&◌, ◌||◌}
use Rattle.laws.specs.Prelude.{Bool, true, false, cond, not, List, ℕ, min, ltb, leb, length, get_or, Answer, refused, given, tabulate}
use Rattle.laws.specs.Prelude.{every}
use Rattle.refusals.specs.Refusal.{Judgement, pass, refuse, unless, number_of}
use Rattle.cached_tile.specs.Kept.{tag_out_of_range, changed}
use Rattle.cached_tile.specs.Tile.{drop_count}
use Rattle.cached_tile.specs.declared.kept.Kept as kept
use Rattle.queue_statements.specs.Queue.{is_queue}
use Rattle.kept_frames.specs.Stays.{Member, stays}
use Rattle.kept_count.specs.declared.CountAnswer.{CountAnswer}
use Rattle.kept_count.specs.declared.CountAnswer.TheVariants.{Refused, Stays, Dropped}
use Rattle.kept_count.specs.declared.CountKept.{CountKept}

-- ---- a lent list: layer ids and kinds, of which the first `count` entries count

pub record LentMembers : Type 0 where
  pub ids : List ℕ
  pub kinds : List ℕ
  pub count : ℕ

abbrev pub lent_members : List ℕ → List ℕ → ℕ → LentMembers
lent_members ids kinds count = record { ids = ids; kinds = kinds; count = count }

abbrev pub member_at : List ℕ → List ℕ → ℕ → Member
member_at ids kinds i = record { id = get_or ids i 0; kind = get_or kinds i 0 }

unfoldable pub members_of : List ℕ → List ℕ → ℕ → List Member
members_of ids kinds n = tabulate n (member_at ids kinds)

abbrev pub members_in : LentMembers → List Member
members_in l = members_of l.ids l.kinds l.count

-- ---- the verdict

-- 1: fewer than 256 entries
abbrev pub are_members_short : List ℕ → List ℕ → Bool
are_members_short ids kinds = ltb (length ids) 256 || ltb (length kinds) 256

-- 4 and 5 are judged of as many of the entries as a list has at most
abbrev pub judged_count : ℕ → ℕ
judged_count n = min n 256

-- 4 does not apply: every kind is 0, 1 or 2
abbrev pub are_kinds : List ℕ → ℕ → Bool
are_kinds kinds n = every n (λ i. leb (get_or kinds i 0) 2)

-- the lowest of 1 and 4 to 7 that applies
unfoldable pub keep_verdict : LentMembers → LentMembers → kept.Kept → Judgement
keep_verdict before now k =
    unless (are_members_short before.ids before.kinds || are_members_short now.ids now.kinds) 1
    (unless (not (are_kinds before.kinds (judged_count before.count) && are_kinds now.kinds (judged_count now.count))) 4
    (unless (not (is_queue (judged_count before.count) before.ids && is_queue (judged_count now.count) now.ids)) 5
    (unless (tag_out_of_range k) 6
    (unless (ltb 256 before.count || ltb 256 now.count) 7
    pass))))

-- ---- what it gives: its answer, and the cached tile

-- true: the count may stay
pub record CountGiven : Type 0 where
  pub answer : Answer Bool
  pub kept : kept.Kept

-- the tile without its count's tag; every other byte stays
abbrev pub uncounted : kept.Kept → kept.Kept
uncounted k = changed k (drop_count k.tile)

unfoldable pub keep_out : Judgement → Bool → kept.Kept → CountGiven
keep_out (refuse number) may k = record { answer = refused number; kept = k }
keep_out pass may k = record { answer = given may; kept = cond may k (uncounted k) }

abbrev pub keep_of : LentMembers → LentMembers → kept.Kept → CountGiven
keep_of before now k = keep_out (keep_verdict before now k) (stays (members_in before) (members_in now)) k

-- ---- the promise

-- the cases of the code's answer
abbrev pub count_answer : CountAnswer → Answer Bool
count_answer (Refused r) = refused (number_of r)
count_answer Stays = given true
count_answer Dropped = given false

pub record KeepsCount (g : CountGiven) (r : CountKept) : Type 0 where
  pub answer : count_answer r.answer ≡ g.answer
  pub kept : r.kept ≡ g.kept
