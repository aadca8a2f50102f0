-- The operation, called twice, is the comparison of the keep rule. Assumes nothing.
use Rattle.std.specs.Prelude.{◌≡◌, ◌&&◌, ◌%◌}
use Rattle.laws.proofs.Prelude.{refl, sym, ap, ap₂, ◌∙◌, Bool, true, false, cond, List, ℕ, arith, bit_and}
use lib.Bits.{and_mask}
use Rattle.refusals.specs.Refusal.{Judgement, pass}
use Rattle.cached_tile.specs.Tile.{drop_count}
use Rattle.cached_tile.specs.declared.CachedTile.{CachedTile}
use Rattle.cached_tile.specs.declared.kept.Kept as kept
use Rattle.kept_frames.specs.Stays.{Member, stays}
use Rattle.kept_frames.specs.Right.{shown_members}
use Rattle.kept_frames.proofs.Twice.{twice_alike}
use Rattle.kept_count.specs.Keeping.{LentMembers, members_in, keep_verdict, keep_out, keep_of, KeepsCount}
use Rattle.kept_count.specs.declared.CountKept.{CountKept}
use Rattle.kept_rows.specs.History.{lent_tile, kept_if}
use Rattle.kept_rows.specs.Protocol.{OperationAllows}

kept_by : (v : Judgement) (may : Bool) (k : CachedTile) → v ≡ pass → (keep_out v may (lent_tile k)).kept ≡ lent_tile (kept_if may k)
unfolding keep_out
kept_by v may k e = rw e (by may)
  where
    by : (t : Bool) → (keep_out pass t (lent_tile k)).kept ≡ lent_tile (cond t k (drop_count k))
    by true = refl
    by false = refl

-- one accepted call
asked : (last today : LentMembers) (before now : List Member) (k : CachedTile) (lent : kept.Kept) (r : CountKept) → members_in last ≡ before
    → members_in today ≡ now → lent ≡ lent_tile k
    → keep_verdict last today lent ≡ pass → KeepsCount (keep_of last today lent) r → r.kept ≡ lent_tile (kept_if (stays before now) k)
asked last today before now k lent r b n e v g =
    g.kept
    ∙ ap (λ (x : kept.Kept). (keep_of last today x).kept) e
    ∙ kept_by _ (stays (members_in last) (members_in today)) k (ap (keep_verdict last today) (sym e) ∙ v)
    ∙ ap (λ (may : Bool). lent_tile (kept_if may k)) (ap₂ (λ (x y : List Member). stays x y) b n)

-- a count that is dropped twice is dropped
and_twice : (n : ℕ) → bit_and (bit_and n 1) 1 ≡ bit_and n 1
and_twice n =
    let once : bit_and n 1 ≡ n % 2 = and_mask n 1 in
    let again : n % 2 % 2 ≡ n % 2 = omega arith in
    and_mask (bit_and n 1) 1 ∙ ap (λ (m : ℕ). m % 2) once ∙ again ∙ sym once

kept_twice : (a b : Bool) (k : CachedTile) → kept_if b (kept_if a k) ≡ kept_if (a && b) k
kept_twice true b k = refl
kept_twice false true k = refl
kept_twice false false k = let same = and_twice k.tags in λ i. record { tags = same i; layer_count = k.layer_count; solid_color = k.solid_color }

pub operation_allows : OperationAllows
operation_allows before now last today k once twice up up' b n s =
    let old = shown_members before in
    let new = shown_members now in
    let first = asked last today old new k (lent_tile k) once b n refl s.first_passes s.first_gives in
    asked today last new old (kept_if (stays old new) k) once.kept twice n b first s.second_passes s.second_gives
    ∙ ap lent_tile (kept_twice (stays old new) (stays new old) k ∙ ap (λ (may : Bool). kept_if may k) (twice_alike before now up up'))
