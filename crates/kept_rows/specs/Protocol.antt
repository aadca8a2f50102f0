-- The layers of the keep rule are compared by the operation `keep_count`, called twice: with the shown layers of the tile's last accepted work and of
-- today, and then the other way with the cached tile that the first call gave back. What it leaves is the cached tile that the theorem over frames asks
-- for, where the clear colour has the bits of then; where it has not, a caller drops the count itself.
use Rattle.std.specs.Prelude.{◌≡◌}
use Rattle.laws.specs.Prelude.{true, List}
use Rattle.refusals.specs.Refusal.{pass}
use Rattle.cached_tile.specs.declared.CachedTile.{CachedTile}
use Rattle.pass_statements.specs.Rules.{is_ascending}
use Rattle.pass_statements.specs.declared.item.Item.{Item}
use Rattle.kept_frames.specs.Alike.{layers_alike}
use Rattle.kept_frames.specs.Right.{shown_members}
use Rattle.kept_count.specs.Keeping.{LentMembers, members_in, keep_verdict, keep_of, KeepsCount}
use Rattle.kept_count.specs.declared.CountKept.{CountKept}
use Rattle.kept_rows.specs.History.{lent_tile, kept_if}

-- both calls are accepted
pub record AskedTwice (last today : LentMembers) (k : CachedTile) (once twice : CountKept) : Type 0 where
  pub first_passes : keep_verdict last today (lent_tile k) ≡ pass
  pub first_gives : KeepsCount (keep_of last today (lent_tile k)) once
  pub second_passes : keep_verdict today last once.kept ≡ pass
  pub second_gives : KeepsCount (keep_of today last once.kept) twice

abbrev pub OperationAllows : Type 0
OperationAllows =
    (before now : List Item) (last today : LentMembers) (k : CachedTile) (once twice : CountKept) →
    is_ascending before ≡ true →
    is_ascending now ≡ true →
    members_in last ≡ shown_members before →
    members_in today ≡ shown_members now →
    AskedTwice last today k once twice →
    twice.kept ≡ lent_tile (kept_if (layers_alike before now) k)
