-- `work` meets its contract. Assumes nothing.
use Rattle.std.specs.Prelude.{◌≤◌}
use Rattle.laws.proofs.Prelude.{arith, length}
use Rattle.layer_table.specs.Table.{table_of}
use Rattle.queue_statements.specs.Queue.{queue_of}
use Rattle.tile_layers.specs.Groups.{groups_of}
use Rattle.tile_layers.specs.Listing.{layers_in}
use Rattle.tile_layers.proofs.Wide.{queue_wide, list_wide}
use Rattle.layer_carrying.proofs.Handing.{holds_back, hands_on}
use Rattle.layer_workbench.proofs.Decided.{worked}
use Rattle.layer_workbench.proofs.work.Goals as goal

pub list_layers-requires : goal.list_layers-requires
list_layers-requires c =
    (c.requires.0, c.requires.1, c.requires.2, record { ids_long = omega (arith, c.requires.3, c.requires.5, c.requires.6); covers_long = omega (arith, c.requires.3, c.requires.5, c.requires.6); flags_long = omega (arith, c.requires.3, c.requires.5, c.requires.6) }, c.requires.5)

pub decide_tile-decided-requires : goal.decide_tile-decided-requires
decide_tile-decided-requires c =
    let kept = c.list_layers.auto in (
      record {
        few = c.requires.6;
        ids_long = omega (arith, c.requires.3, c.requires.6, kept);
        covers_long = omega (arith, c.requires.3, c.requires.6, kept);
        flags_long = omega (arith, c.requires.3, c.requires.6, kept);
      },
      c.requires.2,
      omega (arith, c.requires.3, c.requires.6),
    )

pub hand_on-left-requires : goal.hand_on-left-requires
hand_on-left-requires c = (
  record { ids_long = omega (arith, c.requires.3, c.requires.5, c.requires.6, c.list_layers.auto); covers_long = omega (arith, c.requires.5, c.requires.6) },
  c.requires.2,
  record { ids_long = omega (arith, c.requires.3, c.requires.5, c.requires.6); covers_long = omega (arith, c.requires.3, c.requires.5, c.requires.6) },
)

pub returns : goal.returns
returns c =
    let a = c.args in
    let table = table_of a.layers.now a.colors.now a.count in
    let ls = layers_in (queue_of a.n a.ids.now a.covers.now) a.part.now in
    let few : length ls ≤ 256 = omega (arith, c.requires.5, c.requires.6) in
    let lists = c.list_layers.ensures in
    let told = worked table ls a.kept a.clear a.previous a.list_ids.now a.list_covers.now a.list_flags.now a.list_unmasked.now a.next_ids.now a.next_covers.now
    (list_wide (queue_of a.n a.ids.now a.covers.now) (groups_of a.part.now) (queue_wide a.n a.ids.now a.covers.now c.requires.1))
    c.requires.5 few c.requires.3.list_flags lists c.decide_tile-decided.ensures
    (hands_on table ls (holds_back ls a.list_ids.now c.requires.5 lists.ids_are c.requires.4) c.hand_on-left.ensures) in
    record { answer = told.0; list = told.1.0; queue = told.1.1 }
