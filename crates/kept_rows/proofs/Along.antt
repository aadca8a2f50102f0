-- Rows whose flags are truthful: so are the flags of each tile's list, and an unchanged layer has the coverages of then. Assumes nothing.
use Rattle.std.specs.Prelude.{◌≡◌, ◌+◌}
use Rattle.laws.proofs.Prelude.{sym, ap, ◌∙◌, map, ℕ, arith, Answer}
use Rattle.styling.specs.declared.Props.{Props}
use Rattle.layer_workbench.specs.Work.{entry_of}
use Rattle.row_carries.proofs.Carried.{layers_ascend}
use Rattle.row_carries.proofs.Covered.{items_ascend}
use Rattle.row_statements.specs.Due.{OpenRow, table_on, layers_on, plane_on}
use Rattle.row_statements.specs.InnerHolding.{IsOpen}
use Rattle.row_statements.proofs.Run.{accepted, is_open}
use Rattle.two_rows.specs.Apart.{entry_in}
use Rattle.two_rows.proofs.Same.{same_layer}
use Rattle.kept_rows.specs.Along.{SameIn, RowTold, items_on, ToldAlong, RowsTold}
use Rattle.kept_rows.proofs.Present.{present_item, was_from, Founds, told_from}

module _ {o o' : OpenRow} (i : IsOpen o) (i' : IsOpen o') (told : RowTold o o') (n n' : ℕ) (tile : o.from + n ≡ o'.from + n') where
  -- rows that agree on a layer begin at one tile, so the tile has one place
  place : {id : ℕ} → SameIn id o o' → n ≡ n'
  place same = omega (arith, tile, same.agree.first)

  founds : Founds (items_on o n) (table_on o') (layers_on o' n')
  founds id p e c x h =
      let same = told id c in
      let entry = (same_layer i i' same.agree n).entry ∙ ap (λ (m : ℕ). entry_in (map (entry_of (table_on o')) (layers_on o' m)) id) (place same) ∙ e in
      was_from (table_on o) (map (entry_of (table_on o)) (layers_on o n)) id p entry x (ap (λ (a : Answer Props). present_item a p) same.props ∙ sym h)

  pub told_along : ToldAlong o o' n n'
  told_along =
      record {
        frames =
            record {
              up_before = items_ascend i.in_order (table_on o) o.from n;
              up_now = items_ascend i'.in_order (table_on o') o'.from n';
              told = told_from (items_on o n) (table_on o') (layers_on o' n') 0 (layers_ascend i'.in_order (table_on o') o'.from n') founds;
            };
        planes = λ id c. let same = told id c in (same_layer i i' same.agree n).plane ∙ ap (λ (m : ℕ). plane_on o' m id) (place same);
      }

pub rows_told : RowsTold
rows_told c c' lent lent' back back' s s' w w' g g' told n n' tile =
    told_along (is_open c lent back s w (accepted c lent back s g)) (is_open c' lent' back' s' w' (accepted c' lent' back' s' g')) told n n' tile
