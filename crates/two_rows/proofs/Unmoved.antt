-- Where only another layer's segments change, a layer's planes stay. Assumes nothing.
use Rattle.std.specs.Prelude.{◌≡◌, ◌∷◌, ◌+◌}
use Rattle.laws.proofs.Prelude.{refl, ap, ap₂, sym, ◌∙◌, Bool, true, false, cond, not, List, [], map, ℕ, suc, eqb-true, ne_eqb}
use Rattle.laws.proofs.Prelude.{eqb, filter, count_by}
use Rattle.pixel_segment.specs.Field.{cpu, layer_id_of}
use Rattle.styling.specs.declared.FillRule.{FillRule}
use Rattle.cover_statements.specs.WholeRow.{row_plane}
use Rattle.layer_carrying.specs.Carrying.{rule_in}
use Rattle.row_statements.specs.Lent.{LentTable, layers_of}
use Rattle.row_statements.specs.Due.{table_on}
use Rattle.two_rows.specs.Apart.{below_tile_y, layer_segments}
use Rattle.two_rows.specs.Unmoved.{without_layer, OthersUnmoved}
use Rattle.two_rows.proofs.Same.{plane_same}

-- a layer's segments are those of the row without another's
own_without : (id other : ℕ) → (id ≡ other → ⊥) → (row : List ℕ) → filter (λ w. eqb (layer_id_of cpu w) id) (without_layer other row) ≡ filter (λ w. eqb (layer_id_of cpu w) id) row
own_without id other apart [] = refl
own_without id other apart (w ∷ row) = by (eqb (layer_id_of cpu w) other) refl (own_without id other apart row)
  where
    by : (t : Bool) → eqb (layer_id_of cpu w) other ≡ t → filter (λ v. eqb (layer_id_of cpu v) id) (without_layer other row) ≡ filter (λ v. eqb (layer_id_of cpu v) id) row
        → filter (λ v. eqb (layer_id_of cpu v) id) (cond (not t) (w ∷ without_layer other row) (without_layer other row)) ≡ filter (λ v. eqb (layer_id_of cpu v) id) (w ∷ row)
    by true e rest =
        let no : eqb (layer_id_of cpu w) id ≡ false = ne_eqb (layer_id_of cpu w) id (λ same. apart (sym same ∙ eqb-true (layer_id_of cpu w) other e)) in
        rest ∙ sym (ap (λ (t : Bool). cond t (w ∷ filter (λ v. eqb (layer_id_of cpu v) id) row) (filter (λ v. eqb (layer_id_of cpu v) id) row)) no)
    by false e rest = ap (λ (l : List ℕ). cond (eqb (layer_id_of cpu w) id) (w ∷ l) l) rest

pub unmoved : OthersUnmoved
unmoved other o o' differ id apart =
    let own : filter (λ w. eqb (layer_id_of cpu w) id) o.row ≡ filter (λ w. eqb (layer_id_of cpu w) id) o'.row =
    sym (own_without id other apart o.row) ∙ ap (filter (λ w. eqb (layer_id_of cpu w) id)) differ.rest ∙ own_without id other apart o'.row in
    let often : (v : ℕ) → count_by (eqb v) (layer_segments id o.row) ≡ count_by (eqb v) (layer_segments id o'.row) =
    λ v. ap (λ (l : List ℕ). count_by (eqb v) (map below_tile_y l)) own in
    let rule : rule_in (table_on o) id ≡ rule_in (table_on o') id = ap (λ (t : LentTable). rule_in (layers_of t) id) differ.table in
    record {
      agree = record { first = differ.first; segments = often; rule = rule };
      planes = λ n. plane_same id o.row o'.row often (rule_in (table_on o) id) (suc (o.from + n)) ∙ ap₂ (λ (r : FillRule) (f : ℕ). row_plane cpu 16 r (suc (f + n)) id o'.row) rule differ.first;
    }
