-- `covers::cover_within` meets its contract. Assumes nothing.
use Rattle.std.specs.Prelude.{◌≡◌}
use Rattle.laws.proofs.Prelude.{sym, ◌∙◌, true, false, eq-eqb, ne_eqb, eqb, w8, kept}
use Rattle.pixel_segment.specs.Field.{gpu, layer_id_of}
use Rattle.layer_row_gpu.proofs.covers.cover_within.Goals as goal

pub returns-then-layer_id : goal.returns-then-layer_id
returns-then-layer_id c =
    let own : eqb (layer_id_of gpu c.args.segment.0) c.args.layer_id ≡ true = eq-eqb _ _ (sym c.layer_id.ensures ∙ c.if-layer_id.true) in
    rw (own, kept w8 c.cover.result c.cover.type_inv) c.cover.ensures

pub returns-else-layer_id : goal.returns-else-layer_id
returns-else-layer_id c =
    let other : eqb (layer_id_of gpu c.args.segment.0) c.args.layer_id ≡ false = ne_eqb _ _ (λ e. c.if-layer_id.false (c.layer_id.ensures ∙ e)) in
    rw other
