-- `four_high::ffi_gpu_fields` meets its contract: each number is that of its reader. Assumes nothing.
use Rattle.laws.proofs.Prelude.{◌∙◌, w8, w16, kept}
use Rattle.ffi.proofs.four_high.ffi_gpu_fields.Goals as goal

pub returns : goal.returns
returns c =
    record { layer_id_after = c.layer_id.ensures; tile_x_after = kept w16 c.tile_x.result c.tile_x.type_inv ∙ c.tile_x.ensures; tile_y_after = kept w16 c.tile_y.result c.tile_y.type_inv ∙ c.tile_y.ensures; local_x_after = c.local_x.ensures; local_y_after = c.local_y.ensures; double_area_multiplier_after = c.double_area_multiplier.ensures; double_area_after = kept w16 c.double_area.result c.double_area.type_inv ∙ c.double_area.ensures; cover_after = kept w8 c.cover.result c.cover.type_inv ∙ c.cover.ensures }
