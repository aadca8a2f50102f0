-- `layers::ffi_is_opaque` meets its contract: the draw is the one of the numbers. Assumes nothing.
use Rattle.laws.proofs.Prelude.{ap, ◌∙◌}
use Rattle.styling.specs.Codes.{fill_of}
use Rattle.ffi.proofs.layers.ffi_is_opaque.Goals as goal

pub returns : goal.returns
returns c =
    let fill =
    c.fill-fill.ensures ∙ ap (fill_of c.args.fill) c.to_color.ensures in
    rw (c.is_opaque.ensures, c.blend_mode-blend_mode.ensures, fill)
