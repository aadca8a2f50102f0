-- `put_place` meets its contract. Assumes nothing.
use Rattle.laws.proofs.Prelude.{SFits, refl, rules, to_z-of_z, w16}
use Rattle.ffi_sets.proofs.put_place.Goals as goal

pub returns-in-Err : goal.returns-in-Err
returns-in-Err c = rw c.in-Err.is refl

pub returns-in-Ok : goal.returns-in-Ok
returns-in-Ok c =
    let s = c.args.set in
    let x : SFits w16 s.tile_x = search rules in
    let y : SFits w16 s.tile_y = search rules in
    rw (c.in-Ok.is, to_z-of_z x, to_z-of_z y) refl
