-- A part of a buffer that bytes were copied to: they are printed there.
-- Assumes nothing.
use Rattle.std.specs.Prelude.{◌≡◌, ◌+◌, ◌-◌, ◌≤◌}
use Rattle.laws.proofs.Prelude.{refl, sym, ◌∙◌, List, ℕ, append_assoc, arith, length, take, drop, sets-eq}
use Rattle.decimal.specs.Print.{Printing}
use borrow.Rule.Slice.PartMut.{put_mid, Post-is}

pub copied : {src out part : List ℕ} {at : ℕ} → at + length src ≤ length out → part ≡ src
    → Printing src out at (at + length src) (put_mid at (at + length src - at) out part)
copied {src} {out} {part} {at} h e = record {
  answer = refl;
  printed = rw (e, Post-is at (at + length src) out (omega arith)) (sym (sets-eq src out at h ∙ append_assoc (take at out) src (drop (at + length src) out)));
}
