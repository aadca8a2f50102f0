-- `text` meets its contract: an array of so many zeros has so many. Assumes nothing.
use Rattle.std.specs.Prelude.{◌≡◌}
use Rattle.std.proofs.Math.ListN.{replicate}
use Rattle.std.proofs.lemmas.List.{length-replicate}
use Rattle.laws.proofs.Prelude.{sym, ap, ◌∙◌, refl, List, ℕ, length}
use Rattle.compare.proofs.stored.rooms.text.Goals as goal

-- the number is a variable here, so that nothing counts to it
long : (n a : ℕ) (v : List ℕ) → v ≡ replicate n a → n ≡ length v
long n a v e = sym (length-replicate n a) ∙ ap length (sym e)

pub returns : goal.returns
returns c = long 540672 0 _ refl
