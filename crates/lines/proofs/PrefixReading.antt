-- Whether a prefix stands at a place, as the library tests it, and the text after it.
-- Assumes nothing.
use Rattle.std.specs.Prelude.{◌≡◌, ◌++◌, ◌+◌, ◌≤◌}
use Rattle.std.specs.List.{starts_with}
use Rattle.laws.proofs.Prelude.{refl, sym, ap, ◌∙◌, Bool, true, false, List, Option, Some, None, ℕ, arith, eqb, length, drop, drop-drop}
use Rattle.std.proofs.lemmas.Bool.Decides.{Decides-eqb}
use Rattle.std.proofs.lemmas.Slice.Eq.{starts_is}
use Rattle.lines.specs.Parse.{strip_prefix}
use Rattle.lines.specs.Read.{PrefixRead}
use Rattle.lines.proofs.Laws.{strip_prefix_complete, strip_prefix_sound}

module _ {prefix s : List ℕ} {at : ℕ} {r : Bool} (is : r ≡ starts_with eqb (drop at s) prefix) where
  pub passed : r ≡ true → at + length prefix ≤ length s → PrefixRead prefix s at (Some (at + length prefix))
  passed e h =
      let rest = drop (length prefix) (drop at s) in
      let text : drop at s ≡ prefix ++ rest = (starts_is Decides-eqb (drop at s) prefix r is).0 e in
      record {
        answer = ap Some (sym (drop-drop (length prefix) at s)) ∙ sym (ap (strip_prefix prefix) text ∙ strip_prefix_complete prefix rest);
        within = h;
      }

  pub other : r ≡ false → PrefixRead prefix s at None
  other e = record { answer = go (strip_prefix prefix (drop at s)) refl; within = omega arith }
    where
      go : (p : Option (List ℕ)) → strip_prefix prefix (drop at s) ≡ p → None ≡ strip_prefix prefix (drop at s)
      go None q = sym q
      go (Some u) q = let t : r ≡ true = (starts_is Decides-eqb (drop at s) prefix r is).1 u (strip_prefix_sound prefix (drop at s) u q) in cc
