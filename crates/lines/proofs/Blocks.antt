-- Each answer of `read_block`, from what the names and the lines after them give.
-- Assumes nothing.
use Rattle.std.specs.Prelude.{Option, Some, None}
use Rattle.laws.proofs.Prelude.{refl, ap, subst, List, flatten, ℕ, arith, ℤ, drop}
use Rattle.lines.specs.Parse.{ParsedLines, parse_lines, after_names, parse_block}
use Rattle.lines.specs.Read.{PrefixRead, LinesRead}

module _ (m k : ℕ) {prefix s : List ℕ} {at : ℕ} where
  pub no_names : {out : List ℤ} → PrefixRead prefix s at None → LinesRead (parse_block prefix m k (drop at s)) s out None out
  unfolding parse_block flatten
  no_names {out} h =
      subst (λ (q : ParsedLines). LinesRead q s out None out) (ap (after_names m k) h.answer)
      (record { answer = refl; within = omega arith; count = tt; stored = refl })

  pub names_then : {i : ℕ} {out : List ℤ} {r : Option (ℕ × ℕ)} {out' : List ℤ} → PrefixRead prefix s at (Some i) → LinesRead (parse_lines m k (drop i s)) s out r out'
      → LinesRead (parse_block prefix m k (drop at s)) s out r out'
  unfolding parse_block
  names_then {i} {out} {r} {out'} h q = subst (λ (x : ParsedLines). LinesRead x s out r out') (ap (after_names m k) h.answer) q
