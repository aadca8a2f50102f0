-- What holds while lines are printed one after another: the first k of them stand there, each in at most `wide` bytes.
-- Assumes nothing.
use Rattle.std.specs.Prelude.{◌≡◌, ◌++◌, ◌+◌, ◌*◌, ◌<◌, ◌≤◌}
use Rattle.laws.proofs.Prelude.{refl, sym, ap, subst, ◌∙◌, List, [], append_assoc, append-nil, ℕ, zero, suc}
use Rattle.laws.proofs.Prelude.{mul-le-mul_left, add-one, arith, ℤ, length, tabulate}
use native.Mathlib.Nat.{mul-zero, mul-suc}
use Rattle.decimal.specs.Print.{Printing}
use Rattle.decimal.proofs.Print.{joined}
use Rattle.lines.specs.Text.{line_text, lines_text, block_text}

lines_more : (n : ℕ) (f : ℕ → List ℤ) → lines_text (tabulate (suc n) f) ≡ lines_text (tabulate n f) ++ line_text (f n)
unfolding lines_text
lines_more zero f = append-nil (line_text (f 0))
lines_more (suc n) f =
    ap (λ (t : List ℕ). line_text (f 0) ++ t) (lines_more n (λ i. f (suc i)))
    ∙ sym (append_assoc (line_text (f 0)) (lines_text (tabulate n (λ i. f (suc i)))) (line_text (f (suc n))))

no_lines : {out : List ℕ} {at : ℕ} → Printing (lines_text []) out at at out
unfolding lines_text
no_lines = record { answer = omega arith; printed = refl }

pub record LinesPrinting (f : ℕ → List ℤ) (n wide : ℕ) (out₀ : List ℕ) (at end k : ℕ) (out : List ℕ) : Type 0 where
  pub within : k ≤ n
  pub long : length out ≡ length out₀
  pub few : end ≤ at + wide * k
  pub so_far : Printing (lines_text (tabulate k f)) out₀ at end out

pub start : {f : ℕ → List ℤ} {n wide at : ℕ} {out : List ℕ} → LinesPrinting f n wide out at at 0 out
start {wide = wide} = record { within = omega arith; long = refl; few = omega (arith, mul-zero wide); so_far = no_lines }

module _ {f : ℕ → List ℤ} {n wide : ℕ} {out₀ : List ℕ} {at end k : ℕ} {out : List ℕ} (v : LinesPrinting f n wide out₀ at end k out) where
  -- a line has the room that there is past all of them
  pub line_room : (more : ℕ) → at + wide * n + more ≤ length out₀ → end + more ≤ length out
  line_room more h = omega (arith, v.few, v.long, mul-le-mul_left wide v.within)

  pub next : {line : List ℤ} {r : ℕ} {out' : List ℕ} → k < n → length (line_text (f k)) ≤ wide → line ≡ f k → length out' ≡ length out
      → Printing (line_text line) out end r out' → LinesPrinting f n wide out₀ at r (k + 1) out'
  next {r = r} {out' = out'} h w e l q =
      let p = subst (λ (x : List ℤ). Printing (line_text x) out end r out') e q in
      record {
        within = omega arith;
        long = l ∙ v.long;
        few = rw (add-one k, mul-suc wide k) (omega (arith, v.few, p.answer));
        so_far = rw (add-one k, lines_more k f) (joined v.so_far p);
      }

  pub end_of : n ≤ k → Printing (lines_text (tabulate n f)) out₀ at end out × (end ≤ at + wide * n)
  end_of h =
      let all : k ≡ n = omega (arith, v.within) in
      subst (λ (m : ℕ). Printing (lines_text (tabulate m f)) out₀ at end out × (end ≤ at + wide * m)) all (v.so_far, v.few)

-- the names of a block, and then its lines
pub block : (names : List ℕ) (ls : List (List ℤ)) {out out₁ out₂ : List ℕ} {at p r : ℕ} → Printing names out at p out₁ → Printing (lines_text ls) out₁ p r out₂
    → Printing (block_text names ls) out at r out₂
unfolding block_text
block names ls p q = joined p q
