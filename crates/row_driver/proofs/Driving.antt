-- The lines of a driven row, as the loop over its tiles goes: with the lines that are left, the lent array is as all lines leave it. Assumes
-- nothing.
use Rattle.std.specs.Prelude.{◌≡◌, ◌∷◌, ◌++◌, ◌+◌, ◌-◌, ◌*◌, ◌≤◌, ◌<◌, Ok, Err}
use Rattle.laws.proofs.Prelude.{refl, ap, ap₂, sym, ◌∙◌, List, [], flatten, Some, ℕ, zero, suc}
use Rattle.laws.proofs.Prelude.{zero-add, add-one, arith, length, drop, sets, sets-eq, length-sets, over}
use Rattle.refusals.specs.Refusal.{Judgement, pass, refuse, number_of}
use Rattle.refusals.specs.declared.Refusal.{Refusal}
use Rattle.row_statements.specs.TileWork.{list_verdict}
use Rattle.row_statements.specs.Due.{OpenRow, table_on, layers_on}
use Rattle.row_lines.specs.Lines.{RowLines, lines_by, lines_from, line_on, line_words, lines_words}
use Rattle.row_lines.specs.Driven.{driving_of, refusal_of, Drives}
use Rattle.row_lines.specs.declared.Line.{Line}

-- ---- how many there are

length_words : (ls : List Line) → length (lines_words ls) ≡ length ls * 5
unfolding lines_words flatten
length_words [] = refl
length_words (l ∷ ls) = let rest = length_words ls in omega (arith, rest)

few_lines : (o : OpenRow) (k n : ℕ) → length (lines_from o k n).lines ≤ k
unfolding lines_from
few_lines o zero n = omega arith
few_lines o (suc k) n = by (list_verdict (table_on o) (layers_on o n)) (few_lines o k (suc n))
  where
    by : (v : Judgement) → length (lines_from o k (suc n)).lines ≤ k → length (lines_by v (line_on o n) (lines_from o k (suc n))).lines ≤ suc k
    by (refuse n) h = omega arith
    by pass h = omega (arith, h)

-- ---- the loop

pub record Driving (o : OpenRow) (k : ℕ) (old : List ℕ) (i : ℕ) (new : List ℕ) : Type 0 where
  pub within : i ≤ k
  pub room : k * 5 ≤ length old
  pub long : length new ≡ length old
  pub count : i + length (lines_from o (k - i) i).lines ≡ length (lines_from o k 0).lines
  pub end_is : (lines_from o (k - i) i).end ≡ (lines_from o k 0).end
  pub rest : sets new (i * 5) (lines_words (lines_from o (k - i) i).lines) ≡ sets old 0 (lines_words (lines_from o k 0).lines)

module _ {o : OpenRow} {k : ℕ} {old : List ℕ} where
  module _ {i : ℕ} {new : List ℕ} (v : Driving o k old i new) where
    -- where no line is left, the array holds all of them over what it held
    finished : (lines_from o (k - i) i).lines ≡ [] → (i ≡ length (lines_from o k 0).lines) × (new ≡ over (lines_words (lines_from o k 0).lines) old)
    unfolding lines_words over flatten
    finished e =
        let ls = (lines_from o k 0).lines in
        let none : length (lines_from o (k - i) i).lines ≡ 0 = ap length e in (
          omega (arith, none, v.count),
          sym (ap (λ (l : List Line). sets new (i * 5) (lines_words l)) e)
              ∙ v.rest
              ∙ sets-eq (lines_words ls) old 0 (omega (arith, length_words ls, few_lines o k 0, v.room))
              ∙ ap (λ (n : ℕ). lines_words ls ++ drop n old) (zero-add (length (lines_words ls))),
        )

    -- after the last tile
    pub done : k ≤ i → Drives (driving_of (lines_from o k 0)) old (Ok k) new
    unfolding lines_from
    done p =
        let none : k - i ≡ 0 = omega arith in
        let is : lines_from o (k - i) i ≡ record { lines = []; end = pass } = ap (λ (m : ℕ). lines_from o m i) none in
        let f = finished (ap (λ (x : RowLines). x.lines) is) in
        let all : k ≡ length (lines_from o k 0).lines = omega (arith, v.within, f.0) in
        let ends : pass ≡ (lines_from o k 0).end = sym (ap (λ (x : RowLines). x.end) is) ∙ v.end_is in
        record { answer = λ j. record { written = all j; refusal = refusal_of (ends j) }; long = v.long; lines_are = f.1 }

    module _ (p : i < k) where
      by_verdict : lines_from o (k - i) i ≡ lines_by (list_verdict (table_on o) (layers_on o i)) (line_on o i) (lines_from o (k - (i + 1)) (i + 1))
      unfolding lines_from
      by_verdict =
          let left : k - i ≡ suc (k - (i + 1)) = omega arith in
          ap (λ (m : ℕ). lines_from o m i) left
          ∙ ap (λ (j : ℕ). lines_by (list_verdict (table_on o) (layers_on o i)) (line_on o i) (lines_from o (k - (i + 1)) j)) (sym (add-one i))

      -- the line of a tile that is accepted
      pub next : {new' : List ℕ} → list_verdict (table_on o) (layers_on o i) ≡ pass → new' ≡ sets new (i * 5) (line_words (line_on o i)) → Driving o k old (i + 1) new'
      unfolding lines_words flatten
      next {new'} e w =
          let after = lines_from o (k - (i + 1)) (i + 1) in
          let is : lines_from o (k - i) i ≡ record { lines = line_on o i ∷ after.lines; end = after.end } = by_verdict ∙ ap (λ (x : Judgement). lines_by x (line_on o i) after) e in
          let more : i + length (lines_from o (k - i) i).lines ≡ i + suc (length after.lines) = ap (λ (x : RowLines). i + length x.lines) is in
          let five : (i + 1) * 5 ≡ suc (suc (suc (suc (suc (i * 5))))) = omega arith in
          record {
            within = omega arith;
            room = v.room;
            long = ap length w ∙ length-sets new (i * 5) (line_words (line_on o i)) ∙ v.long;
            count = omega (arith, more, v.count);
            end_is = sym (ap (λ (x : RowLines). x.end) is) ∙ v.end_is;
            rest =
                ap₂ (λ (l : List ℕ) (at : ℕ). sets l at (lines_words after.lines)) w five
                ∙ sym (ap (λ (x : RowLines). sets new (i * 5) (lines_words x.lines)) is)
                ∙ v.rest;
          }

      -- at a tile that is refused
      pub refused : {r : Refusal} → refusal_of (list_verdict (table_on o) (layers_on o i)) ≡ Some (number_of r) → Drives (driving_of (lines_from o k 0)) old (Err (r, i)) new
      refused {r} h = by (list_verdict (table_on o) (layers_on o i)) refl h
        where
          by : (x : Judgement) → list_verdict (table_on o) (layers_on o i) ≡ x → refusal_of x ≡ Some (number_of r) → Drives (driving_of (lines_from o k 0)) old (Err (r, i)) new
          by pass e h = absurd (let z : ◌≡◌ {A = ℕ} 0 1 = cc in omega arith)
          by (refuse x) e h =
              let is : lines_from o (k - i) i ≡ record { lines = []; end = refuse x } = by_verdict ∙ ap (λ (y : Judgement). lines_by y (line_on o i) (lines_from o (k - (i + 1)) (i + 1))) e in
              let f = finished (ap (λ (y : RowLines). y.lines) is) in
              let ends : Some (number_of r) ≡ refusal_of (lines_from o k 0).end = sym h ∙ ap refusal_of (sym (ap (λ (y : RowLines). y.end) is) ∙ v.end_is) in
              record { answer = λ j. record { written = f.0 j; refusal = ends j }; long = v.long; lines_are = f.1 }
