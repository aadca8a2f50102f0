-- `write_line` meets its contract. Assumes nothing.
use Rattle.std.specs.Prelude.{◌≡◌, ◌++◌, ◌+◌, ◌-◌, ◌≤◌}
use Rattle.laws.proofs.Prelude.{refl, ap, sym, ◌∙◌, List, append_assoc, ℕ, arith, length, take, drop, sets, sets-eq, drop-drop}
use Rattle.row_lines.specs.Lines.{line_words}
use Rattle.row_driver.proofs.write_line.Goals as goal

-- five words in the place of five
put : (at : ℕ) (xs ys ws : List ℕ) → at + 5 ≤ length xs → length ws ≡ 5 → ys ≡ ws → take at xs ++ (ys ++ drop (at + 5 - at) (drop at xs)) ≡ sets xs at ws
put at xs ys ws h n e =
    let k : at + 5 - at ≡ 5 = omega arith in
    let past : at + 5 ≡ at + length ws = omega (arith, n) in
    ap (λ (z : List ℕ). take at xs ++ (z ++ drop (at + 5 - at) (drop at xs))) e
    ∙ ap (λ (m : ℕ). take at xs ++ (ws ++ drop m (drop at xs))) k
    ∙ ap (λ (z : List ℕ). take at xs ++ (ws ++ z)) (drop-drop 5 at xs ∙ ap (λ (m : ℕ). drop m xs) past)
    ∙ sym (append_assoc (take at xs) ws (drop (at + length ws) xs))
    ∙ sym (sets-eq ws xs at (omega (arith, h, n)))

pub returns : goal.returns
returns c =
    put c.args.at c.args.lines.now c.copy_from_slice.new.self (line_words c.args.line) c.requires refl c.copy_from_slice.ensures.after
