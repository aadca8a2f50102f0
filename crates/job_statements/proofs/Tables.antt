-- The table's entries by their place are those of its records, one after another.
-- Assumes nothing.
use Rattle.std.specs.Prelude.{◌≡◌, ◌+◌, ◌*◌, ◌/◌, ◌%◌, ◌<◌, ◌≤◌}
use Rattle.laws.proofs.Prelude.{sym, ap, ◌∙◌, true, List, flatten, ℕ, add-zero, arith, ℤ, plus, minus, tabulate}
use Rattle.laws.proofs.Prelude.{all, all_at, length_tabulate, get_d_tabulate}
use Rattle.job_lines.specs.Rules.{layer_rule}
use Rattle.job_text_statements.specs.Numbers.{number_at, layer_line_at, layer_lines}
use Rattle.job_lines.proofs.Ranges.{alpha_range}
use Rattle.job_statements.specs.Table.{layer_words, layer_colors, table_words, table_colors}
use Rattle.job_statements.specs.Entries.{word_at, job_color_at}
use Rattle.job_statements.proofs.Strides.{strides, map_tabulate}

module _ (ns : List ℤ) where
  record_words : (i : ℕ) → layer_words (layer_line_at ns i) ≡ tabulate 8 (λ j. word_at ns (8 * i + j))
  unfolding layer_line_at word_at
  record_words i =
      let at : (j : ℕ) → j < 8 → (8 * i + j) % 8 ≡ j = λ j h. omega arith in
      rw (at 0 (omega arith), at 1 (omega arith), at 2 (omega arith), at 3 (omega arith), at 4 (omega arith), at 5 (omega arith), at 6 (omega arith), at 7 (omega arith), add-zero)

  record_colors : (i : ℕ) → layer_colors (layer_line_at ns i) ≡ tabulate 4 (λ j. job_color_at ns (4 * i + j))
  unfolding layer_line_at job_color_at
  record_colors i =
      let at : (j : ℕ) → j < 4 → (4 * i + j) % 4 ≡ j = λ j h. omega arith in
      let up : (4 * i + 3) / 4 ≡ i = omega arith in
      rw (at 0 (omega arith), at 1 (omega arith), at 2 (omega arith), at 3 (omega arith), up)

  pub words_are : (n : ℕ) → tabulate (8 * n) (word_at ns) ≡ table_words (layer_lines ns n)
  unfolding table_words
  words_are n =
      sym (ap flatten (map_tabulate layer_words n (layer_line_at ns)) ∙ strides 8 n (word_at ns) (λ i. layer_words (layer_line_at ns i)) (λ i h. record_words i))

  pub colors_are : (n : ℕ) → tabulate (4 * n) (job_color_at ns) ≡ table_colors (layer_lines ns n)
  unfolding table_colors
  colors_are n =
      sym (ap flatten (map_tabulate layer_colors n (layer_line_at ns)) ∙ strides 4 n (job_color_at ns) (λ i. layer_colors (layer_line_at ns i)) (λ i h. record_colors i))

  -- the alpha of a line that keeps the rules
  pub alpha_at : (n k : ℕ) → all layer_rule (layer_lines ns n) ≡ true → k < 4 * n
      → (minus (number_at ns (8 * (k / 4) + 7)) ≡ 0) × (plus (number_at ns (8 * (k / 4) + 7)) ≤ 256)
  unfolding layer_line_at
  alpha_at n k e h =
      let i : ℕ = k / 4 in
      let l : k / 4 < n = omega arith in
      alpha_range (layer_line_at ns (k / 4))
      (rw (get_d_tabulate n (layer_line_at ns) (layer_line_at ns 0) (k / 4) l) at (all_at layer_rule (layer_lines ns n) e (k / 4) (layer_line_at ns 0) (omega (arith, length_tabulate n (layer_line_at ns)))))
