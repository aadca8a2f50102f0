-- The lines of blocks that are stored one after another are the lines of the job that they say.
-- Assumes nothing.
use Rattle.std.specs.Prelude.{◌≡◌, ◌+◌, ◌*◌, ◌<◌, ◌≤◌}
use Rattle.laws.proofs.Prelude.{sym, ap, ◌∙◌, List, [], map, flatten, ℕ, arith, ℤ, length, get_or, length-map, List·getD-map}
use Rattle.laws.proofs.Prelude.{sets, tabulate, is_tabulate}
use Rattle.lines.specs.Text.{AllFields}
use Rattle.lines.proofs.Stored.{length_flatten, flatten_at, stored_at}
use Rattle.job_text_statements.specs.Parse.{head_of, layer_line_of, segment_of}
use Rattle.job_text_statements.specs.Numbers.{number_at, layer_line_at, segment_at, layer_lines, segments_in}

-- lines of k numbers, stored from the front on
module _ (k : ℕ) (ls : List (List ℤ)) (out : List ℤ) (fields : AllFields k ls) (room : length ls * k ≤ length out) where
  -- field f of line i, at its place
  pub field_at : (i f at : ℕ) → i < length ls → f < k → at < length ls * k → at ≡ i * k + f → number_at (sets out 0 (flatten ls)) at ≡ number_at (get_or ls i []) f
  field_at i f at h l g e =
      let long = length_flatten k ls fields in
      stored_at out (flatten ls) at (omega arith) (omega arith)
      ∙ ap (number_at (flatten ls)) e
      ∙ flatten_at k ls i f fields h l

module _ (ls : List (List ℤ)) (out : List ℤ) where
  pub head_at : AllFields 4 ls → length ls ≡ 1 → 4 ≤ length out → head_of (sets out 0 (flatten ls)) ≡ head_of (get_or ls 0 [])
  head_at fields one room =
      let at : (f : ℕ) → f < 4 → number_at (sets out 0 (flatten ls)) f ≡ number_at (get_or ls 0 []) f
      = λ f l. field_at 4 ls out fields (omega arith) 0 f f (omega arith) l (omega arith) (omega arith) in
      rw (at 0 (omega arith), at 1 (omega arith), at 2 (omega arith), at 3 (omega arith))

  layer_at : AllFields 8 ls → length ls * 8 ≤ length out → (i : ℕ) → i < length ls → layer_line_at (sets out 0 (flatten ls)) i ≡ layer_line_of (get_or ls i [])
  unfolding layer_line_at
  layer_at fields room i h =
      let at : (f : ℕ) → f < 8 → number_at (sets out 0 (flatten ls)) (8 * i + f) ≡ number_at (get_or ls i []) f
      = λ f l. field_at 8 ls out fields room i f (8 * i + f) h l (omega arith) (omega arith) in
      let first : number_at (sets out 0 (flatten ls)) (8 * i) ≡ number_at (get_or ls i []) 0
      = field_at 8 ls out fields room i 0 (8 * i) h (omega arith) (omega arith) (omega arith) in
      rw (
        first,
        at 1 (omega arith),
        at 2 (omega arith),
        at 3 (omega arith),
        at 4 (omega arith),
        at 5 (omega arith),
        at 6 (omega arith),
        at 7 (omega arith),
      )

  segment_at_lem : AllFields 7 ls → length ls * 7 ≤ length out → (i : ℕ) → i < length ls → segment_at (sets out 0 (flatten ls)) i ≡ segment_of (get_or ls i [])
  unfolding segment_at
  segment_at_lem fields room i h =
      let at : (f : ℕ) → f < 7 → number_at (sets out 0 (flatten ls)) (7 * i + f) ≡ number_at (get_or ls i []) f
      = λ f l. field_at 7 ls out fields room i f (7 * i + f) h l (omega arith) (omega arith) in
      let first : number_at (sets out 0 (flatten ls)) (7 * i) ≡ number_at (get_or ls i []) 0
      = field_at 7 ls out fields room i 0 (7 * i) h (omega arith) (omega arith) (omega arith) in
      rw (
        first,
        at 1 (omega arith),
        at 2 (omega arith),
        at 3 (omega arith),
        at 4 (omega arith),
        at 5 (omega arith),
        at 6 (omega arith),
      )

-- a list of lines, given by its elements
lines_are : {A : Type 0} (of : List ℤ → A) (ls : List (List ℤ)) (n : ℕ) (f : ℕ → A) → n ≡ length ls → ((i : ℕ) → i < length ls → f i ≡ of (get_or ls i []))
    → map of ls ≡ tabulate n f
lines_are of ls n f e h =
    is_tabulate n f (of []) (map of ls) (length-map ls of ∙ sym e)
    (λ i l. List·getD-map of ls i [] ∙ sym (h i (omega arith)))

pub layers_are : (ls : List (List ℤ)) (out : List ℤ) (n : ℕ) → n ≡ length ls → AllFields 8 ls → length ls * 8 ≤ length out
    → map layer_line_of ls ≡ layer_lines (sets out 0 (flatten ls)) n
layers_are ls out n e fields room = lines_are layer_line_of ls n (layer_line_at (sets out 0 (flatten ls))) e (layer_at ls out fields room)

pub segments_are : (ls : List (List ℤ)) (out : List ℤ) (n : ℕ) → n ≡ length ls → AllFields 7 ls → length ls * 7 ≤ length out
    → map segment_of ls ≡ segments_in (sets out 0 (flatten ls)) n
segments_are ls out n e fields room = lines_are segment_of ls n (segment_at (sets out 0 (flatten ls))) e (segment_at_lem ls out fields room)
