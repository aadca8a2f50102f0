-- Reading is the inverse of printing: `parse` takes exactly the texts of well-formed jobs, and so two well-formed jobs have the same text
-- only where they are the same.
-- Assumes nothing.
use Rattle.std.specs.Prelude.{◌≡◌, ◌∷◌}
use Rattle.laws.proofs.Prelude.{refl, sym, ap, ap₂, ◌∙◌, subst, Bool, true, cond, List, [], map, Option, Some, None, ℕ, arith, ℤ, pos}
use Rattle.laws.proofs.Prelude.{length, get_or, is_tabulate}
use Rattle.std.proofs.lemmas.Option.{same_Some}
use Rattle.lines.specs.Text.{Fields, AllFields}
use Rattle.decimal.proofs.Steps.{cases}
use Rattle.job_lines.specs.declared.layer.LayerLine.{LayerLine}
use Rattle.job_lines.specs.declared.segment.SegmentLine.{SegmentLine}
use Rattle.job_text_statements.specs.Text.{Blocks, Formed}
use Rattle.job_text_statements.specs.Job.{Job, head_values, layer_values, segment_values, blocks_of, render, is_allowed, WellFormed, Prints}
use Rattle.job_text_statements.specs.Parse.{head_of, layer_line_of, segment_of, job_of, judged, parse_blocks, parse}
use Rattle.job_text_statements.proofs.Forms as forms
use Rattle.job_text_statements.proofs.Forms.{never}

-- ---- lines and their values

layers_back : (ls : List LayerLine) → map layer_line_of (map layer_values ls) ≡ ls
layers_back [] = refl
layers_back (l ∷ ls) = ap (λ (x : List LayerLine). l ∷ x) (layers_back ls)

segments_back : (ss : List SegmentLine) → map segment_of (map segment_values ss) ≡ ss
segments_back [] = refl
segments_back (s ∷ ss) = ap (λ (x : List SegmentLine). s ∷ x) (segments_back ss)

job_back : (j : Job) → job_of (blocks_of j) ≡ j
job_back j = rw (layers_back j.layers, segments_back j.segments)

-- a line of k values is the list of its first k
head_values_lem : (vs : List ℤ) → Fields 4 vs → head_values (head_of vs) ≡ vs
head_values_lem vs f = sym (is_tabulate 4 (λ i. get_or vs i (pos 0)) (pos 0) vs f.count (λ i h. refl))

layer_values_lem : (vs : List ℤ) → Fields 8 vs → layer_values (layer_line_of vs) ≡ vs
layer_values_lem vs f = sym (is_tabulate 8 (λ i. get_or vs i (pos 0)) (pos 0) vs f.count (λ i h. refl))

segment_values_lem : (vs : List ℤ) → Fields 7 vs → segment_values (segment_of vs) ≡ vs
segment_values_lem vs f = sym (is_tabulate 7 (λ i. get_or vs i (pos 0)) (pos 0) vs f.count (λ i h. refl))

lines_back : {A : Type 0} (k : ℕ) (values : A → List ℤ) (of : List ℤ → A) → ((vs : List ℤ) → Fields k vs → values (of vs) ≡ vs)
    → (ls : List (List ℤ)) → AllFields k ls → map values (map of ls) ≡ ls
lines_back k values of back [] f = refl
lines_back k values of back (l ∷ ls) f = ap₂ ◌∷◌ (back l f.0) (lines_back k values of back ls f.1)

one_back : (hs : List (List ℤ)) → AllFields 4 hs → length hs ≡ 1 → head_values (head_of (get_or hs 0 [])) ∷ [] ≡ hs
one_back [] f e = absurd (omega arith)
one_back (h ∷ []) f e = ap (λ (x : List ℤ). x ∷ []) (head_values_lem h f.0)
one_back (h ∷ g ∷ hs) f e = absurd (omega arith)

blocks_back : (b : Blocks) → Formed b → blocks_of (job_of b) ≡ b
blocks_back b w =
    rw (
      one_back b.head w.head w.one_head,
      lines_back 8 layer_values layer_line_of layer_values_lem b.layers w.layers,
      lines_back 7 segment_values segment_of segment_values_lem b.segments w.segments,
    )

-- ---- jobs and their texts

pub complete : (j : Job) → WellFormed j → parse (render j) ≡ Some j
unfolding parse render
complete j w =
    ap judged (forms.complete (blocks_of j) w.form)
    ∙ ap (λ (i : Job). cond (is_allowed i) (Some i) None) (job_back j)
    ∙ ap (λ (t : Bool). cond t (Some j) None) w.rules

blocks_sound : (s : List ℕ) (b : Blocks) → parse_blocks s ≡ Some b → is_allowed (job_of b) ≡ true → Prints s (job_of b)
unfolding render
blocks_sound s b e ok =
    let p = forms.sound s b e in
    let back = blocks_back b p.form in
    record { form = record { form = rw back p.form; rules = ok }; printed = rw back p.text }

-- a job that is read is well formed, and the text is its print
pub sound : (s : List ℕ) (j : Job) → parse s ≡ Some j → Prints s j
unfolding parse
sound s j e = by (parse_blocks s) refl e
  where
    by : (o : Option Blocks) → parse_blocks s ≡ o → judged o ≡ Some j → Prints s j
    by None p g = never refl g
    by (Some b) p g =
        cases (is_allowed (job_of b))
        (λ t. let same : job_of b ≡ j = same_Some _ _ (rw t at g) in subst (λ (i : Job). Prints s i) same (blocks_sound s b p t))
        (λ t. never refl (rw t at g))

-- a text that is not read is no well-formed job's
pub refused : (s : List ℕ) → parse s ≡ None → (j : Job) → WellFormed j → s ≡ render j → ⊥
refused s e j w p = never e (ap parse p ∙ complete j w)

pub unique : (i j : Job) → WellFormed i → WellFormed j → render i ≡ render j → i ≡ j
unique i j v w e = same_Some i j (sym (complete i v) ∙ ap parse e ∙ complete j w)
