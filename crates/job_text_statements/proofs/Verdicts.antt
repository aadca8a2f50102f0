-- Each answer of `read_numbers`, from what the blocks and the judges of their lines give.
-- Assumes nothing.
use Rattle.std.specs.Prelude.{◌≡◌, ◌&&◌, ◌*◌, ◌<◌, ◌≤◌}
use Rattle.laws.proofs.Prelude.{sym, ap, ◌∙◌, true, false, cond, List, flatten, Some, None, ℕ, arith, le-leb, lt-leb, leb}
use Rattle.laws.proofs.Prelude.{ℤ, length, length-sets, all}
use Rattle.job_text_statements.specs.Text.{Formed}
use Rattle.job_lines.specs.Rules.{layer_rule, segment_rule, segment_count}
use Rattle.job_text_statements.specs.Job.{Job, is_allowed}
use Rattle.job_text_statements.specs.Parse.{parse_blocks, head_of, job_of, judged, parse}
use Rattle.job_text_statements.specs.Numbers.{layer_lines, segments_in, job_in}
use Rattle.job_text_statements.specs.Read.{BlocksStored, NumbersStored}
use Rattle.job_text_statements.proofs.Forms.{sound}
use Rattle.job_text_statements.proofs.Stored.{head_at, layers_are, segments_are}

pub broken : (s : List ℕ) → parse_blocks s ≡ None → parse s ≡ None
unfolding parse
broken s e = ap judged e

refused : (j : Job) → is_allowed j ≡ false → cond (is_allowed j) (Some j) None ≡ None
refused j e = rw e

allowed : (j : Job) → is_allowed j ≡ true → cond (is_allowed j) (Some j) None ≡ Some j
allowed j e = rw e

module _ {s : List ℕ} {head layers segments : List ℤ} {n m : ℕ} {head' layers' segments' : List ℤ}
    (b : BlocksStored s head layers segments n m head' layers' segments')
    (head-room : 4 ≤ length head) (layers-room : 512 ≤ length layers) (segments-room : 3584 ≤ length segments) where
  form : Formed b.blocks
  form = (sound s b.blocks b.parsed).form

  pub few_layers : n ≤ 64
  few_layers = omega (arith, form.few_layers, b.layer_lines)

  pub few_lines : m ≤ 512
  few_lines = omega (arith, form.few_lines, b.segment_lines)

  pub layers_long : 8 * n ≤ length layers'
  layers_long = omega (arith, few_layers, ap length b.layers_stored ∙ length-sets layers 0 (flatten b.blocks.layers))

  pub segments_long : 7 * m ≤ length segments'
  segments_long = omega (arith, few_lines, ap length b.segments_stored ∙ length-sets segments 0 (flatten b.blocks.segments))

  -- the job that the blocks say is the one in the lists
  job_is : job_of b.blocks ≡ job_in head' layers' n segments' m
  job_is =
      let q = b.blocks in
      let h : head_of head' ≡ (job_of q).head = ap head_of b.head_stored ∙ head_at q.head head form.head form.one_head head-room in
      let ls : layer_lines layers' n ≡ (job_of q).layers =
      ap (λ (ns : List ℤ). layer_lines ns n) b.layers_stored ∙ sym (layers_are q.layers layers n b.layer_lines form.layers (omega (arith, few_layers, b.layer_lines))) in
      let ss : segments_in segments' m ≡ (job_of q).segments =
      ap (λ (ns : List ℤ). segments_in ns m) b.segments_stored ∙ sym (segments_are q.segments segments m b.segment_lines form.segments (omega (arith, few_lines, b.segment_lines))) in
      sym (rw (h, ls, ss))

  parse_is : parse s ≡ cond (is_allowed (job_in head' layers' n segments' m)) (Some (job_in head' layers' n segments' m)) None
  unfolding parse
  parse_is = ap judged b.parsed ∙ ap (λ (j : Job). cond (is_allowed j) (Some j) None) job_is

  -- the three tests of the rules
  refused_by : (all layer_rule (layer_lines layers' n) && all segment_rule (segments_in segments' m) && leb (segment_count (segments_in segments' m)) 2048) ≡ false → parse s ≡ None
  unfolding is_allowed
  refused_by e = parse_is ∙ refused (job_in head' layers' n segments' m) e

  pub bad_layers : all layer_rule (layer_lines layers' n) ≡ false → parse s ≡ None
  bad_layers e = refused_by (rw e)

  pub bad_segments : all layer_rule (layer_lines layers' n) ≡ true → all segment_rule (segments_in segments' m) ≡ false → parse s ≡ None
  bad_segments l e = refused_by (rw (l, e))

  pub too_many : {count : ℕ} → all layer_rule (layer_lines layers' n) ≡ true → all segment_rule (segments_in segments' m) ≡ true
      → count ≡ segment_count (segments_in segments' m) → 2048 < count → parse s ≡ None
  too_many l e c h = refused_by (rw (l, e) (lt-leb (segment_count (segments_in segments' m)) 2048 (omega arith)))

  pub good : {count : ℕ} → all layer_rule (layer_lines layers' n) ≡ true → all segment_rule (segments_in segments' m) ≡ true
      → count ≡ segment_count (segments_in segments' m) → count ≤ 2048 → NumbersStored s n m count head' layers' segments'
  unfolding is_allowed
  good {count} ls ss c h =
      record {
        parsed = parse_is ∙ allowed (job_in head' layers' n segments' m) (rw (ls, ss) (le-leb (segment_count (segments_in segments' m)) 2048 (omega arith)));
        few_layers = few_layers;
        few_lines = few_lines;
        counted = c;
        few_segments = h;
      }
