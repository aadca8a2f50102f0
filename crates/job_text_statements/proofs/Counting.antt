-- What holds while segments are counted: those counted and those of the lines left are those of all lines.
-- Assumes nothing.
use Rattle.std.specs.Prelude.{◌≡◌, ◌+◌, ◌*◌, ◌<◌, ◌≤◌}
use Rattle.laws.proofs.Prelude.{ap, true, List, ℕ, add-one, arith, ℤ, length, drop, get_or, drop_of_length-le, drop-cons, plus}
use Rattle.laws.proofs.Prelude.{all, all_at, length_tabulate, get_d_tabulate}
use Rattle.job_lines.specs.declared.segment.SegmentLine.{SegmentLine}
use Rattle.job_lines.specs.Rules.{segment_rule, segment_count}
use Rattle.job_text_statements.specs.Numbers.{segment_at, segments_in}

pub count_step : (ss : List SegmentLine) (i : ℕ) (d : SegmentLine) → i < length ss
    → segment_count (drop i ss) ≡ plus (get_or ss i d).rows + segment_count (drop (i + 1) ss)
unfolding segment_count
count_step ss i d h = rw add-one (ap segment_count (drop-cons ss i d h))

pub count_end : (ss : List SegmentLine) (i : ℕ) → length ss ≤ i → segment_count (drop i ss) ≡ 0
unfolding segment_count
count_end ss i h = ap segment_count (drop_of_length-le ss h)

pub record Counting (ns : List ℤ) (m i count : ℕ) : Type 0 where
  pub within : i ≤ m
  pub low : count ≤ 16 * i
  pub rest : count + segment_count (drop i (segments_in ns m)) ≡ segment_count (segments_in ns m)

-- line i keeps the rules
pub rule_at : (ns : List ℤ) (m i : ℕ) → all segment_rule (segments_in ns m) ≡ true → i < m → segment_rule (segment_at ns i) ≡ true
rule_at ns m i e h =
    rw (get_d_tabulate m (segment_at ns) (segment_at ns 0) i h) at (all_at segment_rule (segments_in ns m) e i (segment_at ns 0) (omega (arith, length_tabulate m (segment_at ns))))

module _ {ns : List ℤ} {m i count : ℕ} (v : Counting ns m i count) where
  pub next : (n : ℕ) → i < m → n ≡ plus (segment_at ns i).rows → n ≤ 16 → Counting ns m (i + 1) (count + n)
  next n h e l =
      let long = length_tabulate m (segment_at ns) in
      let step = rw (get_d_tabulate m (segment_at ns) (segment_at ns 0) i h) at (count_step (segments_in ns m) i (segment_at ns 0) (omega arith)) in
      record { within = omega arith; low = omega (arith, v.low); rest = omega (arith, step, v.rest) }

  pub end : m ≤ i → count ≡ segment_count (segments_in ns m)
  end h = omega (arith, count_end (segments_in ns m) i (omega (arith, length_tabulate m (segment_at ns))), v.rest)
