-- Lent arrays of 512 words, 256 floats and 2,048 row words hold every job, so that reading into such arrays answers the numbers of a job or 10.
-- Assumes nothing.
use Rattle.std.specs.Prelude.{◌≡◌, ◌&&◌, ◌/◌, ◌≤◌}
use Rattle.laws.proofs.Prelude.{true, List, map, ℕ, arith, le-leb, leb-true, leb, Float, length, length-map, all, both, right}
use Rattle.job_lines.specs.Rules.{layer_rule, segment_rule, segment_count}
use Rattle.job_text_statements.specs.Job.{Job, layer_values, is_allowed, WellFormed}
use Rattle.job_statements.specs.Read.{has_room}

pub always_room : (j : Job) (layers : List ℕ) (colors : List Float) (row : List ℕ) → WellFormed j → 512 ≤ length layers → 256 ≤ length colors → 2048 ≤ length row → has_room layers colors row j ≡ true
unfolding has_room is_allowed
always_room j layers colors row formed l c r =
    let few : length (map layer_values j.layers) ≤ 64 = formed.form.few_layers in
    let same : length (map layer_values j.layers) ≡ length j.layers = length-map j.layers layer_values in
    let rules = right (all layer_rule j.layers && all segment_rule j.segments) (leb (segment_count j.segments) 2048) formed.rules in
    both (leb (length j.layers) (length layers / 8) && leb (length j.layers) (length colors / 4)) (leb (segment_count j.segments) (length row))
    (both (leb (length j.layers) (length layers / 8)) (leb (length j.layers) (length colors / 4))
    (le-leb (length j.layers) (length layers / 8) (omega (arith, few, same, l)))
    (le-leb (length j.layers) (length colors / 4) (omega (arith, few, same, c))))
    (le-leb (segment_count j.segments) (length row) (omega (arith, leb-true (segment_count j.segments) 2048 rules, r)))
