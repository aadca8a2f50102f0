-- The covers of an opening added: how it starts, and its two ends. Assumes nothing.
use Rattle.std.specs.Prelude.{◌≡◌, ◌≤◌, ◌<◌}
use Rattle.laws.proofs.Prelude.{sym, ap, ◌∙◌, Bool, true, false, false≢true, List, ℕ, arith, ℤ, length, get_or, take, length-take-le}
use Rattle.styling.specs.Ascending.{strictly_ascends}
use Rattle.queue_statements.specs.Queue.{ids_in}
use Rattle.queue_statements.specs.Opening.{open_queue}
use Rattle.queue_statements.specs.InnerSums.{key_in, Placed, Summing, OpeningSummed}
use Rattle.queue_statements.proofs.Queues.{length_ids}
use Rattle.queue_statements.proofs.Openings.{opening_ascends}
use Rattle.queue_statements.proofs.Keys.{opening_there}
use Rattle.queue_statements.proofs.Tallying.{Tallying, tally_start, tally_heavy, tally_sums, tally_light}
use Rattle.queue_statements.proofs.Lights.{opening_light, opening_heavy, opening_covers}

-- the place of a word of an opening
abbrev pub key_of : List ℕ → ℕ → ℕ
key_of left = key_in (ids_in (open_queue left))

module _ {left : List ℕ} {n : ℕ} {ids : List ℕ} {sums : List ℤ} (c : Summing left n ids sums) where
  pub how_many : n ≡ length (open_queue left)
  how_many = sym (length-take-le n ids c.long) ∙ ap length c.listed ∙ length_ids (open_queue left)

  pub ascending : strictly_ascends (take n ids) ≡ true
  ascending = rw c.listed (opening_ascends left)

  low : (j : ℕ) → j < length left → key_of left (get_or left j 0) < 4096
  unfolding key_in
  low j p = omega (arith, opening_there left j p, length_ids (open_queue left), how_many, c.few)

  pub start : {loads : List ℕ} → length loads ≡ 4096 → ((k : ℕ) → get_or loads k 0 ≡ 0) → Tallying (key_of left) left 0 sums loads
  start l h = tally_start c.room l low c.clear.at h

  module _ {i : ℕ} {now : List ℤ} {loads : List ℕ} (t : Tallying (key_of left) left i now loads) where
    -- all words are in
    pub end : length left ≤ i → OpeningSummed left n true now
    end h =
        record {
          light = sym (opening_light left (tally_light t h));
          listed = λ e. opening_covers left n now how_many (omega (arith, t.sums_long, c.few)) (tally_sums t h);
        }

    -- a word that is refused
    pub refuse : {place : ℕ} {r : Bool} {now' : List ℤ} {loads' : List ℕ} → i < length left → place ≡ key_of left (get_or left i 0) → Placed place (get_or left i 0) now loads r now' loads' → r ≡ false → OpeningSummed left n false now'
    refuse h p a e =
        record {
          light = sym (opening_heavy left i h (tally_heavy t h p a e));
          listed = λ s. absurd (false≢true s);
        }
