-- An opening in columns of its own, and these written to the lent ones: the answers. Assumes nothing.
use Rattle.std.specs.Prelude.{◌≡◌, ◌*◌, ◌≤◌, ◌<◌}
use Rattle.laws.proofs.Prelude.{refl, sym, ap, ◌∙◌, Bool, true, false, List, ℕ, arith, lt-ltb, le-ltb, ℤ, length, take, Answer}
use Rattle.laws.proofs.Prelude.{refused, given, over}
use Rattle.queue_statements.specs.Queue.{ids_in, covers_in}
use Rattle.queue_statements.specs.Opening.{open_queue, written_if, Opens}
use Rattle.queue_statements.specs.InnerGather.{written_count, list_if, Clear, Gathered}
use Rattle.queue_statements.specs.InnerInsert.{Collected}
use Rattle.queue_statements.specs.InnerSums.{Summing, OpeningSummed}

module _ {left : List ℕ} {n : ℕ} {ids : List ℕ} (c : Collected left n ids) where
  pub many : (covers : List ℤ) → 256 < n → Gathered left (refused 7) ids covers
  many covers h =
      record {
        answer = rw (lt-ltb 256 (length (open_queue left)) (omega (arith, c.count)));
        few = omega arith;
        ids_are = refl;
        covers_are = refl;
      }

  module _ (few : n ≤ 256) where
    how_many : n ≡ length (open_queue left)
    how_many = omega (arith, c.count)

    pub summing : {covers : List ℤ} → length ids ≡ 256 → length covers ≡ 4096 → Clear covers → Summing left n ids covers
    summing l e z = record { few = few; long = omega arith; listed = c.listed few; room = e; clear = z }

    module _ {r : Bool} {covers : List ℤ} (s : OpeningSummed left n r covers) where
      pub light : r ≡ true → Gathered left (given n) ids covers
      light e =
          record {
            answer = rw (le-ltb 256 (length (open_queue left)) (omega (arith, how_many)), sym s.light ∙ e) (ap given how_many);
            few = few;
            ids_are = c.listed few;
            covers_are = s.listed e;
          }

      pub heavy : r ≡ false → Gathered left (refused 9) ids covers
      heavy e =
          record {
            answer = rw (le-ltb 256 (length (open_queue left)) (omega (arith, how_many)), sym s.light ∙ e);
            few = omega arith;
            ids_are = refl;
            covers_are = refl;
          }

-- ---- what is written, by the answer

written : {A : Type 0} (r : Answer ℕ) (new old : List A) → over (list_if r new) old ≡ written_if r new old
unfolding over
written (refused n) new old = refl
written (given n) new old = refl

pub opens : {left oldIds ids : List ℕ} {oldCovers covers : List ℤ} {r : Answer ℕ} {n : ℕ} {column : List ℕ} {sums : List ℤ} → Gathered left r column sums → n ≡ written_count r → ids ≡ over (take n column) oldIds → covers ≡ over (take (n * 16) sums) oldCovers → Opens left oldIds oldCovers r ids covers
opens {left} {oldIds} {ids} {oldCovers} {covers} {r} {n} {column} {sums} g e p q =
    record {
      answer = g.answer;
      ids_are = p ∙ rw (e, g.ids_are) (written r (ids_in (open_queue left)) oldIds) ∙ ap (λ (a : Answer ℕ). written_if a (ids_in (open_queue left)) oldIds) g.answer;
      covers_are = q ∙ rw (e, g.covers_are) (written r (covers_in (open_queue left)) oldCovers) ∙ ap (λ (a : Answer ℕ). written_if a (covers_in (open_queue left)) oldCovers) g.answer;
    }
