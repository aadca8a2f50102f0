-- A loop that writes what f says of each element of a list at the front of a lent list, in its order: at element k, those before it. The lent
-- list may be the list itself. Assumes nothing.
use Rattle.std.specs.Prelude.{◌≡◌, ◌++◌, ◌+◌, ◌≤◌, ◌<◌}
use Rattle.laws.proofs.Prelude.{refl, sym, ap, ap₂, ◌∙◌, List, map, ℕ, suc, arith, length, get_or, set, take, drop}
use Rattle.laws.proofs.Prelude.{length-set, length-map, List·getD-map, drop-cons, length-take-le, filled, filled_more, filled_all, over}
use lib.Seq.{get_or_at}
use Rattle.cover_statements.proofs.Filled.{filled_whole}

pub record Mapping {A B : Type 0} (f : A → B) (source : List A) (old : List B) (k : ℕ) (new : List B) : Type 0 where
  pub reached : k ≤ length source
  pub room : length source ≤ length old
  pub long : length new ≡ length old
  pub drawn : new ≡ filled old (map f source) k

module _ {A B : Type 0} {f : A → B} {source : List A} {old : List B} where
  pub map_start : length source ≤ length old → Mapping f source old 0 old
  map_start h = record { reached = omega arith; room = h; long = refl; drawn = refl }

  module _ {k : ℕ} {new : List B} (c : Mapping f source old k new) where
    -- what is still to come is as it was
    pub map_rest : (z : B) → k < length source → get_or new k z ≡ get_or old k z
    map_rest z h =
        let s = map f source in
        ap (λ (l : List B). get_or l k z) c.drawn
        ∙ ap (λ (r : List B). get_or (take k s ++ r) k z) (drop-cons old k z (omega (arith, c.room)))
        ∙ get_or_at (take k s) (get_or old k z) (drop (suc k) old) z k (length-take-le k s (omega (arith, length-map source f)))

    pub map_next : (d : A) {v : B} → k < length source → v ≡ f (get_or source k d) → Mapping f source old (k + 1) (set new k v)
    map_next d {v} h e =
        record {
          reached = omega arith;
          room = c.room;
          long = length-set new k v ∙ c.long;
          drawn =
              ap₂ (λ (l : List B) (x : B). set l k x) c.drawn (e ∙ sym (List·getD-map f source k d))
              ∙ filled_more old (map f source) k (f d) (omega (arith, c.room)) (omega (arith, length-map source f));
        }

    -- all are written: at the front, and over the whole of a list that is as long
    pub map_end : length source ≤ k → new ≡ over (map f source) old
    map_end h =
        let e : k ≡ length source = omega (arith, c.reached) in
        c.drawn ∙ rw e (filled_all old (map f source) (length source) (length-map source f))

    pub map_whole : length source ≤ k → length old ≡ length source → new ≡ map f source
    map_whole h l =
        let e : k ≡ length source = omega (arith, c.reached) in
        c.drawn ∙ rw e (filled_whole old (map f source) (length source) l (length-map source f))
