-- The groups of a part: a run of segments of one layer, with another layer or nothing after it, is a group. Assumes nothing.
use Rattle.std.specs.Prelude.{◌≡◌, ◌∷◌, ◌+◌, ◌-◌, ◌≤◌, ◌<◌}
use Rattle.laws.proofs.Prelude.{refl, ap, ap₂, sym, subst₂, ◌∙◌, Bool, true, false, cond, List, [], ℕ, zero, suc}
use Rattle.laws.proofs.Prelude.{not-suc-le-zero, le_of_suc-le-suc, zero-add, add-zero, arith, eq-eqb, ne_eqb, eqb-true, eqb, length, get_or, take, drop}
use Rattle.laws.proofs.Prelude.{length-drop, get_or-drop, drop-drop, count_by}
use Rattle.pixel_segment.specs.Field.{cpu, layer_id_of}
use Rattle.pixel_segment.specs.Order.{compare_of, is_lt, is_eq}
use Rattle.segment_rows.specs.Rows.{Ordered}
use Rattle.segment_rows.specs.Search.{found, search_of, order_at, last_place}
use Rattle.segment_rows.specs.declared.search.Key.TheVariants.{LayerId}
use Rattle.segment_rows.proofs.Sorted.{Split, splits, sorted_search}
use Rattle.pixel_segment.proofs.Lexical.{compare_equal}
use Rattle.segment_rows.proofs.Keys.{sorted_by, is_eq_lem}
use Rattle.tile_layers.specs.Groups.{Group, single, join_to, groups_of}
use Rattle.tile_layers.specs.InnerWalk.{GroupEnds}

-- a list that is not empty has a first group, of its first segment's layer
pub record First (id : ℕ) (gs : List Group) : Type 0 where
  pub own : List ℕ
  pub rest : List Group
  pub is : gs ≡ record { id = id; own = own } ∷ rest

first_join : (w : ℕ) (gs : List Group) → First (layer_id_of cpu w) (join_to w gs)
first_join w [] = record { own = w ∷ []; rest = []; is = refl }
first_join w (g ∷ gs) = by (eqb (layer_id_of cpu w) g.id) refl
  where
    by : (t : Bool) → eqb (layer_id_of cpu w) g.id ≡ t → First (layer_id_of cpu w) (cond t (record { id = g.id; own = w ∷ g.own } ∷ gs) (single w ∷ (g ∷ gs)))
    by true e =
        record {
          own = w ∷ g.own;
          rest = gs;
          is = ap (λ (i : ℕ). record { id = i; own = w ∷ g.own } ∷ gs) (sym (eqb-true (layer_id_of cpu w) g.id e));
        }
    by false e = record { own = w ∷ []; rest = g ∷ gs; is = refl }

pub first_group : (w : ℕ) (ws : List ℕ) → First (layer_id_of cpu w) (groups_of (w ∷ ws))
unfolding groups_of
first_group w ws = first_join w (groups_of ws)

-- a segment before a group of its own layer, and of another
joins : (w : ℕ) (g : Group) (gs : List Group) → layer_id_of cpu w ≡ g.id → join_to w (g ∷ gs) ≡ record { id = g.id; own = w ∷ g.own } ∷ gs
joins w g gs e = rw (eq-eqb (layer_id_of cpu w) g.id e)

stands_apart : (w : ℕ) (g : Group) (gs : List Group) → (layer_id_of cpu w ≡ g.id → ⊥) → join_to w (g ∷ gs) ≡ single w ∷ (g ∷ gs)
stands_apart w g gs e = rw (ne_eqb (layer_id_of cpu w) g.id e)

-- the first b + 1 segments are of one layer, and the next is not
pub run : (id b : ℕ) (l : List ℕ) → suc b ≤ length l → ((i : ℕ) → i < suc b → layer_id_of cpu (get_or l i 0) ≡ id) → (suc b < length l → layer_id_of cpu (get_or l (suc b) 0) ≡ id → ⊥) → groups_of l ≡ record { id = id; own = take (suc b) l } ∷ groups_of (drop (suc b) l)
unfolding groups_of
run id b [] h same next = absurd (not-suc-le-zero h)
run id zero (w ∷ []) h same next = ap (λ (i : ℕ). record { id = i; own = w ∷ [] } ∷ []) (same 0 (omega arith))
run id zero (w ∷ v ∷ vs) h same next =
    let f = first_group v vs in
    let e = same 0 (omega arith) in
    let apart : layer_id_of cpu w ≡ layer_id_of cpu v → ⊥ = λ p. next (omega arith) (sym p ∙ e) in
    ap (join_to w) f.is
    ∙ stands_apart w (record { id = layer_id_of cpu v; own = f.own }) f.rest apart
    ∙ ap₂ (λ (i : ℕ) (gs : List Group). record { id = i; own = w ∷ [] } ∷ gs) e (sym f.is)
run id (suc b) (w ∷ ws) h same next =
    ap (join_to w)
    (run id b ws (le_of_suc-le-suc h) (λ i p. same (suc i) (omega arith)) (λ p. next (omega arith)))
    ∙ joins w (record { id = id; own = take (suc b) ws }) (groups_of (drop (suc b) ws)) (same 0 (omega arith))

-- ---- the group that a search finds

-- the search for the first segment's layer finds the last segment of its group, at b
pub record Grouped (l : List ℕ) : Type 0 where
  pub b : ℕ
  pub searched : search_of (order_at (LayerId (layer_id_of cpu (get_or l 0 0)))) l ≡ found b
  pub within : suc b ≤ length l
  pub group : groups_of l ≡ record { id = layer_id_of cpu (get_or l 0 0); own = take (suc b) l } ∷ groups_of (drop (suc b) l)

told_equal : (m n : ℕ) → compare_of m n ≡ 1 → m ≡ n
told_equal m n e = eqb-true m n (sym (is_eq_lem m n) ∙ ap is_eq e)

told_greater : (m n : ℕ) → 1 < compare_of m n → m ≡ n → ⊥
told_greater m n h p = omega (arith, compare_equal m n p)

module _ (l : List ℕ) (some : 0 < length l) (o : Ordered (layer_id_of cpu) l) where
  by_counts : (a b : ℕ) → Split (λ w. compare_of (layer_id_of cpu w) (layer_id_of cpu (get_or l 0 0))) l a b → search_of (order_at (LayerId (layer_id_of cpu (get_or l 0 0)))) l ≡ last_place a b → Grouped l
  by_counts zero (suc b) s e =
      record {
        b = b;
        searched = e ∙ ap found (zero-add b);
        within = omega (arith, s.within);
        group =
            run (layer_id_of cpu (get_or l 0 0)) b l (omega (arith, s.within))
            (λ i p. told_equal (layer_id_of cpu (get_or l i 0)) (layer_id_of cpu (get_or l 0 0)) (s.mid i (omega arith) (omega arith)))
            (λ p. told_greater (layer_id_of cpu (get_or l (suc b) 0)) (layer_id_of cpu (get_or l 0 0)) (s.high (suc b) (omega arith) p));
      }
  by_counts zero zero s e = absurd (told_greater (layer_id_of cpu (get_or l 0 0)) (layer_id_of cpu (get_or l 0 0)) (s.high 0 (omega arith) some) refl)
  by_counts (suc a) b s e = absurd (told_less (layer_id_of cpu (get_or l 0 0)) (s.low 0 (omega arith)))
    where
      told_less : (m : ℕ) → compare_of m m ≡ 0 → ⊥
      told_less m q = omega (arith, compare_equal m m refl)

  pub grouped : Grouped l
  grouped =
      let s = sorted_by (layer_id_of cpu) (layer_id_of cpu (get_or l 0 0)) l o in
      by_counts
      (count_by (λ w. is_lt (compare_of (layer_id_of cpu w) (layer_id_of cpu (get_or l 0 0)))) l)
      (count_by (λ w. is_eq (compare_of (layer_id_of cpu w) (layer_id_of cpu (get_or l 0 0)))) l)
      (splits (λ w. compare_of (layer_id_of cpu w) (layer_id_of cpu (get_or l 0 0))) l s)
      (sorted_search (λ w. compare_of (layer_id_of cpu w) (layer_id_of cpu (get_or l 0 0))) l s)

-- ---- at a place of the part

pub ordered_drop : (f : ℕ → ℕ) (l : List ℕ) (j : ℕ) → Ordered f l → Ordered f (drop j l)
ordered_drop f l j o =
    record {
      up =
          λ i k p q.
          subst₂ ◌≤◌ (ap f (sym (get_or-drop j l i 0))) (ap f (sym (get_or-drop j l k 0)))
          (o.up (j + i) (j + k) (omega arith) (omega (arith, length-drop j l)));
    }

pub ends_at : (part : List ℕ) (j b : ℕ) → j < length part → suc b ≤ length (drop j part) → groups_of (drop j part) ≡ record { id = layer_id_of cpu (get_or (drop j part) 0 0); own = take (suc b) (drop j part) } ∷ groups_of (drop (suc b) (drop j part)) → GroupEnds part j (j + b + 1)
ends_at part j b h w e =
    let size : suc b ≡ j + b + 1 - j = omega arith in
    let place : j + suc b ≡ j + b + 1 = omega arith in
    record {
      further = omega arith;
      within = omega (arith, length-drop j part);
      group =
          e
          ∙ ap₂ ◌∷◌
          (ap₂ (λ (i n : ℕ). record { id = i; own = take n (drop j part) }) (ap (layer_id_of cpu) (get_or-drop j part 0 0 ∙ ap (λ (n : ℕ). get_or part n 0) (add-zero j))) size)
          (ap groups_of (drop-drop (suc b) j part ∙ ap (λ (n : ℕ). drop n part) place));
    }

-- where a group ends, at every place of a part
pub group_at : (part : List ℕ) (j : ℕ) → Ordered (layer_id_of cpu) part → j < length part → (r : ℕ) × GroupEnds part j r
group_at part j o h =
    let k = grouped (drop j part) (omega (arith, length-drop j part)) (ordered_drop (layer_id_of cpu) part j o) in
    (j + k.b + 1, ends_at part j k.b h k.within k.group)
