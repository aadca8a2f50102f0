-- Laws of the halving: how a turn of a search's loop goes, by a test whether an element is above the key. Assumes nothing.
use Rattle.std.specs.Prelude.{◌≡◌, ◌∷◌, ◌+◌, ◌-◌, ◌/◌, ◌≤◌, ◌<◌}
use Rattle.laws.proofs.Prelude.{refl, sym, ap, ap₂, ◌∙◌, fun_ext, Bool, true, false, cond, List, [], ⊎_elim, ℕ, zero, suc}
use Rattle.laws.proofs.Prelude.{not-suc-le-zero, arith, lt-ltb, le-ltb, length, get_or, le_or_lt, either}
use Rattle.pixel_segment.specs.Order.{is_gt}
use Rattle.segment_rows.specs.Search.{Place, found, absent, halved, end_of, ended, search_of, after_of}
use Rattle.segment_rows.specs.InnerHalving.{HalfOf}
use Rattle.segment_rows.specs.declared.search.Rest.{Rest}

module _ (is_above : ℕ → Bool) (l : List ℕ) where
  -- a turn with more than one element
  turn : (turns start len : ℕ) → 1 < len → halved is_above l (suc turns) start len ≡ cond (is_above (get_or l (start + len / 2) 0)) (halved is_above l turns start (len / 2)) (halved is_above l turns (start + len / 2) (len - len / 2))
  unfolding halved
  turn turns start len h =
      ap (λ (t : Bool). cond t (cond (is_above (get_or l (start + len / 2) 0)) (halved is_above l turns start (len / 2)) (halved is_above l turns (start + len / 2) (len - len / 2))) start)
      (lt-ltb 1 len h)

  -- no turn is left to do
  pub halved_end : (turns start len : ℕ) → len ≤ 1 → halved is_above l turns start len ≡ start
  unfolding halved
  halved_end zero start len h = refl
  halved_end (suc turns) start len h = rw (le-ltb 1 len h)

  -- more turns than elements change nothing
  enough : (m n start len : ℕ) → len ≤ m → len ≤ n → halved is_above l m start len ≡ halved is_above l n start len
  enough zero n start len h g = halved_end zero start len (omega arith) ∙ sym (halved_end n start len (omega arith))
  enough (suc m) zero start len h g = halved_end (suc m) start len (omega arith) ∙ sym (halved_end zero start len (omega arith))
  enough (suc m) (suc n) start len h g =
      let low : len / 2 ≤ m → len / 2 ≤ n → halved is_above l m start (len / 2) ≡ halved is_above l n start (len / 2) = enough m n start (len / 2) in
      let high : len - len / 2 ≤ m → len - len / 2 ≤ n → halved is_above l m (start + len / 2) (len - len / 2) ≡ halved is_above l n (start + len / 2) (len - len / 2) = enough m n (start + len / 2) (len - len / 2) in
      ⊎_elim
      (λ (q : len ≤ 1). halved_end (suc m) start len q ∙ sym (halved_end (suc n) start len q))
      (λ (q : 1 < len).
      turn m start len q
      ∙ ap₂ (λ (a b : ℕ). cond (is_above (get_or l (start + len / 2) 0)) a b) (low (omega arith) (omega arith)) (high (omega arith) (omega arith))
      ∙ sym (turn n start len q))
      (le_or_lt len 1)

  -- a turn of the loop: the left half where the middle element is greater, else from the middle on
  by_middle : (start len : ℕ) (t : Bool) → 1 < len → is_above (get_or l (start + len / 2) 0) ≡ t → halved is_above l len start len ≡ cond t (halved is_above l len start (len / 2)) (halved is_above l len (start + len / 2) (len - len / 2))
  by_middle start len t h e =
      enough len (suc len) start len (omega arith) (omega arith)
      ∙ turn len start len h
      ∙ ap (λ (b : Bool). cond b (halved is_above l len start (len / 2)) (halved is_above l len (start + len / 2) (len - len / 2))) e

  pub halved_left : (start len : ℕ) → 1 < len → is_above (get_or l (start + len / 2) 0) ≡ true → halved is_above l len start len ≡ halved is_above l (len / 2) start (len / 2)
  halved_left start len h e = by_middle start len true h e ∙ enough len (len / 2) start (len / 2) (omega arith) (omega arith)

  pub halved_right : (start len : ℕ) → 1 < len → is_above (get_or l (start + len / 2) 0) ≡ false → halved is_above l len start len ≡ halved is_above l (len - len / 2) (start + len / 2) (len - len / 2)
  halved_right start len h e =
      by_middle start len false h e ∙ enough len (len - len / 2) (start + len / 2) (len - len / 2) (omega arith) (omega arith)

  -- ---- what holds in a loop of the `len` elements from `start` on that are left: their halving ends where the whole one does

  pub record Left (start len : ℕ) : Type 0 where
    pub within : start + len ≤ length l
    pub same : halved is_above l len start len ≡ end_of is_above l

  pub begin : Left 0 (length l)
  begin = record { within = omega arith; same = refl }

  -- a half of what is left: of one element, the start stays
  next : {start len : ℕ} → Left start len → 0 < len → (t : Bool) → is_above (get_or l (start + len / 2) 0) ≡ t → Left (cond t start (start + len / 2)) (cond t (len / 2) (len - len / 2))
  next {start} {len} left h t e = ⊎_elim (one t) (many t e) (le_or_lt len 1)
    where
      one : (t : Bool) → len ≤ 1 → Left (cond t start (start + len / 2)) (cond t (len / 2) (len - len / 2))
      one true p =
          record {
            within = omega arith;
            same = halved_end (len / 2) start (len / 2) (omega arith) ∙ sym (halved_end len start len p) ∙ left.same;
          }
      one false p =
          let stays : start + len / 2 ≡ start = omega arith in
          record {
            within = omega arith;
            same =
                halved_end (len - len / 2) (start + len / 2) (len - len / 2) (omega arith)
                ∙ stays
                ∙ sym (halved_end len start len p)
                ∙ left.same;
          }

      many : (t : Bool) → is_above (get_or l (start + len / 2) 0) ≡ t → 1 < len → Left (cond t start (start + len / 2)) (cond t (len / 2) (len - len / 2))
      many true e p = record { within = omega arith; same = sym (halved_left start len p e) ∙ left.same }
      many false e p = record { within = omega arith; same = sym (halved_right start len p e) ∙ left.same }

  pub half_left : {start len : ℕ} {r : Rest} → Left start len → 0 < len → HalfOf is_above l start len r → Left r.start r.len
  half_left {start} {len} left h half =
      rw (half.start_is, half.len_is) (next left h (is_above (get_or l (start + len / 2) 0)) refl)

  -- fewer elements are left, and one at least
  pub half_some : {start len : ℕ} {r : Rest} → 1 < len → HalfOf is_above l start len r → 0 < r.len
  half_some {start} {len} h half = rw half.len_is (by (is_above (get_or l (start + len / 2) 0)))
    where
      by : (t : Bool) → 0 < cond t (len / 2) (len - len / 2)
      by true = omega arith
      by false = omega arith

  pub half_fewer : {start len : ℕ} {r : Rest} → 0 < len → HalfOf is_above l start len r → (r.len ≤ len) × (1 < len → r.len < len)
  half_fewer {start} {len} h half = rw half.len_is (by (is_above (get_or l (start + len / 2) 0)))
    where
      by : (t : Bool) → (cond t (len / 2) (len - len / 2) ≤ len) × (1 < len → cond t (len / 2) (len - len / 2) < len)
      by true = (omega arith, λ p. omega arith)
      by false = (omega arith, λ p. omega arith)

  pub ends : {start len : ℕ} → Left start len → len ≤ 1 → start ≡ end_of is_above l
  ends {start} {len} left h = sym (halved_end len start len h) ∙ left.same

-- the whole search, of a list that is not empty
pub search_is : (at : ℕ → ℕ) (l : List ℕ) → 0 < length l → search_of at l ≡ ended (at (get_or l (end_of (λ w. is_gt (at w)) l) 0)) (end_of (λ w. is_gt (at w)) l)
unfolding search_of
search_is at [] h = absurd (not-suc-le-zero h)
search_is at (w ∷ ws) h = refl

-- and as a function tells it of the element where the halving ends
pub search_told : (at : ℕ → ℕ) (l : List ℕ) {end r : ℕ} → 0 < length l → end ≡ end_of (λ w. is_gt (at w)) l → r ≡ at (get_or l end 0) → ended r end ≡ search_of at l
search_told at l some e told = rw told (ap (λ (n : ℕ). ended (at (get_or l n 0)) n) e ∙ sym (search_is at l some))

-- a halving by another test that says the same ends at the same place
pub same_end : (f g : ℕ → Bool) (l : List ℕ) {end : ℕ} → end ≡ end_of f l → ((w : ℕ) → f w ≡ g w) → end ≡ end_of g l
same_end f g l e h = e ∙ ap (λ (t : ℕ → Bool). end_of t l) (fun_ext h)

pub search_empty : (at : ℕ → ℕ) (l : List ℕ) → length l ≡ 0 → absent 0 ≡ search_of at l
unfolding search_of
search_empty at [] h = refl
search_empty at (w ∷ ws) h = absurd (omega arith)

-- ---- the answer stays inside the list

halved_lt : (is_above : ℕ → Bool) (l : List ℕ) (turns start len : ℕ) → 1 ≤ len → len ≤ turns → halved is_above l len start len < start + len
halved_lt is_above l zero start len h t = absurd (omega arith)
halved_lt is_above l (suc turns) start len h t =
    let low = halved_lt is_above l turns start (len / 2) in
    let high = halved_lt is_above l turns (start + len / 2) (len - len / 2) in
    ⊎_elim
    (λ (one : len ≤ 1). rw (halved_end is_above l len start len one) (omega arith))
    (λ (many : 1 < len).
    ⊎_elim
    (λ (g : is_above (get_or l (start + len / 2) 0) ≡ true).
    let b = low (omega arith) (omega arith) in
    rw (halved_left is_above l start len many g) (omega (arith, b)))
    (λ (g : is_above (get_or l (start + len / 2) 0) ≡ false).
    let b = high (omega arith) (omega arith) in
    rw (halved_right is_above l start len many g) (omega (arith, b)))
    (either (is_above (get_or l (start + len / 2) 0))))
    (le_or_lt len 1)

pub end_lt : (is_above : ℕ → Bool) (l : List ℕ) {end : ℕ} → 0 < length l → end ≡ end_of is_above l → end < length l
end_lt is_above l some e = rw e (omega (arith, halved_lt is_above l (length l) 0 (length l) some (omega arith)))

-- ---- where no element is above, it ends at the last one

never_left : (is_above : ℕ → Bool) (l : List ℕ) → ((w : ℕ) → is_above w ≡ false) → (turns start len : ℕ) → 1 ≤ len → len ≤ turns → halved is_above l len start len + 1 ≡ start + len
never_left is_above l none zero start len h t = absurd (omega arith)
never_left is_above l none (suc turns) start len h t =
    let high = never_left is_above l none turns (start + len / 2) (len - len / 2) in
    ⊎_elim
    (λ (one : len ≤ 1). rw (halved_end is_above l len start len one) (omega arith))
    (λ (many : 1 < len).
    let b = high (omega arith) (omega arith) in
    rw (halved_right is_above l start len many (none (get_or l (start + len / 2) 0))) (omega (arith, b)))
    (le_or_lt len 1)

pub end_last : (is_above : ℕ → Bool) (l : List ℕ) {last : ℕ} → last + 1 ≡ length l → ((w : ℕ) → is_above w ≡ false) → last ≡ end_of is_above l
end_last is_above l {last} e none = omega (arith, never_left is_above l none (length l) 0 (length l) (omega arith) (omega arith))

pub after_le : (at : ℕ → ℕ) (l : List ℕ) → after_of (search_of at l) ≤ length l
after_le at l =
    ⊎_elim
    (λ (none : length l ≤ 0). rw (← search_empty at l (omega arith)) (omega arith))
    (λ (some : 0 < length l). rw (search_is at l some) (inside (at (get_or l (end_of (λ w. is_gt (at w)) l) 0)) (end_of (λ w. is_gt (at w)) l) (end_lt (λ w. is_gt (at w)) l some refl)))
    (le_or_lt (length l) 0)
  where
    inside : (r s : ℕ) → s < length l → after_of (ended r s) ≤ length l
    inside zero s h = omega arith
    inside (suc zero) s h = omega arith
    inside (suc (suc r)) s h = omega arith

pub told_le : (at : ℕ → ℕ) (l : List ℕ) {p : Place} → p ≡ search_of at l → after_of p ≤ length l
told_le at l e = rw e (after_le at l)

-- what is found is found inside
pub found_lt : (at : ℕ → ℕ) (l : List ℕ) (i : ℕ) → search_of at l ≡ found i → i < length l
found_lt at l i e = rw e at (after_le at l)

-- and has the key
pub found_equal : (at : ℕ → ℕ) (l : List ℕ) (i : ℕ) → search_of at l ≡ found i → at (get_or l i 0) ≡ 1
found_equal at l i e =
    ⊎_elim
    (λ (none : length l ≤ 0). absurd (never (search_empty at l (omega arith) ∙ e)))
    (λ (some : 0 < length l). by (end_of (λ w. is_gt (at w)) l) (at (get_or l (end_of (λ w. is_gt (at w)) l) 0)) refl (sym (search_is at l some) ∙ e))
    (le_or_lt (length l) 0)
  where
    never : {j : ℕ} → absent j ≡ found i → ⊥
    never p = let z : ◌≡◌ {A = ℕ} 0 1 = cc in omega arith

    by : (s r : ℕ) → at (get_or l s 0) ≡ r → ended r s ≡ found i → at (get_or l i 0) ≡ 1
    by s zero p q = absurd (never q)
    by s (suc zero) p q =
        let same : s ≡ i = cc in
        ap (λ (k : ℕ). at (get_or l k 0)) (sym same) ∙ p
    by s (suc (suc r)) p q = absurd (never q)
