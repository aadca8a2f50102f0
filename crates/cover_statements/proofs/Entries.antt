-- Laws of covers in a lent list: reading what was written, and elsewhere what was there. Assumes nothing.
use Rattle.std.specs.Prelude.{◌≡◌, ◌++◌, ◌+◌, ◌*◌, ◌-◌, ◌≤◌, ◌<◌}
use Rattle.laws.proofs.Prelude.{refl, sym, ap, ◌∙◌, List, append_assoc, inl, inr, ⊎_elim, ℕ, suc}
use Rattle.laws.proofs.Prelude.{mul-le-mul_right, add-one, arith, ℤ, pos, length, get_or, take, drop, set, length-set, length-take, length-drop}
use Rattle.laws.proofs.Prelude.{length-append, replicate, length-replicate, List·getD-append, take_all, drop-drop, get_or-take, get_or-drop, ext_get_or}
use Rattle.laws.proofs.Prelude.{length-take-le, get_or-append-add, paste, le_or_lt, filled, filled_more, over}
use native.Mathlib.Nat.{suc-mul}
use lib.Seq.{paste-zero, paste-suc, length-paste}
use Rattle.cover_statements.specs.Entry.{cover_entry, put_entry}
use Rattle.cover_statements.proofs.Filled.{filled_whole}

abbrev at : List ℤ → ℕ → ℤ
at l k = get_or l k (pos 0)

pub entry_length : (n place : ℕ) (covers : List ℤ) → place * n + n ≤ length covers → length (cover_entry n place covers) ≡ n
unfolding cover_entry
entry_length n place covers h = length-take-le n (drop (place * n) covers) (omega (arith, length-drop (place * n) covers))

pub entry_at_lem : (n place : ℕ) (covers : List ℤ) (y : ℕ) → y < n → at (cover_entry n place covers) y ≡ at covers (place * n + y)
unfolding cover_entry
entry_at_lem n place covers y h = get_or-take n (drop (place * n) covers) y (pos 0) h ∙ get_or-drop (place * n) covers y (pos 0)

-- ---- the loop that reads an entry

pub record Reading (covers : List ℤ) (n place start y : ℕ) (entry : List ℤ) : Type 0 where
  pub reached : y ≤ n
  pub begun : start ≡ place * n
  pub room : place * n + n ≤ length covers
  pub long : length entry ≡ n
  pub drawn : entry ≡ filled (replicate n (pos 0)) (cover_entry n place covers) y

module _ {covers : List ℤ} {n place start : ℕ} where
  pub read_start : start ≡ place * n → place * n + n ≤ length covers → Reading covers n place start 0 (replicate n (pos 0))
  read_start e h = record { reached = omega arith; begun = e; room = h; long = length-replicate n (pos 0); drawn = refl }

  pub read_next : {y : ℕ} {v : ℤ} {entry : List ℤ} → Reading covers n place start y entry → y < n → v ≡ at covers (start + y) → Reading covers n place start (y + 1) (set entry y v)
  read_next {y} {v} {entry} c h e =
      record {
        reached = omega arith;
        begun = c.begun;
        room = c.room;
        long = length-set entry y v ∙ c.long;
        drawn =
            rw (e, c.begun, ← entry_at_lem n place covers y h, c.drawn)
            (filled_more (replicate n (pos 0)) (cover_entry n place covers) y (pos 0) (omega (arith, length-replicate n (pos 0))) (omega (arith, entry_length n place covers c.room)));
      }

  pub read_end : {y : ℕ} {entry : List ℤ} → Reading covers n place start y entry → n ≤ y → entry ≡ cover_entry n place covers
  read_end {y} {entry} c h =
      let e : y ≡ n = omega (arith, c.reached) in
      c.drawn ∙ rw e (filled_whole (replicate n (pos 0)) (cover_entry n place covers) n (length-replicate n (pos 0)) (entry_length n place covers c.room))

-- ---- the loop that writes one

put_paste : (n place : ℕ) (cover old : List ℤ) → length cover ≡ n → put_entry n place cover old ≡ paste old (place * n) cover n
unfolding put_entry over
put_paste n place cover old e =
    rw (e, drop-drop n (place * n) old)
    (sym (append_assoc (take (place * n) old) cover (drop (place * n + n) old))
    ∙ ap (λ (c : List ℤ). take (place * n) old ++ c ++ drop (place * n + n) old) (sym (take_all n cover (omega arith))))

pub record Writing (old : List ℤ) (n place start y : ℕ) (cover new : List ℤ) : Type 0 where
  pub reached : y ≤ n
  pub begun : start ≡ place * n
  pub room : place * n + n ≤ length old
  pub wide : length cover ≡ n
  pub long : length new ≡ length old
  pub drawn : new ≡ paste old (place * n) cover y

module _ {old : List ℤ} {n place start : ℕ} {cover : List ℤ} where
  pub write_start : start ≡ place * n → place * n + n ≤ length old → length cover ≡ n → Writing old n place start 0 cover old
  write_start e h l =
      record { reached = omega arith; begun = e; room = h; wide = l; long = refl; drawn = paste-zero old (place * n) cover }

  pub write_next : {y k : ℕ} {v : ℤ} {new : List ℤ} → Writing old n place start y cover new → y < n → k ≡ start + y → v ≡ at cover y → Writing old n place start (y + 1) cover (set new k v)
  write_next {y} {k} {v} {new} c h p e =
      record {
        reached = omega arith;
        begun = c.begun;
        room = c.room;
        wide = c.wide;
        long = length-set new k v ∙ c.long;
        drawn =
            rw (add-one y, e, p, c.begun, c.drawn)
            (paste-suc old (place * n) cover y (pos 0) (omega (arith, c.room)) (omega (arith, c.wide)));
      }

  pub write_end : {y : ℕ} {new : List ℤ} → Writing old n place start y cover new → n ≤ y → new ≡ put_entry n place cover old
  write_end {y} {new} c h =
      let e : y ≡ n = omega (arith, c.reached) in
      c.drawn ∙ rw e (sym (put_paste n place cover old c.wide))

-- ---- what is read after a write

module _ (n place : ℕ) (cover old : List ℤ) (wide : length cover ≡ n) (room : place * n + n ≤ length old) where
  pub put_length : length (put_entry n place cover old) ≡ length old
  put_length = ap length (put_paste n place cover old wide) ∙ length-paste old (place * n) cover n room (omega arith)

  front : length (take (place * n) old) ≡ place * n
  front = length-take-le (place * n) old (omega arith)

  inside : (i : ℕ) → i < n → at (put_entry n place cover old) (place * n + i) ≡ at cover i
  unfolding put_entry over
  inside i h =
      ap (λ (k : ℕ). at (put_entry n place cover old) (k + i)) (sym front)
      ∙ get_or-append-add (take (place * n) old) (cover ++ drop (length cover) (drop (place * n) old)) i (pos 0)
      ∙ List·getD-append cover (drop (length cover) (drop (place * n) old)) (pos 0) i (omega arith)

  before : (k : ℕ) → k < place * n → at (put_entry n place cover old) k ≡ at old k
  unfolding put_entry
  before k h =
      List·getD-append (take (place * n) old) (over cover (drop (place * n) old)) (pos 0) k (omega (arith, front))
      ∙ get_or-take (place * n) old k (pos 0) h

  after : (i : ℕ) → at (put_entry n place cover old) (place * n + n + i) ≡ at old (place * n + n + i)
  after i =
      ap (λ (l : List ℤ). at l (place * n + n + i)) (put_paste n place cover old wide)
      ∙ ap (λ (k : ℕ). at (paste old (place * n) cover n) (k + i)) (sym head)
      ∙ get_or-append-add (take (place * n) old ++ take n cover) (drop (place * n + n) old) i (pos 0)
      ∙ get_or-drop (place * n + n) old i (pos 0)
    where
      head : length (take (place * n) old ++ take n cover) ≡ place * n + n
      head = simp (length-append, length-take) (omega arith)

  pub put_same : cover_entry n place (put_entry n place cover old) ≡ cover
  put_same =
      ext_get_or (pos 0) (cover_entry n place (put_entry n place cover old)) cover (long ∙ sym wide)
      (λ i h. let l : i < n = omega (arith, long) in entry_at_lem n place (put_entry n place cover old) i l ∙ inside i l)
    where
      long : length (cover_entry n place (put_entry n place cover old)) ≡ n
      long = entry_length n place (put_entry n place cover old) (omega (arith, put_length))

  pub put_other : (other : ℕ) → (other ≡ place → ⊥) → other * n + n ≤ length old → cover_entry n other (put_entry n place cover old) ≡ cover_entry n other old
  put_other other d r =
      ext_get_or (pos 0) (cover_entry n other (put_entry n place cover old)) (cover_entry n other old)
      (entry_length n other (put_entry n place cover old) (omega (arith, put_length)) ∙ sym (entry_length n other old r))
      (λ i h.
      let l : i < n = omega (arith, entry_length n other (put_entry n place cover old) (omega (arith, put_length))) in
      entry_at_lem n other (put_entry n place cover old) i l
      ∙ ⊎_elim
      (λ (q : other < place). before (other * n + i) (omega (arith, suc-mul other n, mul-le-mul_right n q)))
      (λ (q : place ≤ other).
      let s : suc place ≤ other = omega arith in
      let m = mul-le-mul_right n s in
      let j : place * n + n + (other * n + i - (place * n + n)) ≡ other * n + i = omega (arith, suc-mul place n) in
      rw j at (after (other * n + i - (place * n + n))))
      (⊎_elim (λ (q : place ≤ other). inr q) (λ (q : other < place). inl q) (le_or_lt place other))
      ∙ sym (entry_at_lem n other old i l))
