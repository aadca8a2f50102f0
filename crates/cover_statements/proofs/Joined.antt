-- Two lists of segments joined: specs/Joined's claim. Assumes nothing.
use Rattle.std.specs.Prelude.{◌≡◌, ◌++◌, ◌+◌, ◌<◌, ◌+ℤ◌}
use Rattle.laws.proofs.Prelude.{ap, ap₂, sym, ◌∙◌, Bool, cond, List, ℕ, arith, zero-add, add_assoc, le-leb, eqb, leb, ℤ, pos}
use Rattle.laws.proofs.Prelude.{nat_abs, +ℤ_idl, refused, given, tabulate, every, count_by, every_intro, is_tabulate, sum_append, sumℤ_same}
use Rattle.laws.proofs.Prelude.{sumℕ_same}
use native.Mathlib.Nat.{add_comm}
use Rattle.laws.proofs.Sums.{sumℤ_append}
use Rattle.cover_statements.specs.Carry.{in_row, cover_in, abs_cover, load_in, light_at, is_light, carry_of}
use Rattle.pixel_segment.specs.Field.{cover_of}
use Rattle.cover_statements.specs.Cover.{cover_at, no_cover}
use Rattle.cover_statements.specs.Joined.{StaysWithin, list_cover, added_covers, Joins, JoinedCovers}
use Rattle.cover_statements.proofs.Carries.{no_cover_at, carry_at_lem, carry_length}

module _ (ws : List ℕ) (n : ℕ) where
  -- a list within 127 in each row is accepted
  accepted : (part : List ℕ) → StaysWithin ws n part → list_cover ws n part ≡ given (carry_of ws n (no_cover n) part)
  unfolding is_light
  accepted part h =
      ap (λ (t : Bool). cond t (given (carry_of ws n (no_cover n) part)) (refused 9))
      (every_intro n (light_at ws (no_cover n) part)
      (λ y q. le-leb (nat_abs (cover_at (no_cover n) y) + load_in ws y part) 127 (omega (arith, h.at y q, ap nat_abs (no_cover_at n y)))))

  -- of as many segments, in any order
  same_cover : (l m : List ℕ) → ((v : ℕ) → count_by (eqb v) m ≡ count_by (eqb v) l) → list_cover ws n m ≡ list_cover ws n l
  unfolding is_light carry_of
  same_cover l m e =
      λ i. cond (every n (λ y. leb (nat_abs (cover_at (no_cover n) y) + sumℕ_same (in_row ws y) (abs_cover ws) m l e i) 127))
      (given (tabulate n (λ y. cover_at (no_cover n) y +ℤ sumℤ_same (in_row ws y) (cover_of ws) m l e i)))
      (refused 9)

  module _ (a b : List ℕ) (h : StaysWithin ws n (a ++ b)) where
    load_both : (y : ℕ) → load_in ws y (a ++ b) ≡ load_in ws y a + load_in ws y b
    load_both y = sum_append ◌+◌ 0 zero-add add_assoc (in_row ws y) (abs_cover ws) a b

    first : List ℤ
    first = carry_of ws n (no_cover n) a

    second : List ℤ
    second = carry_of ws n (no_cover n) b

    sum_is : carry_of ws n (no_cover n) (a ++ b) ≡ added_covers n first second
    unfolding first second
    sum_is =
        is_tabulate n (λ y. cover_at first y +ℤ cover_at second y) (pos 0) (carry_of ws n (no_cover n) (a ++ b)) (carry_length ws n (no_cover n) (a ++ b))
        (λ y q.
        carry_at_lem ws n (no_cover n) (a ++ b) y q
        ∙ ap₂ ◌+ℤ◌ (no_cover_at n y) (sumℤ_append (in_row ws y) (cover_of ws) a b)
        ∙ +ℤ_idl (cover_in ws y a +ℤ cover_in ws y b)
        ∙ sym (ap₂ ◌+ℤ◌ (alone y q a) (alone y q b)))
      where
        alone : (y : ℕ) → y < n → (l : List ℕ) → cover_at (carry_of ws n (no_cover n) l) y ≡ cover_in ws y l
        alone y q l = carry_at_lem ws n (no_cover n) l y q ∙ ap (λ (z : ℤ). z +ℤ cover_in ws y l) (no_cover_at n y) ∙ +ℤ_idl (cover_in ws y l)

    both_is : list_cover ws n (a ++ b) ≡ given (added_covers n first second)
    both_is = accepted (a ++ b) h ∙ ap given sum_is

    count_both : (l m : List ℕ) (v : ℕ) → count_by (eqb v) (l ++ m) ≡ count_by (eqb v) l + count_by (eqb v) m
    count_both l m v = sum_append ◌+◌ 0 zero-add add_assoc (eqb v) (λ w. 1) l m

    pub joins : Joins ws n a b
    unfolding first second
    joins =
        record {
          first = first;
          second = second;
          of_first = accepted a (record { at = λ y q. omega (arith, h.at y q, load_both y) });
          of_second = accepted b (record { at = λ y q. omega (arith, h.at y q, load_both y) });
          of_both = both_is;
          turned = same_cover (a ++ b) (b ++ a) (λ v. count_both b a v ∙ add_comm (count_by (eqb v) b) (count_by (eqb v) a) ∙ sym (count_both a b v)) ∙ both_is;
          merged = λ m e. same_cover (a ++ b) m e ∙ both_is;
        }

pub joined : JoinedCovers
joined ws n a b h = joins ws n a b h
