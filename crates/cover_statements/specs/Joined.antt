-- Two lists of segments joined, one after the other. Stands for W-210: 'the cover of two joined segment lists is the sum of their covers, in either
-- order, where the absolute sums stay within 127'. The cover of a list is what adding it to no cover answers, which number 9 judges.
use Rattle.std.specs.Prelude.{◌≡◌, ◌++◌, ◌≤◌, ◌<◌, ◌+ℤ◌}
use Rattle.laws.specs.Prelude.{List, ℕ, eqb, ℤ, Answer, given, tabulate, count_by}
use Rattle.cover_statements.specs.Carry.{load_in, add_of}
use Rattle.cover_statements.specs.Cover.{cover_at, no_cover}

-- the cover of a list of segments in n pixel rows, or refused by 9
abbrev pub list_cover : List ℕ → ℕ → List ℕ → Answer (List ℤ)
list_cover ws n part = add_of ws n (no_cover n) part

-- two covers added, row by row
abbrev pub added_covers : ℕ → List ℤ → List ℤ → List ℤ
added_covers n xs ys = tabulate n (λ y. cover_at xs y +ℤ cover_at ys y)

-- the covers of a and of b are accepted, that of a and then b is their sum, and so is that of b and then a
pub record Joins (ws : List ℕ) (n : ℕ) (a b : List ℕ) : Type 0 where
  pub first : List ℤ
  pub second : List ℤ
  pub of_first : list_cover ws n a ≡ given first
  pub of_second : list_cover ws n b ≡ given second
  pub of_both : list_cover ws n (a ++ b) ≡ given (added_covers n first second)
  pub turned : list_cover ws n (b ++ a) ≡ given (added_covers n first second)
  -- and so is that of the two merged in any way: of every list with the same segments, each as often
  pub merged : (m : List ℕ) → ((v : ℕ) → count_by (eqb v) m ≡ count_by (eqb v) (a ++ b)) → list_cover ws n m ≡ given (added_covers n first second)

-- the absolute covers of a list, summed, stay within 127 in each of n pixel rows
pub record StaysWithin (ws : List ℕ) (n : ℕ) (part : List ℕ) : Type 0 where
  pub at : (y : ℕ) → y < n → load_in ws y part ≤ 127

-- the claim: wherever those of both lists together do. proofs/Joined has it
abbrev pub JoinedCovers : Type 0
JoinedCovers = (ws : List ℕ) (n : ℕ) (a b : List ℕ) → StaysWithin ws n (a ++ b) → Joins ws n a b
