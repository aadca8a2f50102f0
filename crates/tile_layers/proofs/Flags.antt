-- The column of flags: written from a place on, and read back. Assumes nothing.
use Rattle.std.specs.Prelude.{◌≡◌, ◌∷◌, ◌++◌, ◌+◌, ◌≤◌, ◌<◌}
use Rattle.laws.proofs.Prelude.{sym, ap, ◌∙◌, Bool, false, List, [], ℕ, zero-add, suc-add, arith, length, get_or, set}
use Rattle.laws.proofs.Prelude.{take, drop, length-append, length-drop, length-map, List·getD-append, get_or-append-add, get_or-take, length-take-le}
use Rattle.laws.proofs.Prelude.{over, length_over}
use Rattle.styling.specs.declared.Layer.{Layer}
use Rattle.tile_layers.specs.Listing.{Listed, has_any, segments_of, is_changed, changed_of, over_from, flags_over}

-- a store behind the front
pub set_past : (xs ys : List Bool) (i : ℕ) (b : Bool) → set (xs ++ ys) (length xs + i) b ≡ xs ++ set ys i b
set_past [] ys i b = ap (λ (k : ℕ). set ys k b) (zero-add i)
set_past (x ∷ xs) ys i b =
    ap (λ (k : ℕ). set (x ∷ (xs ++ ys)) k b) (suc-add (length xs) i)
    ∙ ap (λ (r : List Bool). x ∷ r) (set_past xs ys i b)

-- what is written at the front is read there
get_d_over : (ws old : List Bool) (i : ℕ) → i < length ws → get_or (over ws old) i false ≡ get_or ws i false
unfolding over
get_d_over ws old i h = List·getD-append ws (drop (length ws) old) false i h

module _ (k : ℕ) (ws old : List Bool) where
  pub length_from : k + length ws ≤ length old → length (over_from k ws old) ≡ length old
  unfolding over_from
  length_from h =
      length-append (take k old) (over ws (drop k old))
      ∙ omega (arith, length-take-le k old (omega arith), length_over (drop k old) ws (omega (arith, length-drop k old)), length-drop k old)

  pub before_from : (i : ℕ) → k ≤ length old → i < k → get_or (over_from k ws old) i false ≡ get_or old i false
  unfolding over_from
  before_from i h p =
      List·getD-append (take k old) (over ws (drop k old)) false i (omega (arith, length-take-le k old h))
      ∙ get_or-take k old i false p

  pub behind_from : (i : ℕ) → k ≤ length old → i < length ws → get_or (over_from k ws old) (k + i) false ≡ get_or ws i false
  unfolding over_from
  behind_from i h p =
      ap (λ (m : ℕ). get_or (take k old ++ over ws (drop k old)) (m + i) false) (sym (length-take-le k old h))
      ∙ get_or-append-add (take k old) (over ws (drop k old)) i false
      ∙ get_d_over ws (drop k old) i p

-- the flags of a list: its column keeps its length, and both flags of each layer are read back
module _ (table : List Layer) (ls : List Listed) (old : List Bool) (few : length ls ≤ 256) (room : 256 + length ls ≤ length old) where
  marked_long : length (segments_of ls) ≡ length ls
  marked_long = length-map ls (λ l. has_any l.own)

  front_long : length (over (segments_of ls) old) ≡ length old
  front_long = length_over old (segments_of ls) (omega (arith, marked_long))

  pub length_flags : length (flags_over table ls old) ≡ length old
  length_flags =
      length_from 256 (changed_of table ls) (over (segments_of ls) old) (omega (arith, length-map ls (λ l. is_changed table l.id), front_long))
      ∙ front_long

  pub segments_flag : (i : ℕ) → i < length ls → get_or (flags_over table ls old) i false ≡ get_or (segments_of ls) i false
  segments_flag i h =
      before_from 256 (changed_of table ls) (over (segments_of ls) old) i (omega (arith, front_long)) (omega arith)
      ∙ get_d_over (segments_of ls) old i (omega (arith, marked_long))

  pub changed_flag : (i : ℕ) → i < length ls → get_or (flags_over table ls old) (256 + i) false ≡ get_or (changed_of table ls) i false
  changed_flag i h =
      behind_from 256 (changed_of table ls) (over (segments_of ls) old) i (omega (arith, front_long)) (omega (arith, length-map ls (λ l. is_changed table l.id)))
