-- What is kept after an update, for every count, all bytes and every tag that no operation refuses: what was kept last is read back, what
-- was dropped is not, the other of the two is left alone, and the tag stays in range. Assumes nothing.
use Rattle.std.specs.Prelude.{◌≡◌, ◌&&◌, ◌%◌, ◌^◌, ◌≤◌}
use Rattle.laws.proofs.Prelude.{refl, sym, ap, Bool, true, false, not, Bool·beq, List, Some, None, ℕ, arith, leb-true}
use Rattle.laws.proofs.Prelude.{not-true, bit_and, leb, every_at}
use lib.Bits.{bit_or}
use Rattle.cached_tile.specs.declared.CachedTile.{CachedTile}
use Rattle.cached_tile.specs.Tile.{keeps_count, keeps_color, count_number, count_bytes, layer_count_of, solid_color_of, keep_count, keep_color, drop_count, drop_color}

-- three bytes hold the low 24 bits of a number
pub low_bits : (n : ℕ) → count_number (count_bytes n) ≡ n % 2 ^ 24
low_bits n = omega arith

-- two tests that agree
agree : (a b : Bool) → Bool·beq a b ≡ true → a ≡ b
agree true true e = refl
agree true false e = sym e
agree false true e = e
agree false false e = refl

module _ (t : CachedTile) (h : t.tags ≤ 3) where
  -- a rule of the tag, tried at each of the four
  each : (f : ℕ → Bool) → (f 3 && (f 2 && (f 1 && (f 0 && true)))) ≡ true → f t.tags ≡ true
  each f e = every_at 4 f e t.tags (omega arith)

  pub count_kept : (n : ℕ) → layer_count_of (keep_count t n) ≡ Some (n % 2 ^ 24)
  count_kept n = rw (each (λ tags. keeps_count (bit_or tags 2)) refl) (ap Some (low_bits n))

  pub count_dropped : layer_count_of (drop_count t) ≡ None
  count_dropped = rw (not-true (keeps_count (bit_and t.tags 1)) (each (λ tags. not (keeps_count (bit_and tags 1))) refl)) refl

  pub color_kept : (bytes : List ℕ) → solid_color_of (keep_color t bytes) ≡ record { given = true; bytes = bytes }
  color_kept bytes = rw (each (λ tags. keeps_color (bit_or tags 1)) refl) refl

  pub color_dropped : (solid_color_of (drop_color t)).given ≡ false
  color_dropped = not-true (keeps_color (bit_and t.tags 2)) (each (λ tags. not (keeps_color (bit_and tags 2))) refl)

  -- ---- the other of the two

  pub count_left : (bytes : List ℕ) → layer_count_of (keep_color t bytes) ≡ layer_count_of t
  count_left bytes = rw (agree (keeps_count (bit_or t.tags 1)) (keeps_count t.tags) (each (λ tags. Bool·beq (keeps_count (bit_or tags 1)) (keeps_count tags)) refl)) refl

  pub color_left : (n : ℕ) → solid_color_of (keep_count t n) ≡ solid_color_of t
  color_left n = rw (agree (keeps_color (bit_or t.tags 2)) (keeps_color t.tags) (each (λ tags. Bool·beq (keeps_color (bit_or tags 2)) (keeps_color tags)) refl)) refl

  -- ---- the tag

  pub tags_count : bit_or t.tags 2 ≤ 3
  tags_count = leb-true (bit_or t.tags 2) 3 (each (λ tags. leb (bit_or tags 2) 3) refl)

  pub tags_color : bit_or t.tags 1 ≤ 3
  tags_color = leb-true (bit_or t.tags 1) 3 (each (λ tags. leb (bit_or tags 1) 3) refl)

  pub tags_dropped : bit_and t.tags 2 ≤ 3
  tags_dropped = leb-true (bit_and t.tags 2) 3 (each (λ tags. leb (bit_and tags 2) 3) refl)
