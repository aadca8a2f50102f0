-- What dropping the one of a tile's tags leaves of the other, for every tag that no operation refuses. Assumes nothing.
use Rattle.std.specs.Prelude.{◌≡◌, ◌&&◌, ◌≤◌}
use Rattle.laws.proofs.Prelude.{refl, sym, Bool, true, false, Bool·beq, ℕ, arith, leb-true, bit_and, leb, every_at}
use Rattle.cached_tile.specs.declared.CachedTile.{CachedTile}
use Rattle.cached_tile.specs.Tile.{keeps_count, keeps_color, layer_count_of, solid_color_of, drop_count, drop_color}

agree : (a b : Bool) → Bool·beq a b ≡ true → a ≡ b
agree true true e = refl
agree true false e = sym e
agree false true e = e
agree false false e = refl

module _ (t : CachedTile) (h : t.tags ≤ 3) where
  -- a rule of the tag, tried at each of the four
  each : (f : ℕ → Bool) → (f 3 && (f 2 && (f 1 && (f 0 && true)))) ≡ true → f t.tags ≡ true
  each f e = every_at 4 f e t.tags (omega arith)

  pub color_uncounted : solid_color_of (drop_count t) ≡ solid_color_of t
  color_uncounted = rw (agree (keeps_color (bit_and t.tags 1)) (keeps_color t.tags) (each (λ tags. Bool·beq (keeps_color (bit_and tags 1)) (keeps_color tags)) refl)) refl

  pub count_uncolored : layer_count_of (drop_color t) ≡ layer_count_of t
  count_uncolored = rw (agree (keeps_count (bit_and t.tags 2)) (keeps_count t.tags) (each (λ tags. Bool·beq (keeps_count (bit_and tags 2)) (keeps_count tags)) refl)) refl

  pub tags_uncounted : bit_and t.tags 1 ≤ 3
  tags_uncounted = leb-true (bit_and t.tags 1) 3 (each (λ tags. leb (bit_and tags 1) 3) refl)
