-- Covers one after the other in a lent list, n numbers each: the queue of carries, and a list's incoming covers.
use Rattle.std.specs.Prelude.{◌++◌, ◌*◌}
use Rattle.laws.specs.Prelude.{List, ℕ, ℤ, take, drop, over}

-- the cover at a place
unfoldable pub cover_entry : ℕ → ℕ → List ℤ → List ℤ
cover_entry n place covers = take n (drop (place * n) covers)

-- the list with a cover written at a place, and all else as it was
unfoldable pub put_entry : ℕ → ℕ → List ℤ → List ℤ → List ℤ
put_entry n place cover old = take (place * n) old ++ over cover (drop (place * n) old)
