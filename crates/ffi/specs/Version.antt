-- The number of the exports: a caller that was made for another one must not link. The first had no number.
use Rattle.laws.specs.Prelude.{ℕ}

abbrev pub version : ℕ
version = 2
