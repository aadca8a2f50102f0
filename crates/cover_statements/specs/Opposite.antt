-- A cover run the other way: each row's number negated, exactly. Stands for W-210's 'each carry negated'.
use Rattle.laws.specs.Prelude.{List, map, ℤ, neg_ℤ}

abbrev pub negated : List ℤ → List ℤ
negated covers = map neg_ℤ covers
