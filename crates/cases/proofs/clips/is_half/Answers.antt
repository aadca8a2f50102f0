-- `clips::is_half` meets its contract: the library's test of each element is the same test. Assumes nothing.
use Rattle.std.specs.Prelude.{◌≡◌, ◌&&◌}
use Rattle.std.specs.List.{list_all}
use Rattle.std.proofs.Common.{tests}
use Rattle.std.proofs.lemmas.Iterator.{YieldsList-from_slice}
use Rattle.std.proofs.lemmas.Iterator.Search.{all_from_yields_List}
use Rattle.laws.proofs.Prelude.{refl, ap, ◌∙◌, Bool, List, [], ◌∷◌, rules, all}
use Rattle.cases.specs.Answers.{is_a_half}
use Rattle.cases.proofs.clips.is_half.Goals as goal

all_is : {A : Type 0} (p : A → Bool) (l : List A) → list_all p l ≡ all p l
all_is p [] = refl
all_is p (x ∷ l) = ap (λ (b : Bool). p x && b) (all_is p l)

pub returns : goal.returns
returns c =
    all_from_yields_List is_a_half _ _ c.all.result c.all.ensures.ran (YieldsList-from_slice c.args.plane.now cc) (λ x b q k. search (rules, tests))
    ∙ all_is is_a_half c.args.plane.now
