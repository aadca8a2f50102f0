-- Which listed layers are shown, by a column of marks and how many are skipped. Stands for 'a listed layer that is neither masked off nor skipped
-- is shown; a skipped one, masked off or not, is passed over as covered'. proofs/Seen has that `shown_of` are the shown layers.
use Rattle.std.specs.Prelude.{◌&&◌}
use Rattle.laws.specs.Prelude.{Bool, false, not, List, map, ℕ, ltb, length, get_or, tabulate, filter}
use Rattle.pass_statements.specs.declared.item.Item.{Item}
use Rattle.pass_statements.specs.Covered.{item_at}

-- the layer in place i is masked off
abbrev pub is_masked_off : List Bool → ℕ → Bool
is_masked_off unmasked i = not (get_or unmasked i false)

-- it is passed over as covered: it stands below the first layer that is not skipped
abbrev pub is_passed_over : ℕ → ℕ → Bool
is_passed_over skipped i = ltb i skipped

-- it is shown
abbrev pub is_shown : ℕ → List Bool → ℕ → Bool
is_shown skipped unmasked i = not (is_masked_off unmasked i) && not (is_passed_over skipped i)

-- the shown ones of the listed layers, ascending
abbrev pub shown_layers : ℕ → List Item → List Bool → List Item
shown_layers skipped items unmasked = map (item_at items) (filter (is_shown skipped unmasked) (tabulate (length items) (λ i. i)))
