-- Printed lists.
use Rattle.std.specs.Prelude.{ℕ, zero, suc, [], ◌∷◌, List, map}
use Rattle.ha_value.specs.declared.value.Value.{Value}
use Rattle.ha_config.specs.Words.{Text}
use Rattle.ha_config.specs.ValueText.{list_text, print_value}

abbrev pub print_items : List Value → Text
print_items items = list_text (map print_value items)

-- what stands before the item at a place
abbrev pub comma_at : ℕ → Text
comma_at zero = []
comma_at (suc n) = 44 ∷ []
