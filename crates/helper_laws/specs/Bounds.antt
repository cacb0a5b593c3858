-- Texts of counters.
use Rattle.std.specs.Prelude.{◌≡◌, ℤ, true}
use Rattle.ha_value.specs.declared.value.Num.{Num}
use Rattle.ha_config.specs.Helpers.{Counter}
use Rattle.ha_config.specs.Numbers.{print_number}
use Rattle.ha_config.specs.Words.{Text}
use Rattle.ha_sight.specs.Services.{is_within}

-- the text is that of a whole number within the bounds of the counter
pub record IsCount (c : Counter) (text : Text) : Type 0 where
  pub number : ℤ
  pub is : text ≡ print_number (Num.Whole number)
  pub within : is_within c number ≡ true
