-- What each definition by a fold over values is at one level.
use Rattle.std.proofs.Common.{◌≡◌, ℕ, Bool, ap}
use Rattle.ha_value.specs.declared.value.Value.{Value}
use Rattle.ha_value.specs.declared.value.Value.TheOpen.{Value-F}
use Rattle.ha_value.specs.declared.value.Value.TheViews.{out-Value, roll-Value}
use Rattle.ha_value.specs.declared.value.Value.TheFolds.{fold-roll-Value, fold_out-Value, map-Value}
use Rattle.ha_config.specs.Words.{Text}
use Rattle.ha_config.specs.Equal.{same_value, same_step, equal_value, equal_step}
use Rattle.ha_config.specs.ValueText.{print_value, print_step, depth_of, depth_step}
use Rattle.ha_config.specs.ValueFacts.{is_sound_value, sound_step}

pub same_value-roll : (x : Value-F Value) (w : Value) → same_value (roll-Value x) w ≡ same_step (map-Value Value (Value → Bool) same_value x) w
same_value-roll x w = ap (λ f. f w) (fold-roll-Value (Value → Bool) same_step x)

pub equal_value-roll : (x : Value-F Value) (w : Value) → equal_value (roll-Value x) w ≡ equal_step (map-Value Value (Value → Bool) equal_value x) w
equal_value-roll x w = ap (λ f. f w) (fold-roll-Value (Value → Bool) equal_step x)

pub print_value-roll : (x : Value-F Value) → print_value (roll-Value x) ≡ print_step (map-Value Value Text print_value x)
print_value-roll x = fold-roll-Value Text print_step x

pub depth_of-roll : (x : Value-F Value) → depth_of (roll-Value x) ≡ depth_step (map-Value Value ℕ depth_of x)
depth_of-roll x = fold-roll-Value ℕ depth_step x

pub is_sound_value-roll : (x : Value-F Value) → is_sound_value (roll-Value x) ≡ sound_step (map-Value Value Bool is_sound_value x)
is_sound_value-roll x = fold-roll-Value Bool sound_step x

pub same_value-out : (v w : Value) → same_value v w ≡ same_step (map-Value Value (Value → Bool) same_value (out-Value v)) w
same_value-out v w = ap (λ f. f w) (fold_out-Value (Value → Bool) same_step v)

pub equal_value-out : (v w : Value) → equal_value v w ≡ equal_step (map-Value Value (Value → Bool) equal_value (out-Value v)) w
equal_value-out v w = ap (λ f. f w) (fold_out-Value (Value → Bool) equal_step v)

pub print_value-out : (v : Value) → print_value v ≡ print_step (map-Value Value Text print_value (out-Value v))
print_value-out v = fold_out-Value Text print_step v

pub depth_of-out : (v : Value) → depth_of v ≡ depth_step (map-Value Value ℕ depth_of (out-Value v))
depth_of-out v = fold_out-Value ℕ depth_step v

pub is_sound_value-out : (v : Value) → is_sound_value v ≡ sound_step (map-Value Value Bool is_sound_value (out-Value v))
is_sound_value-out v = fold_out-Value Bool sound_step v
