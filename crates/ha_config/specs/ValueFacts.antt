-- Facts on values: which are sound, which texts they hold, and which pairs a fair command may have.
use Rattle.std.specs.Prelude.{suc, ◌≤◌, IsTrue, Bool, true, not, ◌&&◌, List, [], ◌∷◌, map}
use Rattle.std.specs.List.{list_any, list_all}
use Rattle.std.specs.Str.{is_utf8}
use Rattle.ha_value.specs.declared.value.Value.{Value}
use Rattle.ha_value.specs.declared.value.Value.TheOpen.{Value-F}
use Rattle.ha_value.specs.declared.value.Value.TheFolds.{fold-Value}
use Rattle.ha_config.specs.Words.{Text, Pairs, same}
use Rattle.ha_config.specs.Numbers.{is_in_range}
use Rattle.ha_config.specs.ValueText.{pairs_depth}

-- ---- sound values

-- no text stands in the list twice
abbrev pub all_distinct : List Text → Bool
all_distinct [] = true
all_distinct (t ∷ ts) = not (list_any (same t) ts) && all_distinct ts

abbrev pub keys_of : {X : Type 0} → List (Text × X) → List Text
keys_of ps = map (λ p. p.0) ps

abbrev pub sound_step : Value-F Bool → Bool
sound_step Value-F.Null = true
sound_step (Value-F.Flag b) = true
sound_step (Value-F.Number n) = is_in_range n
sound_step (Value-F.Text t) = true
sound_step (Value-F.Items bs) = list_all (λ b. b) bs
sound_step (Value-F.Pairs ps) = all_distinct (keys_of ps) && list_all (λ p. p.1) ps

-- the numbers in a value are in range, and the keys of each map are distinct
abbrev pub is_sound_value : Value → Bool
is_sound_value = fold-Value Bool sound_step

abbrev pub are_sound_pairs : Pairs → Bool
are_sound_pairs ps = all_distinct (keys_of ps) && list_all (λ p. is_sound_value p.1) ps

-- ---- texts in values

abbrev pub utf8_step : Value-F Bool → Bool
utf8_step Value-F.Null = true
utf8_step (Value-F.Flag b) = true
utf8_step (Value-F.Number n) = true
utf8_step (Value-F.Text t) = is_utf8 t
utf8_step (Value-F.Items bs) = list_all (λ b. b) bs
utf8_step (Value-F.Pairs ps) = list_all (λ p. is_utf8 p.0 && p.1) ps

-- the texts and keys in a value are UTF-8, as each `Word` is
abbrev pub has_utf8_texts : Value → Bool
has_utf8_texts = fold-Value Bool utf8_step

abbrev pub have_utf8_texts : Pairs → Bool
have_utf8_texts ps = list_all (λ p. is_utf8 p.0 && has_utf8_texts p.1) ps

-- ---- the pairs of a fair command

-- the attributes or the data of a command: a map in the command's map, which is nested at most 32 deep in all
abbrev pub AreFairPairs : Pairs → Type 0
AreFairPairs ps = IsTrue (are_sound_pairs ps) × IsTrue (have_utf8_texts ps) × (suc (pairs_depth ps) ≤ 32)
