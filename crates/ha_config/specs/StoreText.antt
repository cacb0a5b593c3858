-- The text of the store, version 2: `{"last":{name:moment, ..},"switches":{name:flag, ..},"version":2}`.
use Rattle.std.specs.Prelude.{ℕ, Bool, List, [], ◌∷◌, map, Option, Some, None, codes, if◌then◌else◌}
use Rattle.ha_clock.specs.Print.{moment_text}
use Rattle.ha_config.specs.Words.{Text, comes_before}
use Rattle.ha_config.specs.ValueText.{map_text, flag_text, quoted}

-- a pair among others, in the byte order of the names
abbrev pub placed_by_name : {X : Type 0} → Text × X → List (Text × X) → List (Text × X)
placed_by_name p [] = p ∷ []
placed_by_name p (q ∷ qs) = if comes_before p.0 q.0 then p ∷ q ∷ qs else q ∷ placed_by_name p qs

abbrev pub in_name_order : {X : Type 0} → List (Text × X) → List (Text × X)
in_name_order [] = []
in_name_order (p ∷ ps) = placed_by_name p (in_name_order ps)

abbrev pub switches_text : List (Text × Bool) → Text
switches_text ps = map_text (map (λ p. (p.0, flag_text p.1)) ps)

-- moments under names
abbrev pub moments_text : List (Text × ℕ) → Text
moments_text ps = map_text (map (λ p. (p.0, quoted (moment_text p.1))) ps)

-- the store text of switches, one pair for each automation, in the byte order of their names, and of the moments at which automations last
-- triggered, for those that have one
abbrev pub store_of : List (Text × Bool) → List (Text × ℕ) → Text
store_of ps last = map_text ((codes "last", moments_text last) ∷ (codes "switches", switches_text (in_name_order ps)) ∷ (codes "version", codes "2") ∷ [])

-- the stored switches of a boot, as they are printed in a trace
abbrev pub stored_text : Option (List (Text × Bool)) → Text
stored_text None = codes "null"
stored_text (Some ps) = switches_text ps
