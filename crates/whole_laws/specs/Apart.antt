-- Lists of pairs whose names differ.
use Rattle.std.specs.Prelude.{◌≡◌, List, [], ◌∷◌, None}
use Rattle.ha_config.specs.Words.{Text}
use Rattle.ha_whole.specs.Named.{named}

abbrev pub AreApart : {X : Type 0} → List (Text × X) → Type 0
AreApart [] = Unit {0}
AreApart (p ∷ ps) = (named p.0 ps ≡ None) × AreApart ps
