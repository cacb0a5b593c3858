-- How a node begins.
use Rattle.std.specs.Prelude.{ℕ, Bool, false, ◌||◌, ◌&&◌, ◌==◌, if◌then◌else◌, List, [], ◌∷◌}
use Rattle.yaml_scan.specs.Words.{sees}
use Rattle.yaml_tree.specs.declared.starts.Start.{Start}
use Rattle.yaml_tree.specs.declared.starts.Start.TheVariants as starts

-- what the profile leaves out: anchors, aliases, tags, directives, complex keys
abbrev pub left_out : ℕ → List ℕ → Bool
left_out b rest = b == 38 || b == 42 || b == 33 || b == 37 || b == 64 || b == 96 || (b == 63 && sees 32 rest)

-- what no plain scalar begins with
abbrev pub no_plain : ℕ → List ℕ → Bool
no_plain b rest =
    b == 44 || b == 91 || b == 93 || b == 123 || b == 125 || b == 35 || b == 124
    || b == 62 || b == 39 || b == 34 || ((b == 45 || b == 58) && sees 32 rest)

-- how a node begins that is no dash
abbrev pub start : ℕ → List ℕ → Start
start b rest =
    if b == 34 || b == 39 then starts.InQuotes
    else (if b == 91 || b == 123 then starts.InBrackets else (if b == 124 || b == 62 then starts.InLines else
    (if left_out b rest then starts.LeftOut else (if no_plain b rest then starts.Refused else starts.Plain))))

-- the key `<<`, which merges maps
abbrev pub is_merge : List ℕ → Bool
is_merge [] = false
is_merge (b ∷ []) = false
is_merge (b ∷ c ∷ []) = b == 60 && c == 60
is_merge (b ∷ c ∷ d ∷ rest) = false
