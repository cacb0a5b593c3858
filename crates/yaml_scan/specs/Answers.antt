-- What a call answers, given the meaning of its answer.
use Rattle.std.specs.Prelude.{◌≡◌, ℕ, List, [], ◌∷◌, Option, Some, None, Result, Ok, Err}
use Rattle.yaml_scan.specs.declared.line.RawLine.{RawLine}
use Rattle.yaml_scan.specs.declared.fault.Code.{Code}
use Rattle.yaml_scan.specs.declared.fault.Fault.{Fault}
use Rattle.yaml_scan.specs.declared.fault.YamlFault.{YamlFault}
use Rattle.yaml_scan.specs.declared.fault.YamlFault.TheVariants.{Bad, Memory}

-- The answer is the one that was meant, or memory ran out.
abbrev pub Gives : {A : Type 0} → Result A Fault → Result A YamlFault → Type 0
Gives meant (Ok x) = meant ≡ Ok x
Gives meant (Err (Bad line code)) = meant ≡ Err (record { line = line; code = code })
Gives meant (Err Memory) = Unit {0}

-- what a scalar is, and the lines behind it
abbrev pub Reading : Type 0 → Type 0
Reading A = Result (A × List RawLine) Fault

abbrev pub stop : {A : Type 0} → ℕ → Code → Result A Fault
stop line code = Err (record { line = line; code = code })

-- What a method returned and left is what reading gives, unless memory ran out.
abbrev pub Reads : {A : Type 0} → Reading A → Result A YamlFault → List RawLine → Type 0
Reads meant (Ok x) new = meant ≡ Ok (x, new)
Reads meant (Err (Bad line code)) new = meant ≡ Err (record { line = line; code = code })
Reads meant (Err Memory) new = Unit {0}

abbrev pub front_line : List RawLine → Option RawLine
front_line [] = None
front_line (l ∷ ls) = Some l
