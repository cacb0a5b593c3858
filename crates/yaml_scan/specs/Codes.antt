-- The codes of the faults.
use Rattle.std.specs.Prelude.{ℕ, List, ◌∷◌, decimal}
use Rattle.yaml_scan.specs.declared.fault.Code.{Code}
use Rattle.yaml_scan.specs.declared.fault.Code.TheVariants.{Tab, Structure, LeftOut, RepeatedKey, UnknownKey, MissingKey, Kind}
use Rattle.yaml_scan.specs.declared.fault.Code.TheVariants.{EntityId, Time, Number, Template, Limit, NotUtf8, UnknownKind}

-- the number behind the letter C
abbrev pub number_of : Code → ℕ
number_of Tab = 1
number_of Structure = 2
number_of LeftOut = 3
number_of RepeatedKey = 4
number_of UnknownKey = 5
number_of MissingKey = 6
number_of Kind = 7
number_of EntityId = 8
number_of Time = 9
number_of Number = 10
number_of Template = 11
number_of Limit = 12
number_of NotUtf8 = 13
number_of UnknownKind = 14

-- the letter C and the number
abbrev pub printed : Code → List ℕ
printed code = 67 ∷ decimal (number_of code)
