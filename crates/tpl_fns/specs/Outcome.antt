-- What a call answers where the definitions give a value, or none.
use Rattle.std.specs.Prelude.{◌≡◌, ◌<◌, ◌≤◌, ℕ, nat_le, pos, negsuc, ◌++◌, length, Option, Some, None, Result, Ok, Err, if◌then◌else◌}
use Rattle.ha_value.specs.declared.value.Num.{Num}
use Rattle.ha_value.specs.declared.value.Value.{Value}
use Rattle.ha_sight.specs.declared.faults.TplFault.{TplFault}
use Rattle.ha_config.specs.Words.{Text}

-- the answer is what is given, or a fault where nothing is; where memory ran out, it says nothing
abbrev pub Gives : {X : Type 0} → Result X TplFault → Option X → Type 0
Gives (Ok x) given = given ≡ Some x
Gives (Err TplFault.Fault) given = given ≡ None
Gives (Err TplFault.Memory) given = Unit {0}

-- a number where there is one, else another value
abbrev pub or_other : Option Num → Option Value → Option Value
or_other (Some n) other = Some (Value.Number n)
or_other None other = other

-- a whole number from 0 to 6
abbrev pub small : Num → Option ℕ
small (Num.Whole (pos n)) = if nat_le n 6 then Some n else None
small (Num.Whole (negsuc n)) = None
small (Num.Fixed z) = None

-- a text of at most 65,536 bytes grows by a piece; the fault is that it would be longer
abbrev pub Adds : {X : Type 0} → Text → Text → Text → Result X TplFault → Type 0
Adds old new piece (Ok x) = (new ≡ old ++ piece) × (length new ≤ 65_536)
Adds old new piece (Err TplFault.Fault) = 65_536 < length (old ++ piece)
Adds old new piece (Err TplFault.Memory) = Unit {0}
