-- A value that is lent or made, and what a call that gives one answers.
use Rattle.std.specs.Prelude.{◌≡◌, List, [], ◌∷◌, ◌++◌, Option, Some, None, option_map, Result, Ok, Err}
use Rattle.ha_value.specs.declared.value.Value.{Value}
use Rattle.ha_sight.specs.declared.faults.TplFault.{TplFault}
use Rattle.ha_sight.specs.declared.part.Part.{Part}
use Rattle.ha_sight.specs.Parts.{part_value}
use Rattle.tpl_eval.specs.declared.held.Held.{Held}

-- the value, wherever it is kept
abbrev pub held_value : Held → Value
held_value (Held.Lent lent) = lent.now
held_value (Held.Made value) = value

-- the answer holds the value that is given, or is a fault where none is; where memory ran out, it says nothing
abbrev pub Yields : Result Held TplFault → Option Value → Type 0
Yields (Ok held) given = given ≡ Some (held_value held)
Yields (Err TplFault.Fault) given = given ≡ None
Yields (Err TplFault.Memory) given = Unit {0}

-- the same of an answer that is a part
abbrev pub Leads : Result Part TplFault → Option Value → Type 0
Leads (Ok part) given = given ≡ Some (part_value part)
Leads (Err TplFault.Fault) given = given ≡ None
Leads (Err TplFault.Memory) given = Unit {0}

-- a list grows by the value that is given, or a fault is answered where none is
abbrev pub Puts : {Y : Type 0} → List Value → List Value → Option Value → Result Y TplFault → Type 0
Puts old new given (Ok x) = option_map (λ v. old ++ (v ∷ [])) given ≡ Some new
Puts old new given (Err TplFault.Fault) = given ≡ None
Puts old new given (Err TplFault.Memory) = Unit {0}
