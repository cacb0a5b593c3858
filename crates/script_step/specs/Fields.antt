-- The fields of an action, valued: what a call that values one has to give.
use Rattle.std.specs.Prelude.{◌≡◌, ℕ, List, [], ◌∷◌, ◌++◌, Option, Some, None, option_map, Result, Ok, Err}
use Rattle.ha_sight.specs.declared.faults.TplFault.{TplFault}
use Rattle.ha_sight.specs.Calls.{Checked, checked_map}
use Rattle.script_step.specs.declared.fault.FieldFault.{FieldFault}

-- the value, or a fault exactly where there is none; want of memory is free
abbrev pub Gives : {X : Type 0} → Result X TplFault → Option X → Type 0
Gives (Ok x) o = o ≡ Some x
Gives (Err TplFault.Fault) o = o ≡ None
Gives (Err TplFault.Memory) o = Unit {0}

-- a list grows by the value, or a fault exactly where there is none; want of memory is free
abbrev pub Puts : {X Y : Type 0} → List X → List X → Option X → Result Y TplFault → Type 0
Puts old new o (Ok y) = option_map (λ x. old ++ (x ∷ [])) o ≡ Some new
Puts old new o (Err TplFault.Fault) = o ≡ None
Puts old new o (Err TplFault.Memory) = Unit {0}

-- the value, or the fault whose code the definition has; want of memory is free
abbrev pub IsCause : {X : Type 0} → FieldFault → Checked X → Type 0
IsCause FieldFault.Memory c = Unit {0}
IsCause FieldFault.Template c = c ≡ Err 1
IsCause FieldFault.Service c = c ≡ Err 2
IsCause FieldFault.Target c = c ≡ Err 3
IsCause FieldFault.Duration c = c ≡ Err 4
IsCause FieldFault.Count c = c ≡ Err 5
IsCause (FieldFault.Own n) c = c ≡ Err n

abbrev pub Checks : {X : Type 0} → Result X FieldFault → Checked X → Type 0
Checks (Ok x) c = c ≡ Ok x
Checks (Err fault) c = IsCause fault c

-- a list grows by those of a list, or the fault whose code the definition has; want of memory is free
abbrev pub Joins : {X Y : Type 0} → List X → List X → Checked (List X) → Result Y FieldFault → Type 0
Joins old new c (Ok y) = checked_map (λ xs. old ++ xs) c ≡ Ok new
Joins old new c (Err fault) = IsCause fault c

-- the number of a fault
abbrev pub HasCode : FieldFault → ℕ → Type 0
HasCode FieldFault.Memory n = ⊥
HasCode FieldFault.Template n = n ≡ 1
HasCode FieldFault.Service n = n ≡ 2
HasCode FieldFault.Target n = n ≡ 3
HasCode FieldFault.Duration n = n ≡ 4
HasCode FieldFault.Count n = n ≡ 5
HasCode (FieldFault.Own m) n = n ≡ m
