-- Methods that change a value in place.
use Rattle.std.specs.Prelude.{◌≡◌, List, Result, Ok, Err}
use Rattle.reading.specs.declared.fault.Stop.{Stop}
use Rattle.reading.specs.declared.fault.Stop.TheVariants as stops
use Rattle.reading.specs.Answer.{Answer}

-- What a method left in a value, and in the text, is what reading gives, unless memory ran out.
abbrev pub Leaves : {T F A : Type 0} → Answer T F A → Result (Unit {0}) (Stop F) → A → List T → Type 0
Leaves answer (Ok done) left new = answer ≡ Ok (left, new)
Leaves answer (Err stops.Memory) left new = Unit {0}
Leaves answer (Err (stops.Fault f)) left new = answer ≡ Err f
