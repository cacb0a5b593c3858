-- What a reader answers: a value and the tokens behind it, or the first fault. T is the type of tokens, F that of faults.
use Rattle.std.specs.Prelude.{◌≡◌, List, [], ◌∷◌, length, Option, Some, None, Result, Ok, Err}
use Rattle.reading.specs.declared.fault.Bad.{Bad}
use Rattle.reading.specs.declared.fault.Stop.{Stop}
use Rattle.reading.specs.declared.fault.Stop.TheVariants as stops

abbrev pub Answer : Type 0 → Type 0 → Type 0 → Type 0
Answer T F A = Result (A × List T) F

abbrev pub Rule : Type 0 → Type 0 → Type 0 → Type 0
Rule T F A = List T → Answer T F A

-- one rule, and then another behind it
infixl 10 ◌>>=◌
abbrev pub ◌>>=◌ : {T F A B : Type 0} → Answer T F A → (A × List T → Answer T F B) → Answer T F B
(Ok x) >>= f = f x
(Err e) >>= f = Err e

-- the value changed by a function
abbrev pub made : {T F A B : Type 0} → (A → B) → Answer T F A → Answer T F B
made f answer = answer >>= λ x. Ok (f x.0, x.1)

-- a fault at the front of these tokens
abbrev pub stop : {T C A : Type 0} → C → List T → Answer T (Bad C) A
stop code rest = Err (record { left = length rest; code = code })

-- What a method returned and left is what reading gives, unless memory ran out.
abbrev pub Gives : {T F A : Type 0} → Answer T F A → Result A (Stop F) → List T → Type 0
Gives answer (Ok x) new = answer ≡ Ok (x, new)
Gives answer (Err stops.Memory) new = Unit {0}
Gives answer (Err (stops.Fault f)) new = answer ≡ Err f

-- the next token
abbrev pub front : {T : Type 0} → List T → Option T
front [] = None
front (t ∷ rest) = Some t
