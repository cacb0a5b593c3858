-- What a call does to contents that may be told: `None` claims nothing.
use Rattle.std.specs.Prelude.{◌≡◌, ℕ, Bool, true, false, List, [], ◌∷◌, ◌++◌, Option, IsSomeAnd, IfSome, Some, Result, Err}
use Rattle.std.specs.Option.{option_map}
use Rattle.ha_io.specs.declared.fault.IoFault.{IoFault}
use Rattle.ha_io.specs.declared.place.Opening.{Opening}

-- what was left is these bytes, and then what is left now
abbrev pub Gives : Option (List ℕ) → List ℕ → Option (List ℕ) → Type 0
Gives before bytes after = before ≡ option_map (λ rest. bytes ++ rest) after

-- what is written now is what was, and then these bytes
abbrev pub Takes : Option (List ℕ) → List ℕ → Option (List ℕ) → Type 0
Takes before bytes after = after ≡ option_map (λ all. all ++ bytes) before

-- this value, if one is told
abbrev pub told_as : {A : Type 0} → Option A → A → Option A
told_as told value = option_map (λ _. value) told

-- where a place tells what it holds, there is a file of this name, and a source has its bytes left
abbrev pub HasFile : Option (List ℕ → Option (List ℕ)) → List ℕ → Option (List ℕ) → Type 0
HasFile holds name left = IfSome holds (λ bytes_of. IsSomeAnd (bytes_of name) (λ bytes. left ≡ Some bytes))

-- ---- what a place was asked for

-- a name, and what it is opened for
abbrev pub Call : Type 0
Call = List ℕ × Opening

-- these calls more, where they are told
abbrev pub and_asked : Option (List Call) → List Call → Option (List Call)
and_asked told calls = option_map (λ all. all ++ calls) told

-- the place was asked for this once, and not at all where memory did not suffice
abbrev pub IsAsked : {S : Type 0} → Result S IoFault → Option (List Call) → Call → Option (List Call) → Type 0
IsAsked (Err IoFault.Memory) before call after = after ≡ before
IsAsked _ before call after = after ≡ and_asked before (call ∷ [])

-- it was asked for the first ones of these, in order, and for nothing else
pub record IsAskedSome (before : Option (List Call)) (calls : List Call) (after : Option (List Call)) : Type 0 where
  pub made : List Call
  pub later : List Call
  pub calls_are : calls ≡ made ++ later
  pub asked : after ≡ and_asked before made

-- for all of these where it went well, else for the first ones
abbrev pub AreAsked : Bool → Option (List Call) → List Call → Option (List Call) → Type 0
AreAsked true before calls after = after ≡ and_asked before calls
AreAsked false before calls after = IsAskedSome before calls after
