-- What an answer depends on.
use Rattle.std.specs.Prelude.{◌≡◌, List, ◌++◌, length, Ok, Err}
use Rattle.reading.specs.declared.fault.Bad.{Bad}
use Rattle.reading.specs.Answer.{Answer, Rule, front}

-- what was read depends on the token behind it, and on nothing after that
pub record ReadsAlike {T F A : Type 0} (rule : Rule T F A) (text : List T) (x : A) (rest : List T) : Type 0 where
  pub before : List T
  pub parts : text ≡ before ++ rest
  pub again : (other : List T) → front other ≡ front rest → rule (before ++ other) ≡ Ok (x, other)

-- A fault depends on what is before it and on what it is at, and on nothing after that. `Like` says when two texts begin
-- alike, as far as a fault of this code at their front depends on them.
pub record FailsAlike {T C A : Type 0} (Like : C → List T → List T → Type 0) (rule : Rule T (Bad C) A) (text : List T) (f : Bad C)
    : Type 0 where
  pub before : List T
  pub rest : List T
  pub parts : text ≡ before ++ rest
  pub left : f.left ≡ length rest
  pub again : (other : List T) → Like f.code rest other → rule (before ++ other) ≡ Err (record { left = length other; code = f.code })

abbrev pub IsAlike : {T C A : Type 0} → (C → List T → List T → Type 0) → Rule T (Bad C) A → List T → Answer T (Bad C) A → Type 0
IsAlike Like rule text (Ok x) = ReadsAlike rule text x.0 x.1
IsAlike Like rule text (Err f) = FailsAlike Like rule text f
