-- What a part of a configuration is read as: its value, or the least of all its faults. A part is at fault where one of its
-- parts is; so the order in which the parts are read tells nothing.
use Rattle.std.specs.Prelude.{ℕ, ◌||◌, ◌&&◌, ◌==◌, nat_lt, if◌then◌else◌, List, [], ◌∷◌, ◌++◌, Option, Some, None, Result, Ok, Err}
use Rattle.yaml_scan.specs.declared.fault.Fault.{Fault}
use Rattle.yaml_scan.specs.declared.fault.Code.{Code}
use Rattle.yaml_scan.specs.Codes.{number_of}
use Rattle.yaml_scan.specs.declared.fault.YamlFault.{YamlFault}
use Rattle.yaml_scan.specs.declared.fault.YamlFault.TheVariants as yaml

abbrev pub Read : Type 0 → Type 0
Read A = Result A Fault

abbrev pub fault : ℕ → Code → Fault
fault line code = record { line = line; code = code }

abbrev pub bad : {A : Type 0} → ℕ → Code → Read A
bad line code = Err (fault line code)

-- the fault on the lesser line, and of one line the one with the lesser code
abbrev pub lesser : Fault → Fault → Fault
lesser f g = if nat_lt g.line f.line || (g.line == f.line && nat_lt (number_of g.code) (number_of f.code)) then g else f

-- two parts
abbrev pub both : {A B : Type 0} → Read A → Read B → Read (A × B)
both (Ok a) (Ok b) = Ok (a, b)
both (Ok a) (Err g) = Err g
both (Err f) (Ok b) = Err f
both (Err f) (Err g) = Err (lesser f g)

abbrev pub made : {A B : Type 0} → (A → B) → Read A → Read B
made f (Ok a) = Ok (f a)
made f (Err e) = Err e

-- a value that is there, or this fault
abbrev pub or_bad : {A : Type 0} → ℕ → Code → Option A → Read A
or_bad line code (Some a) = Ok a
or_bad line code None = bad line code

-- nothing but a fault, where there is one
abbrev pub unless : Option Fault → Read (Unit {0})
unless None = Ok tt
unless (Some f) = Err f

-- an item more behind those before it
abbrev pub behind : {A : Type 0} → Read (List A) → Read A → Read (List A)
behind before item = made (λ p. p.0 ++ p.1 ∷ []) (both before item)

-- each item, behind those before
unfoldable pub each_behind : {X A : Type 0} → (X → Read A) → Read (List A) → List X → Read (List A)
each_behind read before [] = before
each_behind read before (x ∷ xs) = each_behind read (behind before (read x)) xs

abbrev pub each : {X A : Type 0} → (X → Read A) → List X → Read (List A)
each read xs = each_behind read (Ok []) xs

-- a list, and one more behind it where there is one
abbrev pub and_maybe : {A : Type 0} → List A → Option A → List A
and_maybe xs None = xs
and_maybe xs (Some x) = xs ++ x ∷ []

abbrev pub keep : {A : Type 0} → Read (List A) → Read (Option A) → Read (List A)
keep before item = made (λ p. and_maybe p.0 p.1) (both before item)

-- those of the items that are there, behind those before
unfoldable pub kept_behind : {X A : Type 0} → (X → Read (Option A)) → Read (List A) → List X → Read (List A)
kept_behind read before [] = before
kept_behind read before (x ∷ xs) = kept_behind read (keep before (read x)) xs

abbrev pub kept : {X A : Type 0} → (X → Read (Option A)) → List X → Read (List A)
kept read xs = kept_behind read (Ok []) xs

-- one alone, where it is there
abbrev pub alone : {A : Type 0} → Read (Option A) → Read (List A)
alone item = made (and_maybe []) item

-- what two parts that are at fault answer together
abbrev pub worse : YamlFault → YamlFault → YamlFault
worse yaml.Memory g = yaml.Memory
worse (yaml.Bad line code) yaml.Memory = yaml.Memory
worse (yaml.Bad line code) (yaml.Bad line' code') =
    yaml.Bad (lesser (fault line code) (fault line' code')).line (lesser (fault line code) (fault line' code')).code
