-- The fields of a map by its table of keys.
use Rattle.std.specs.Prelude.{ℕ, Bool, false, ◌||◌, if◌then◌else◌, List, [], ◌∷◌, ◌++◌}
use Rattle.std.specs.Prelude.{Option, Some, None, Ok, bytes_eq, is_some}
use Rattle.std.specs.Option.{option_or}
use Rattle.std.specs.List.{list_any, find}
use Rattle.std.specs.Option.{option_map_or}
use Rattle.yaml_scan.specs.declared.fault.Fault.{Fault}
use Rattle.yaml_scan.specs.declared.fault.Code.{Code}
use Rattle.yaml_scan.specs.declared.fault.Code.TheVariants.{RepeatedKey, UnknownKey, MissingKey}
use Rattle.yaml_scan.specs.Lines.{least}
use Rattle.yaml_tree.specs.declared.node.Node.{Node}
use Rattle.yaml_tree.specs.Readers.{line_of, is_null}
use Rattle.conf_field.specs.declared.key.Key.{Key}
use Rattle.conf_field.specs.declared.table.Row.{Row}
use Rattle.conf_field.specs.Keys.{text_of}
use Rattle.conf_field.specs.Readings.{Read, fault, bad, made, unless}

-- a key, the line that it stands on, and its value
abbrev pub Pair : Type 0
Pair = List ℕ × ℕ × Node

-- a row of a table is a key, perhaps with a second word for it
abbrev pub row : Key → Row
row key = record { key = key; also = None }

abbrev pub either : Key → Key → Row
either key other = record { key = key; also = Some other }

abbrev pub names : Row → List ℕ → Bool
names r key = bytes_eq (text_of r.key) key || option_map_or (λ k. bytes_eq (text_of k) key) r.also false

-- the first key of the row, if there is one
abbrev pub field : Row → List Pair → Option Pair
field r pairs = find (λ p. names r p.0) pairs

-- A key that no row has is unknown; a second key of one row is repeated, whichever word it is.
abbrev pub by_row : Option Row → List Pair → ℕ → Option Fault
by_row None before line = Some (fault line UnknownKey)
by_row (Some r) before line = if list_any (λ p. names r p.0) before then Some (fault line RepeatedKey) else None

abbrev pub key_fault : List Row → List Pair → Pair → Option Fault
key_fault rows before p = by_row (find (λ r. names r p.0) rows) before p.1

unfoldable pub keys_fault : List Row → Option Fault → List Pair → List Pair → Option Fault
keys_fault rows found before [] = found
keys_fault rows found before (p ∷ ps) = keys_fault rows (least found (key_fault rows before p)) (before ++ p ∷ []) ps

-- The keys are those of the table, each at most once.
abbrev pub keys : List Row → List Pair → Read (Unit {0})
keys rows pairs = unless (keys_fault rows None [] pairs)

-- of the kinds that keys name, the one that the first such key names
unfoldable pub first_named : {K : Type 0} → (K → Row) → List K → List Pair → Option K
first_named row_of kinds [] = None
first_named row_of kinds (p ∷ ps) = option_or (find (λ k. names (row_of k) p.0) kinds) (first_named row_of kinds ps)

-- where a fault of a value stands: at its own line, but of null at its key's
abbrev pub place : Pair → ℕ
place p = if is_null p.2 then p.1 else line_of p.2

-- a value of a kind, which says what a node is read as whose faults stand at this line
abbrev pub Meaning : Type 0 → Type 0
Meaning A = ℕ → Node → Read A

abbrev pub value : {A : Type 0} → Meaning A → Pair → Read A
value read p = read (place p) p.2

-- a field that has to be there; where it is not, the fault stands at the map's line
abbrev pub wanted : {A : Type 0} → Code → Meaning A → ℕ → Option Pair → Read A
wanted c read line None = bad line c
wanted c read line (Some p) = value read p

abbrev pub needed : {A : Type 0} → Meaning A → ℕ → Option Pair → Read A
needed = wanted MissingKey

-- a field that may be there
abbrev pub optional : {A : Type 0} → Meaning A → Option Pair → Read (Option A)
optional read None = Ok None
optional read (Some p) = made Some (value read p)

-- a field of one word, that has to be there or that may be
abbrev pub need : {A : Type 0} → Key → ℕ → List Pair → Meaning A → Read A
need key line pairs read = needed read line (field (row key) pairs)

abbrev pub get : {A : Type 0} → Key → List Pair → Meaning A → Read (Option A)
get key pairs read = optional read (field (row key) pairs)

-- at least one of these keys is there
abbrev pub one_of : ℕ → List Row → List Pair → Option Fault
one_of line rs pairs = if list_any (λ r. is_some (field r pairs)) rs then None else Some (fault line MissingKey)
