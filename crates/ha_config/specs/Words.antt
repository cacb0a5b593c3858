-- Words on lists and texts that the definitions share.
use Rattle.std.specs.Prelude.{ℕ, zero, suc, ◌-◌, Bool, true, false, not, ◌&&◌, nat_eq, nat_lt, nat_le, List, [], ◌∷◌, ◌++◌, length, count_by, Option, Some, None, if◌then◌else◌, ◌+◌, ◌||◌, map, bytes_eq}
use Rattle.std.specs.List.{list_any, list_all, slice_split, starts_with}
use Rattle.std.specs.Char.{to_ascii_lowercase, to_ascii_uppercase}
use Rattle.ha_value.specs.Lists.{trimmed}
use Rattle.ha_value.specs.Truth.{is_blank, is_blank_or_break}
use Rattle.ha_value.specs.declared.value.EntityId.{EntityId}
use Rattle.ha_value.specs.declared.value.Value.{Value}

-- the first of the two that there is
abbrev pub or_else : {X : Type 0} → Option X → Option X → Option X
or_else (Some x) other = Some x
or_else None other = other

-- a text by its bytes; an environment, the attributes of a state and the data of an event are pairs
abbrev pub Text : Type 0
Text = List ℕ

abbrev pub Pairs : Type 0
Pairs = List (Text × Value)

-- two texts, and two entity ids, are the same
abbrev pub same : Text → Text → Bool
same = bytes_eq

abbrev pub same_entity : EntityId → EntityId → Bool
same_entity a b = same a.domain b.domain && same a.object b.object

-- the longest part at the end of which each member passes
abbrev pub longest_end : {X : Type 0} → (X → Bool) → List X → List X
longest_end test [] = []
longest_end test (x ∷ xs) = if list_all test (x ∷ xs) then x ∷ xs else longest_end test xs

abbrev pub last_of : {X : Type 0} → List X → Option X
last_of [] = None
last_of (x ∷ []) = Some x
last_of (x ∷ y ∷ xs) = last_of (y ∷ xs)

abbrev pub first_of_list : {X : Type 0} → List X → Option X
first_of_list [] = None
first_of_list (x ∷ xs) = Some x

-- n numbers from low on; the numbers below n in order
abbrev pub numbers_from : ℕ → ℕ → List ℕ
numbers_from low zero = []
numbers_from low (suc n) = low ∷ numbers_from (low + 1) n

abbrev pub up_to : ℕ → List ℕ
up_to n = numbers_from 0 n

-- the greatest number below n that passes
abbrev pub last_below : (ℕ → Bool) → ℕ → Option ℕ
last_below test zero = None
last_below test (suc n) = if test n then Some n else last_below test n

-- the value of a key: that of the first pair, and of the last
abbrev pub first_pair : Text → Pairs → Option Value
first_pair key [] = None
first_pair key (p ∷ ps) = if same p.0 key then Some p.1 else first_pair key ps

abbrev pub last_pair : Text → Pairs → Option Value
last_pair key [] = None
last_pair key (p ∷ ps) = else_this (last_pair key ps)
  where
    else_this : Option Value → Option Value
    else_this (Some v) = Some v
    else_this None = if same p.0 key then Some p.1 else None

-- there is a pair of this name
abbrev pub has_name : Text → Pairs → Bool
has_name name ps = list_any (λ q. same q.0 name) ps

-- ---- texts

-- ASCII letters in lower and in upper case; two texts are the same without case
abbrev pub lower : Text → Text
lower = map to_ascii_lowercase

abbrev pub upper : Text → Text
upper = map to_ascii_uppercase

abbrev pub same_without_case : Text → Text → Bool
same_without_case a b = same (lower a) (lower b)

-- a text without the blanks, and without the blanks and breaks, at its two ends
abbrev pub without_blanks : Text → Text
without_blanks = trimmed is_blank

abbrev pub without_breaks : Text → Text
without_breaks = trimmed is_blank_or_break

-- a byte of UTF-8 that goes on with a character; a text has as many characters as it has other bytes
abbrev pub goes_on : ℕ → Bool
goes_on c = nat_le 128 c && nat_lt c 192

abbrev pub characters : Text → ℕ
characters = count_by (λ c. not (goes_on c))

abbrev pub is_empty_text : Text → Bool
is_empty_text [] = true
is_empty_text (c ∷ cs) = false

-- the parts between commas, without the blanks round them
abbrev pub parts_between_commas : Text → List Text
parts_between_commas t = map without_blanks (slice_split (nat_eq 44) t)

abbrev pub begins_with : Text → Text → Bool
begins_with front t = starts_with nat_eq t front

-- the first text stands somewhere in the second
abbrev pub is_part_of : Text → Text → Bool
is_part_of part [] = is_empty_text part
is_part_of part (c ∷ cs) = begins_with part (c ∷ cs) || is_part_of part cs

-- each occurrence of `old`, from the left and not overlapping, gives way to `new`; so many bytes still belong to the last one
abbrev pub replaced_behind : Text → Text → ℕ → Text → Text
replaced_behind old new left [] = []
replaced_behind old new (suc left) (c ∷ cs) = replaced_behind old new left cs
replaced_behind old new zero (c ∷ cs) =
    if begins_with old (c ∷ cs) then new ++ replaced_behind old new (length old - 1) cs else c ∷ replaced_behind old new 0 cs

abbrev pub replaced_all : Text → Text → Text → Text
replaced_all old new = replaced_behind old new 0

-- a list of numbers stands before another: at the first place where they differ it has the lesser one, or it ends there
abbrev pub comes_before : List ℕ → List ℕ → Bool
comes_before [] [] = false
comes_before [] (y ∷ ys) = true
comes_before (x ∷ xs) [] = false
comes_before (x ∷ xs) (y ∷ ys) = if nat_lt x y then true else (if nat_eq x y then comes_before xs ys else false)

abbrev pub one_of : Text → List Text → Bool
one_of t = list_any (same t)

-- ---- facts on the members of a list

-- the fact holds of each member with its place, counted from n on
abbrev pub EachFrom : {X : Type 0} → (ℕ → X → Type 0) → ℕ → List X → Type 0
EachFrom P n [] = Unit {0}
EachFrom P n (x ∷ xs) = P n x × EachFrom P (suc n) xs

-- the fact holds of each member, with those before it
abbrev pub EachAfter : {X : Type 0} → (List X → X → Type 0) → List X → List X → Type 0
EachAfter P before [] = Unit {0}
EachAfter P before (x ∷ xs) = P before x × EachAfter P (before ++ (x ∷ [])) xs

-- the fact holds at each place, of the members before it and of those from there on
abbrev pub EachWith : {X : Type 0} → (List X → List X → Type 0) → List X → List X → Type 0
EachWith P before [] = Unit {0}
EachWith P before (x ∷ xs) = P before (x ∷ xs) × EachWith P (before ++ (x ∷ [])) xs
