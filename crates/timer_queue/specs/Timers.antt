-- Timers, ordered by due, then key. A timer is a due, in milliseconds from 1970 on, and a key.
use Rattle.std.specs.Prelude.{ℕ, ◌≤◌, ◌&&◌, ◌||◌, nat_eq, nat_le, nat_lt, not, Bool, true, List, []}
use Rattle.std.specs.Prelude.{◌∷◌, Option, Some, None, is_some, MatchOption, if◌then◌else◌}

abbrev pub Timer : Type 0
Timer = ℕ × ℕ

-- the earlier due is before, and of equal dues the lower key
abbrev pub is_before : Timer → Timer → Bool
is_before a b = nat_lt a.0 b.0 || (nat_eq a.0 b.0 && nat_lt a.1 b.1)

-- the timers with one more at its place
abbrev pub inserted : Timer → List Timer → List Timer
inserted t [] = t ∷ []
inserted t (x ∷ xs) = if is_before t x then t ∷ x ∷ xs else x ∷ inserted t xs

-- the due of a key, if there is a timer of it
abbrev pub due_of : ℕ → List Timer → Option ℕ
due_of key [] = None
due_of key (x ∷ xs) = if nat_eq x.1 key then Some x.0 else due_of key xs

-- the timers without a key
abbrev pub removed : ℕ → List Timer → List Timer
removed key [] = []
removed key (x ∷ xs) = if nat_eq x.1 key then removed key xs else x ∷ removed key xs

-- the key of the first timer, if it is due at or before a moment
abbrev pub first_due : ℕ → List Timer → Option ℕ
first_due now [] = None
first_due now (x ∷ xs) = if nat_le x.0 now then Some x.1 else None

-- the keys of the timers that are due at or before a moment
abbrev pub keys_due : ℕ → List Timer → List ℕ
keys_due now [] = []
keys_due now (x ∷ xs) = if nat_le x.0 now then x.1 ∷ keys_due now xs else []

-- the timers without that one
abbrev pub after_due : ℕ → List Timer → List Timer
after_due now [] = []
after_due now (x ∷ xs) = if nat_le x.0 now then xs else x ∷ xs

-- each key has one timer
abbrev pub distinct_keys : List Timer → Bool
distinct_keys [] = true
distinct_keys (x ∷ xs) = not (is_some (due_of x.1 xs)) && distinct_keys xs

-- the due of the first timer
abbrev pub earliest : List Timer → Option ℕ
earliest [] = None
earliest (x ∷ xs) = Some x.0

-- no timer is due before this one, and there is none where it is none
abbrev pub IsLeast : Option ℕ → List Timer → Type 0
IsLeast first ts = (key : ℕ) → MatchOption (due_of key ts) (Unit {0}) (λ due. MatchOption first ⊥ (λ least. least ≤ due))
