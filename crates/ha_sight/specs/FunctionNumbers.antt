-- The functions of templates: the number that stands for each in an expression.
use Rattle.std.specs.Prelude.{ℕ}

abbrev pub states : ℕ
states = 1

abbrev pub state_attr : ℕ
state_attr = 2

abbrev pub is_state : ℕ
is_state = 3

abbrev pub is_state_attr : ℕ
is_state_attr = 4

abbrev pub has_value : ℕ
has_value = 5

abbrev pub int : ℕ
int = 6

abbrev pub float : ℕ
float = 7

abbrev pub min : ℕ
min = 8

abbrev pub max : ℕ
max = 9

abbrev pub iif : ℕ
iif = 10

abbrev pub is_number : ℕ
is_number = 11
