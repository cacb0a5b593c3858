-- The filters of templates: the number that stands for each in an expression.
use Rattle.std.specs.Prelude.{ℕ}

abbrev pub int : ℕ
int = 1

abbrev pub float : ℕ
float = 2

abbrev pub round : ℕ
round = 3

abbrev pub abs : ℕ
abs = 4

abbrev pub lower : ℕ
lower = 5

abbrev pub upper : ℕ
upper = 6

abbrev pub trim : ℕ
trim = 7

abbrev pub length : ℕ
length = 8

abbrev pub default : ℕ
default = 9

abbrev pub first : ℕ
first = 10

abbrev pub last : ℕ
last = 11

abbrev pub replace : ℕ
replace = 12

abbrev pub string : ℕ
string = 13

abbrev pub is_number : ℕ
is_number = 14
