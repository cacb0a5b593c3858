-- The filters and functions, in the order of their numbers: their names, and the numbers of arguments that they have.
use Rattle.std.specs.Prelude.{ℕ, Bool, true, ◌||◌, ◌==◌, nat_lt, max, if◌then◌else◌, List, [], ◌∷◌, Option, Some, None, codes}
use Rattle.std.specs.List.{fold, find}
use Rattle.std.specs.Str.{bytes_eq}
use Rattle.tpl_parse.specs.declared.table.Counts.{Counts}
use Rattle.tpl_parse.specs.declared.table.Filter.{Filter}
use Rattle.tpl_parse.specs.declared.table.Function.{Function}
use Rattle.tpl_parse.specs.Token.{common}

abbrev pub between : ℕ → ℕ → Counts
between least most = record { least = least; most = Some most }

abbrev pub any_from : ℕ → Counts
any_from least = record { least = least; most = None }

-- a name, its number in the tree, and its numbers of arguments
pub record Row : Type 0 where
  pub name : List ℕ
  pub number : ℕ
  pub counts : Counts

abbrev row : List ℕ → ℕ → Counts → Row
row name number counts = record { name = name; number = number; counts = counts }

abbrev pub filter_row : Filter → Row
filter_row Filter.Int = row (codes "int") 1 (between 0 1)
filter_row Filter.Float = row (codes "float") 2 (between 0 1)
filter_row Filter.Round = row (codes "round") 3 (between 0 1)
filter_row Filter.Abs = row (codes "abs") 4 (between 0 0)
filter_row Filter.Lower = row (codes "lower") 5 (between 0 0)
filter_row Filter.Upper = row (codes "upper") 6 (between 0 0)
filter_row Filter.Trim = row (codes "trim") 7 (between 0 0)
filter_row Filter.Length = row (codes "length") 8 (between 0 0)
filter_row Filter.Default = row (codes "default") 9 (between 1 1)
filter_row Filter.First = row (codes "first") 10 (between 0 0)
filter_row Filter.Last = row (codes "last") 11 (between 0 0)
filter_row Filter.Replace = row (codes "replace") 12 (between 2 2)
filter_row Filter.String = row (codes "string") 13 (between 0 0)
filter_row Filter.IsNumber = row (codes "is_number") 14 (between 0 0)

abbrev pub all_filters : List Filter
all_filters =
    Filter.Int ∷ Filter.Float ∷ Filter.Round ∷ Filter.Abs ∷ Filter.Lower ∷ Filter.Upper ∷ Filter.Trim ∷
    Filter.Length ∷ Filter.Default ∷ Filter.First ∷ Filter.Last ∷ Filter.Replace ∷ Filter.String ∷ Filter.IsNumber ∷ []

abbrev pub function_row : Function → Row
function_row Function.States = row (codes "states") 1 (between 1 1)
function_row Function.StateAttr = row (codes "state_attr") 2 (between 2 2)
function_row Function.IsState = row (codes "is_state") 3 (between 2 2)
function_row Function.IsStateAttr = row (codes "is_state_attr") 4 (between 3 3)
function_row Function.HasValue = row (codes "has_value") 5 (between 1 1)
function_row Function.Int = row (codes "int") 6 (between 1 2)
function_row Function.Float = row (codes "float") 7 (between 1 2)
function_row Function.Min = row (codes "min") 8 (any_from 1)
function_row Function.Max = row (codes "max") 9 (any_from 1)
function_row Function.Iif = row (codes "iif") 10 (between 3 3)
function_row Function.IsNumber = row (codes "is_number") 11 (between 1 1)

abbrev pub all_functions : List Function
all_functions =
    Function.States ∷ Function.StateAttr ∷ Function.IsState ∷ Function.IsStateAttr ∷ Function.HasValue ∷ Function.Int ∷
    Function.Float ∷ Function.Min ∷ Function.Max ∷ Function.Iif ∷ Function.IsNumber ∷ []

abbrev pub filter_named : List ℕ → Option Filter
filter_named name = find (λ filter. bytes_eq (filter_row filter).name name) all_filters

abbrev pub function_named : List ℕ → Option Function
function_named name = find (λ function. bytes_eq (function_row function).name name) all_functions

-- Where no expression may be opened, a filter may stand that needs no argument; elsewhere each may.
abbrev pub may_stand : Bool → Filter → Bool
may_stand opens filter = (filter_row filter).counts.least == 0 || opens

abbrev pub farther : Bool → List ℕ → ℕ → Filter → ℕ
farther opens rest far filter = if may_stand opens filter then max far (common (filter_row filter).name rest) else far

-- how far the text goes on as the name of a filter that may stand there
abbrev pub filters_reach : Bool → List ℕ → ℕ
filters_reach opens rest = fold (farther opens rest) 0 all_filters

-- a further argument may stand behind so many
abbrev pub takes_behind : Option ℕ → ℕ → Bool
takes_behind None count = true
takes_behind (Some most) count = nat_lt count most
