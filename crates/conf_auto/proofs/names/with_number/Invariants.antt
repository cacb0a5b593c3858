use Rattle.std.proofs.Common.{◌≡◌, ◌+◌, ◌-◌, length}
use Rattle.std.specs.Prelude.{not}
use Rattle.std.specs.List.{find, range_with_len}
use Rattle.conf_auto.specs.Names as names
use Rattle.conf_auto.proofs.names.with_number.Given as goal

-- none of the numbers so far is free
abbrev pub invariant-numbers : goal.invariant-numbers
invariant-numbers l =
    names.free_number l.all l.name
    ≡ find (λ n. not (names.is_taken l.all (names.numbered l.name n))) (range_with_len (l.k + 2) (length l.all + 1 - l.k))
