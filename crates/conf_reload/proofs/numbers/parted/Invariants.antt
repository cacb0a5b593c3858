use Rattle.std.proofs.Common.{◌≡◌, ◌++◌, drop}
use Rattle.std.specs.Prelude.{nat_eq, filter}
use Rattle.std.specs.List.{list_any}
use Rattle.ha_config.specs.Equal.{same_flag}
use Rattle.conf_reload.proofs.numbers.parted.Given as goal

abbrev pub invariant-loop-i : goal.invariant-loop-i
invariant-loop-i l =
    l.part ++ filter (λ n. same_flag l.among (list_any (λ m. nat_eq m n) l.given)) (drop l.i l.numbers)
    ≡ filter (λ n. same_flag l.among (list_any (λ m. nat_eq m n) l.given)) l.numbers
