use Rattle.std.proofs.Common.{◌≡◌, drop}
use Rattle.std.specs.Prelude.{nat_eq}
use Rattle.std.specs.List.{list_any}
use Rattle.segment_view.proofs.force.first_place.Given as goal

abbrev pub invariant-numbers : goal.invariant-numbers
invariant-numbers l = list_any (λ m. nat_eq m l.number) (drop l.at l.numbers) ≡ list_any (λ m. nat_eq m l.number) l.numbers
