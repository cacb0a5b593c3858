use Rattle.std.proofs.Common.{◌≡◌, List, ◌++◌, Some, true}
use Rattle.std.specs.Prelude.{nat_le}
use Rattle.std.specs.List.{list_all}
use Rattle.serde_json.specs.View.{members_view}
use Rattle.serde_json.proofs.Views.{Entry}
use Rattle.ha_clock.specs.Local.{last_moment}
use Rattle.store_text.specs.Store.{moments_of}
use Rattle.store_text.proofs.read.moments.Given as goal

abbrev pub invariant-loop-name : goal.invariant-loop-name
invariant-loop-name l =
    (done : List Entry) × (l.members.entries ≡ done ++ l.name-iterator) × (moments_of (members_view done) ≡ Some l.found) × (list_all (λ p. nat_le p.1 last_moment) l.found ≡ true)
