use Rattle.std.proofs.Common.{◌≡◌, List, ◌++◌, Some}
use Rattle.serde_json.specs.View.{members_view}
use Rattle.serde_json.proofs.Views.{Entry}
use Rattle.store_text.specs.Store.{flags_of}
use Rattle.store_text.proofs.read.flags.Given as goal

abbrev pub invariant-loop-name : goal.invariant-loop-name
invariant-loop-name l =
    (done : List Entry) × (l.members.entries ≡ done ++ l.name-iterator) × (flags_of (members_view done) ≡ Some l.found)
