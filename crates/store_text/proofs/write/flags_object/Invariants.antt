use Rattle.std.proofs.Common.{◌≡◌, ◌≤◌, length, drop}
use Rattle.serde_json.specs.View.{members_view}
use Rattle.store_text.specs.Store.{by_names, put_all}
use Rattle.store_text.proofs.write.flags_object.Given as goal

abbrev pub invariant-loop-left : goal.invariant-loop-left
invariant-loop-left l = record {
  within : l.left ≤ length l.switches;
  done : members_view l.flags.entries ≡ put_all (by_names (drop l.left l.switches));
}

abbrev pub decreases-loop-left : goal.decreases-loop-left
decreases-loop-left l = l.left
