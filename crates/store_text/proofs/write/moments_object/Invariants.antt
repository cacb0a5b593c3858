use Rattle.std.proofs.Common.{◌≡◌, ◌≤◌, length, drop}
use Rattle.serde_json.specs.View.{members_view}
use Rattle.store_text.specs.Store.{put_moments}
use Rattle.store_text.proofs.write.moments_object.Given as goal

abbrev pub invariant-loop-left : goal.invariant-loop-left
invariant-loop-left l = record {
  within : l.left ≤ length l.last;
  done : members_view l.moments.entries ≡ put_moments (drop l.left l.last);
}

abbrev pub decreases-loop-left : goal.decreases-loop-left
decreases-loop-left l = l.left
