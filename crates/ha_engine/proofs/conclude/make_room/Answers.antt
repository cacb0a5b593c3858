use Rattle.std.proofs.Common.{ℕ, ◌≤◌, List, sym, subst, arith}
use Rattle.std.specs.Prelude.{Option}
use Rattle.ha_sight.specs.Scripts.{Branch}
use Rattle.script_step.specs.declared.frames.Frames.{Frames}
use Rattle.engine_parts.specs.declared.parts.Parts.{Parts}
use Rattle.engine_parts.specs.Called.{CallsKept, told_by}
use Rattle.engine_parts.specs.Kept.{RunsKept, nobody, Going}
use Rattle.ha_engine.proofs.conclude.make_room.Goals as goal

pub returns-clause-going : goal.returns-clause-going
returns-clause-going c k rs going =
    let p = c.args.parts.now in
    let all : Going nobody k rs (record p { frames = c.reserve-2.new.self; ready = c.reserve_pairs.new.parts.ready })
    = record {
      sees = record { looks = going.sees.looks; helpers_stand = going.sees.helpers_stand; switches_stand = going.sees.switches_stand; changed_is = going.sees.changed_is; sound = going.sees.sound; few = going.sees.few; free_is = going.sees.free_is; ascending_is = going.sees.ascending_is };
      triggers_stand = going.triggers_stand;
      waits_stand = going.waits_stand;
      owned = going.owned;
      keys_early = going.keys_early;
      runs_kept = subst (λ (os : List (Option Frames)). RunsKept (told_by nobody k rs) nobody k rs p.delays p.waits os c.reserve_pairs.new.parts.ready.pairs.items) (sym c.reserve-2.ensures.items)
          (subst (λ (l : List (ℕ × Branch)). RunsKept (told_by nobody k rs) nobody k rs p.delays p.waits p.frames.items l) (sym c.reserve_pairs.ensures.items) going.runs_kept);
      calls_kept = subst (λ (os : List (Option Frames)). CallsKept (told_by nobody k rs) k rs p.calls os) (sym c.reserve-2.ensures.items) going.calls_kept;
    } in
    subst (λ (q : Parts). Going nobody k rs q) (sym c.reserve_pairs.ensures.rest) all

pub returns-clause-room : goal.returns-clause-room
returns-clause-room c = (
  subst (λ (q : Parts). c.args.more ≤ q.frames.spare) (sym c.reserve_pairs.ensures.rest) c.in_ok-reserve-2.ensures.spare,
  omega (arith, c.in_ok-reserve_pairs.ensures.room),
)
