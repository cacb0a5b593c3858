use Rattle.std.proofs.Common.{◌≡◌, ◌++◌, false, None, List, length, map}
use Rattle.std.specs.List.{list_any}
use Rattle.ha_config.specs.declared.command.Cmd.{Cmd}
use Rattle.ha_config.specs.Fair.{prepared}
use Rattle.ha_model.specs.Lawful.{shuts}
use Rattle.ha_worker.specs.Came.{Came}
use Rattle.ha_worker.specs.Read.{AreOpen}
use Rattle.ha_worker.proofs.puts.put_all.Given as goal

abbrev pub invariant-cmds : goal.invariant-cmds
invariant-cmds g l = record {
  put : List Cmd;
  free : l.bus.first ≡ None;
  parts : map (prepared g.C.Prepare.Prepare.reads) l.initial.cmds.items ≡ put ++ map (prepared g.C.Prepare.Prepare.reads) l.cmds.items;
  came : Came l.id l.initial.next l.next put l.initial.bus l.bus;
  unshut : list_any (shuts l.id) l.bus.journal ≡ false;
  open_all : AreOpen l.cmds.items;
}

abbrev pub decreases-cmds : goal.decreases-cmds
decreases-cmds g l = length l.cmds.items
