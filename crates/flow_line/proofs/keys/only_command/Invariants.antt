use Rattle.std.proofs.Common.{◌≡◌, filter, take}
use Rattle.std.specs.Prelude.{option_to_list}
use Rattle.ha_config.specs.Words.{has_name}
use Rattle.flow_line.specs.Command.{key_of}
use Rattle.flow_line.proofs.keys.only_command.Given as goal

abbrev pub invariant-loop-command : goal.invariant-loop-command
invariant-loop-command l = filter (λ command. has_name (key_of command) l.pairs) (take l.command-index l.command-items) ≡ option_to_list l.found
