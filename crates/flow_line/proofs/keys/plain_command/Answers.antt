use Rattle.std.proofs.Common.{◌≡◌, true, subst, sym}
use Rattle.ha_config.specs.Words.{Text, same}
use Rattle.flow_line.specs.Command.{key_of}
use Rattle.flow_line.proofs.PlainKeys.{of_first}
use Rattle.flow_line.proofs.keys.plain_command.Goals as goal

pub returns-then-has_keys-clause-alone : goal.returns-then-has_keys-clause-alone
returns-then-has_keys-clause-alone c =
    of_first c.in_ok-command.command c.in_ok-first.first.now c.args.pairs.now c.in_ok-first.ensures.item.3.0 c.in_ok-first.ensures.item.1
    (subst (λ (key : Text). same (key_of c.in_ok-command.command) key ≡ true) c.bytes.ensures.value c.in_ok-command.ensures)
    (sym c.if-has_keys.ensures)
