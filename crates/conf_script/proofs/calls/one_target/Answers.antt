use Rattle.std.proofs.Common.{ap, sym, [], Ok}
use Rattle.conf_script.proofs.calls.one_target.Goals as goal

pub returns : goal.returns
returns c = c.targets_text.ensures (Ok []) (sym (ap Ok c.make.ensures))
