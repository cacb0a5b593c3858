use Rattle.std.proofs.Common.{sym, ◌∙◌}
use Rattle.flow_printed.proofs.Texts.{printed_found, printed_read}
use Rattle.flow_printed.proofs.printed.read_by_map.Goals as goal

pub returns-in-Ok-clause-found : goal.returns-in-Ok-clause-found
returns-in-Ok-clause-found c = printed_found c.args.text.now c.in-Ok.made c.in-Ok.ensures.in_time c.in-Ok.ensures.exact

pub returns-in-Ok-clause-only : goal.returns-in-Ok-clause-only
returns-in-Ok-clause-only c = λ x print. sym c.in-Ok.ensures.exact ∙ printed_read c.args.text.now x print

pub returns-in-Err-Fault-clause-only : goal.returns-in-Err-Fault-clause-only
returns-in-Err-Fault-clause-only c = λ x print. sym (rw c.in-Err-Fault.field-0-is at c.in-Err-Fault.ensures.exact) ∙ printed_read c.args.text.now x print
