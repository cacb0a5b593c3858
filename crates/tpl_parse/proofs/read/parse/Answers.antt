use Rattle.std.proofs.Common.{arith, ap, sym, ◌∙◌, Ok}
use Rattle.reading.proofs.Basics.{given_fault}
use Rattle.tpl_parse.specs.Pieces.{template}
use Rattle.tpl_parse.proofs.WholeText.{left_within, nothing_left}
use Rattle.tpl_parse.proofs.Parsed.{found_of, only_of, no_tree}
use Rattle.tpl_parse.proofs.Refusals.{none_goes_on}
use Rattle.tpl_parse.proofs.read.parse.Goals as goal

pub overflow_sub-result : goal.overflow_sub-result
overflow_sub-result c =
    left_within c.args.text.now c.in-Err-Fault.bad (ap template (sym c.new.ensures) ∙ given_fault (template c.new.result) c.template.new.self c.in-Err-Fault.field-0 c.in-Err-Fault.bad c.in-Err-Fault.field-0-is c.in-Err-Fault.ensures)

pub returns-in-Ok : goal.returns-in-Ok
returns-in-Ok c =
    let told = nothing_left c.args.text.now c.in-Ok.template c.template.new.self (rw c.new.ensures at c.in-Ok.ensures) in
    record { found = found_of c.args.text.now (Ok c.in-Ok.template) told; only = only_of c.args.text.now (Ok c.in-Ok.template) told; stops = tt; exact = told }

pub returns-in-Err-Fault : goal.returns-in-Err-Fault
returns-in-Err-Fault c =
    let e = ap template (sym c.new.ensures) ∙ given_fault (template c.new.result) c.template.new.self c.in-Err-Fault.field-0 c.in-Err-Fault.bad c.in-Err-Fault.field-0-is c.in-Err-Fault.ensures in
    let le = left_within c.args.text.now c.in-Err-Fault.bad e in
    record { found = tt; only = no_tree c.args.text.now c.in-Err-Fault.bad e; stops = none_goes_on c.args.text.now _ c.in-Err-Fault.bad e (omega arith); exact = (c.in-Err-Fault.bad, e, omega arith) }
