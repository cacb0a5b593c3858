use Rattle.std.proofs.Common.{arith, ap, refl, sym, ◌∙◌}
use Rattle.reading.proofs.Basics.{given_fault}
use Rattle.flow_line.specs.Reading.{document}
use Rattle.flow_line.proofs.Whole.{nothing_left, document_found, same_value, no_document}
use Rattle.flow_line.proofs.FirstFault.{first_fault}
use Rattle.flow_line.proofs.Shorter.{left_within}
use Rattle.flow_line.proofs.read.read_value.Goals as goal

pub overflow_sub-result : goal.overflow_sub-result
overflow_sub-result c =
    left_within c.args.text.now c.in-Err-Fault.bad (ap document (sym c.new.ensures) ∙ given_fault (document c.new.result) c.document.new.self c.in-Err-Fault.field-0 c.in-Err-Fault.bad c.in-Err-Fault.field-0-is c.in-Err-Fault.ensures)

pub returns-in-Ok-clause-found : goal.returns-in-Ok-clause-found
returns-in-Ok-clause-found c = document_found c.args.text.now c.in-Ok.value c.document.new.self (rw c.new.ensures at c.in-Ok.ensures)

pub returns-in-Ok-clause-exact : goal.returns-in-Ok-clause-exact
returns-in-Ok-clause-exact c = nothing_left c.args.text.now c.in-Ok.value c.document.new.self (rw c.new.ensures at c.in-Ok.ensures)

pub returns-in-Ok-clause-only : goal.returns-in-Ok-clause-only
returns-in-Ok-clause-only c = λ v here. same_value c.args.text.now c.in-Ok.value v (returns-in-Ok-clause-exact c) here

pub returns-in-Err-Fault-clause-only : goal.returns-in-Err-Fault-clause-only
returns-in-Err-Fault-clause-only c = no_document c.args.text.now c.in-Err-Fault.bad (ap document (sym c.new.ensures) ∙ given_fault (document c.new.result) c.document.new.self c.in-Err-Fault.field-0 c.in-Err-Fault.bad c.in-Err-Fault.field-0-is c.in-Err-Fault.ensures)

pub returns-in-Err-Fault-clause-exact : goal.returns-in-Err-Fault-clause-exact
returns-in-Err-Fault-clause-exact c =
    let e = ap document (sym c.new.ensures) ∙ given_fault (document c.new.result) c.document.new.self c.in-Err-Fault.field-0 c.in-Err-Fault.bad c.in-Err-Fault.field-0-is c.in-Err-Fault.ensures in
    (c.in-Err-Fault.bad, e, (let le = left_within c.args.text.now c.in-Err-Fault.bad e in omega (arith, le), refl))

pub returns-in-Err-Fault-clause-refused : goal.returns-in-Err-Fault-clause-refused
returns-in-Err-Fault-clause-refused c =
    let e = ap document (sym c.new.ensures) ∙ given_fault (document c.new.result) c.document.new.self c.in-Err-Fault.field-0 c.in-Err-Fault.bad c.in-Err-Fault.field-0-is c.in-Err-Fault.ensures in
    first_fault c.args.text.now c.in-Err-Fault.bad _ e (let le = left_within c.args.text.now c.in-Err-Fault.bad e in omega (arith, le))
