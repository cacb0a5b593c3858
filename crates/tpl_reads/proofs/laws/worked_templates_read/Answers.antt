use Rattle.tpl_reads.proofs.WorkedRows.{arms, assigned, attribute, choice, lists, nothing, once, operands, tests, trigger, variable_row}
use Rattle.tpl_reads.proofs.laws.worked_templates_read.Goals as goal

pub returns-clause-operands : goal.returns-clause-operands
returns-clause-operands c = operands

pub returns-clause-arms : goal.returns-clause-arms
returns-clause-arms c = arms

pub returns-clause-attribute : goal.returns-clause-attribute
returns-clause-attribute c = attribute

pub returns-clause-tests : goal.returns-clause-tests
returns-clause-tests c = tests

pub returns-clause-variable : goal.returns-clause-variable
returns-clause-variable c = variable_row

pub returns-clause-assigned : goal.returns-clause-assigned
returns-clause-assigned c = assigned

pub returns-clause-trigger : goal.returns-clause-trigger
returns-clause-trigger c = trigger

pub returns-clause-choice : goal.returns-clause-choice
returns-clause-choice c = choice

pub returns-clause-nothing : goal.returns-clause-nothing
returns-clause-nothing c = nothing

pub returns-clause-lists : goal.returns-clause-lists
returns-clause-lists c = lists

pub returns-clause-once : goal.returns-clause-once
returns-clause-once c = once
