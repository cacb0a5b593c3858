-- Templates may move between threads.
use denote.Param.Send.{IsSend, sendable}
use Rattle.ha_config.specs.contracts.template.Expr as Expr
use Rattle.ha_config.specs.contracts.template.Template as Template
use Rattle.ha_config.proofs.template.Op.TheSendSync as operator
use Rattle.ha_config.proofs.template.Expr.TheLaws.TheKnot as expression
use Rattle.ha_config.proofs.template.Piece.TheLaws.TheKnot as piece
use Rattle.engine_sends.proofs.Values.{values}

pub expression_field : IsSend Expr.the_field.row
expression_field = search (expression.send-Expr, operator.the_field_send, values) depth 60 fits 20000

pub expression_send : IsSend Expr.the_row
expression_send = search (expression_field, sendable) depth 60 fits 20000

pub template_field : IsSend Template.the_field.row
template_field = search (piece.send-Template, expression_field, expression_send, values) depth 60 fits 20000

pub template_send : IsSend Template.the_row
template_send = search (template_field, sendable) depth 60 fits 20000

pub ruleset templates = (template_field, template_send, values)
