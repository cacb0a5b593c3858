-- A script, where it stands, may move between threads.
use denote.Param.Send.{IsSend, sendable}
use Rattle.std.proofs.Crossing.{crosses}
use Rattle.script_step.specs.contracts.scopes.Scopes as Scopes
use Rattle.script_step.specs.contracts.thread.Turn as Turn
use Rattle.script_step.specs.contracts.thread.Frame as Frame
use Rattle.script_step.specs.contracts.thread.Thread as Thread
use Rattle.script_step.specs.contracts.strand.Strand as Strand
use Rattle.script_step.specs.contracts.frames.Frames as Frames
use Rattle.script_step.proofs.sizes.Sizes.TheSendSync as sizes
use Rattle.script_step.proofs.strand.End.TheSendSync as end
use Rattle.script_step.proofs.strand.Stage.TheLaws.TheKnot as stage
use Rattle.engine_sends.proofs.Envs.{variables}
use Rattle.engine_sends.proofs.Scripts.{scripts}

scopes_send : IsSend Scopes.the_row
scopes_send = search (sizes.the_send, variables, scripts) depth 60 fits 20000

turn_send : IsSend Turn.the_row
turn_send = search scripts depth 60 fits 20000

frame_field : IsSend Frame.the_field.row
frame_field = search (turn_send, scripts) depth 60 fits 20000

frame_send : IsSend Frame.the_row
frame_send = search (frame_field, sendable) depth 60 fits 20000

thread_field : IsSend Thread.the_field.row
thread_field = search (scopes_send, frame_field, frame_send, scripts) depth 60 fits 20000

strand_field : IsSend Strand.the_field.row
strand_field = search (thread_field, end.the_field_send, stage.send-Strand, scripts) depth 60 fits 20000

frames_field : IsSend Frames.the_field.row
frames_field = search (strand_field, crosses, scripts) depth 60 fits 20000

pub frames_send : IsSend Frames.the_row
frames_send = search (frames_field, sendable) depth 60 fits 20000
