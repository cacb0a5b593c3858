-- What a step gave, however its wait is kept.
use Rattle.ha_sight.specs.declared.steps.StepOut.{StepOut}
use Rattle.script_step.specs.declared.taken.Taken.{Taken}

abbrev pub out_of : Taken → StepOut
out_of t = record { item = t.item; progress = t.progress; wait = t.wait }
