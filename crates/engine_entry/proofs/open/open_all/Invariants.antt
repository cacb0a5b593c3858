use Rattle.engine_entry.specs.Opened.{Opened, Opening}
use Rattle.engine_entry.proofs.open.open_all.Given as goal

abbrev pub invariant-rules : goal.invariant-rules
invariant-rules l = (h : Opening l.rules l.place l.now l.switches l.initial.states l.initial.triggers) → Opened h.j h.x l.at l.states l.triggers
