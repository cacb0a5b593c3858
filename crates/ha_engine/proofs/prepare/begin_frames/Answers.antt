use Rattle.std.proofs.Common.{◌∙◌, [], sym, ap, subst}
use Rattle.script_step.specs.Frames.{began_by, begins}
use Rattle.script_step.specs.declared.frames.Frames.{Frames}
use Rattle.engine_parts.specs.Fronts.{Stands, fronts}
use Rattle.ha_engine.proofs.prepare.begin_frames.Goals as goal

pub returns-clause-stands : goal.returns-clause-stands
returns-clause-stands c = subst (λ (f : Frames). Stands f c.args.actions.now c.args.env.now []) (sym c.in_ok-held.ensures.ok) (record { items = []; stands = c.in_ok-frames.ensures.stands })

pub returns-clause-first : goal.returns-clause-first
returns-clause-first c = (λ i. fronts (c.in_ok-held.ensures.ok i) []) ∙ c.in_ok-frames.ensures.fronts (began_by begins [])

pub returns-clause-automation : goal.returns-clause-automation
returns-clause-automation c = ap (λ (f : Frames). f.automation) c.in_ok-held.ensures.ok ∙ c.in_ok-frames.ensures.automation
