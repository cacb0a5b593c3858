use Rattle.std.proofs.Common.{◌≡◌, true, sym, ap, subst, ◌∙◌}
use Rattle.std.specs.Prelude.{Option, Some}
use Rattle.std.specs.Option.{option_copied, option_map_or}
use Rattle.ha_config.specs.declared.config.Script.{Script}
use Rattle.ha_config.specs.Sound.{are_sound_actions}
use Rattle.ha_config.proofs.ListLemmas.{none-some, some-same}
use Rattle.ha_model.proofs.LastEntry.{ok-then}
use Rattle.script_step.proofs.SoundFew.{sound-few}
use Rattle.ha_engine.specs.Admits.{IsReady}
use Rattle.ha_engine.proofs.prepare.put_called.Goals as goal

pub put_script-requires : goal.put_script-requires
put_script-requires c =
    let found : option_copied c.args.script ≡ Some c.in-Some.script.now = ap option_copied c.in-Some.is in
    sound-few c.in-Some.script.now.actions (ap (λ (o : Option Script). option_map_or (λ (s : Script). are_sound_actions s.actions) o true) (sym found) ∙ c.requires)

pub returns-in-Some-clause-there : goal.returns-in-Some-clause-there
returns-in-Some-clause-there c s is =
    let found : option_copied c.args.script ≡ Some c.in-Some.script.now = ap option_copied c.in-Some.is in
    let same : c.in-Some.script.now ≡ s = some-same c.in-Some.script.now s (sym found ∙ is) in
    ok-then c.put_script.result (λ h. (h.0, h.1, subst (λ (x : Script). IsReady c.args.unit c.args.order c.args.env x.mode x.max x.actions h.0) same h.2)) c.put_script.ensures

pub returns-in-Some-clause-none : goal.returns-in-Some-clause-none
returns-in-Some-clause-none c is = absurd (none-some c.in-Some.script.now (sym is ∙ ap option_copied c.in-Some.is))

pub returns-in-None-clause-there : goal.returns-in-None-clause-there
returns-in-None-clause-there c s is = absurd (none-some s (sym (ap option_copied c.in-None.is) ∙ is))
