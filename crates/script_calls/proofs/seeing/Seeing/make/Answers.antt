use Rattle.std.proofs.Common.{◌≤◌, ap, subst, sym, arith}
use Rattle.ha_clock.specs.Local.{last_moment}
use Rattle.ha_sight.specs.Sight.{Sight}
use Rattle.helper_set.specs.Kept.{known_of}
use Rattle.script_calls.specs.Numbered.{scripts_seen}
use Rattle.script_calls.proofs.seeing.Seeing.make.Goals as goal

pub make-requires-clause-numbered : goal.make-requires-clause-numbered
make-requires-clause-numbered c = omega (arith, c.requires.numbered)

pub returns-clause-sees : goal.returns-clause-sees
returns-clause-sees c = λ i. record (c.make.ensures.seen i) { scripts = scripts_seen (c.make.ensures.numbers i) (c.make.ensures.config i); helpers = known_of c.args.helpers.now }

pub returns-clause-timely : goal.returns-clause-timely
returns-clause-timely c = subst (λ n. n ≤ last_moment) (sym (ap (λ (s : Sight). s.now) c.make.ensures.seen)) c.requires.timely
