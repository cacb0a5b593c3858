use Rattle.std.proofs.Common.{refl, sym}
use Rattle.ha_sight.proofs.HelperCalls.{no-helpers}
use Rattle.cond_eval.specs.Seen.{seen}
use Rattle.cond_eval.proofs.answers.ViewAnswers.inner.Goals as goal

pub returns : goal.returns
returns c = sym (no-helpers (seen c.args.self.now) c.args._service.now c.args._target.now c.args._fields.now refl)
