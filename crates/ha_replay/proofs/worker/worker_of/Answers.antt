use Rattle.std.proofs.Common.{◌∙◌, drop}
use Rattle.ha_replay.specs.Digits.{number_before_comma}
use Rattle.ha_replay.proofs.AnswerLemmas.{number-found}
use Rattle.ha_replay.proofs.worker.worker_of.Goals as goal

pub returns-in-Some-clause-found : goal.returns-in-Some-clause-found
returns-in-Some-clause-found c = λ k lt of.
    c.number_before_comma.ensures ∙ (λ i. number_before_comma ((c.in-Some.ensures.cases.1 ∙ (λ j. drop 10 (of.1 j))) i)) ∙ number-found k of.0 lt
