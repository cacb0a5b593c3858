use Rattle.std.proofs.Common.{ap}
use Rattle.ha_sight.specs.Templates.{is_true_text, says}
use Rattle.tpl_reads.proofs.TemplateLemmas.{rendered-same, written-same}
use Rattle.tpl_reads.proofs.laws.a_template_means_what_it_reads.Goals as goal

pub returns-clause-written : goal.returns-clause-written
returns-clause-written c = λ t es a b is h env. written-same a b t es is h env

pub returns-clause-rendered : goal.returns-clause-rendered
returns-clause-rendered c = λ t es a b is h env. rendered-same a b t es is h env

pub returns-clause-says : goal.returns-clause-says
returns-clause-says c = λ t es a b is h env. ap says (rendered-same a b t es is h env)

pub returns-clause-condition : goal.returns-clause-condition
returns-clause-condition c = λ t es a b is h env. ap is_true_text (rendered-same a b t es is h env)
