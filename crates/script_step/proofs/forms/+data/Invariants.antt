use Rattle.std.proofs.Common.{drop}
use Rattle.ha_sight.specs.Templates.{data_of}
use Rattle.script_step.proofs.EachLemmas.{Goes}
use Rattle.script_step.proofs.FormLemmas.{field_value}
use Rattle.script_step.proofs.forms.+data.Given as goal

abbrev pub invariant-forms_of-loop-i : goal.invariant-forms_of-loop-i
invariant-forms_of-loop-i g l = Goes (λ f. data_of (g.A.Answers.sight l.answers) f l.env) l.forms (drop l.i l.forms) l.all

abbrev pub invariant-fields_of-loop-i : goal.invariant-fields_of-loop-i
invariant-fields_of-loop-i g l = Goes (field_value (g.A.Answers.sight l.answers) l.env) l.fields (drop l.i l.fields) l.all
