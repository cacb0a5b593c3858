use Rattle.std.proofs.Common.{◌∙◌, sym}
use Rattle.state_laws.proofs.StateLaws.{or_left, or_right, states-other}
use Rattle.state_laws.specs.Stands.{gives_text, sets_anew}
use Rattle.state_laws.proofs.laws.switches_are_left.Goals as goal

pub returns-clause-left : goal.returns-clause-left
returns-clause-left c t j x report gone restart stands e kept = stands e ∙ sym (states-other j e x report gone restart (or_left (sets_anew j x e) (gives_text j x e) kept) (or_right (sets_anew j x e) (gives_text j x e) kept))

pub returns-clause-none : goal.returns-clause-none
returns-clause-none c t j left none stands e = stands e (none e)
