use Rattle.whole_laws.proofs.PutLemmas.{before-put, put-appends, within-put}
use Rattle.whole_laws.proofs.laws.a_put_appends.Goals as goal

pub returns-clause-entries : goal.returns-clause-entries
returns-clause-entries c = put-appends

pub returns-clause-before : goal.returns-clause-before
returns-clause-before c = before-put

pub returns-clause-within : goal.returns-clause-within
returns-clause-within c = λ j x p h room. within-put j x p.none h room
