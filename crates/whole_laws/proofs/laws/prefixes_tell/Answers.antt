use Rattle.std.specs.Prelude.{◌++◌}
use Rattle.ha_whole.specs.Whole.{records_of}
use Rattle.whole_laws.proofs.CutLemmas.{is-cut}
use Rattle.whole_laws.proofs.LiftLemmas.{entries-have}
use Rattle.whole_laws.proofs.PrefixLemmas.{quiet-told, ready-told, records-prefix, rested-told}
use Rattle.whole_laws.proofs.laws.prefixes_tell.Goals as goal

pub returns-clause-ready : goal.returns-clause-ready
returns-clause-ready c = λ j ys h b. ready-told j (records_of j) (records_of (j ++ ys)) (is-cut j h) (records-prefix j ys (is-cut j h) (entries-have j h) b)

pub returns-clause-quiet : goal.returns-clause-quiet
returns-clause-quiet c = λ j ys h b. quiet-told j (records_of j) (records_of (j ++ ys)) (is-cut j h) (records-prefix j ys (is-cut j h) (entries-have j h) b)

pub returns-clause-rested : goal.returns-clause-rested
returns-clause-rested c = λ j ys k h b. rested-told j (records_of j) (records_of (j ++ ys)) (is-cut j h) (records-prefix j ys (is-cut j h) (entries-have j h) b) k
