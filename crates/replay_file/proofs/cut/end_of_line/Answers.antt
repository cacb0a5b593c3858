use Rattle.replay_file.proofs.CutLemmas.{all_free, found_free}
use Rattle.replay_file.proofs.cut.end_of_line.Goals as goal

pub returns-clause-front : goal.returns-clause-front
returns-clause-front c = found_free c.args.text.now c.memchr.result c.memchr.ensures

pub returns-clause-none : goal.returns-clause-none
returns-clause-none c = all_free c.args.text.now c.memchr.result c.memchr.ensures
