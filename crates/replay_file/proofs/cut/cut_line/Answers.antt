use Rattle.std.proofs.Common.{◌+◌, refl}
use Rattle.std.proofs.lemmas.List.{take_rest}
use Rattle.replay_file.proofs.CutLemmas.{cut_at}
use Rattle.replay_file.proofs.cut.cut_line.Goals as goal

pub returns-in-Some-clause-found : goal.returns-in-Some-clause-found
returns-in-Some-clause-found c = cut_at _ _ _ c.in-Some.at refl (take_rest c.args.text.now (c.in-Some.at + 1)) c.in-Some.ensures.front c.in-Some.ensures.end
