use Rattle.std.proofs.Common.{◌≡◌, ◌∙◌, append_assoc, ◌++◌, codes, decimal}
use Rattle.std.proofs.lemmas.Result.{IfOk-weaker}
use Rattle.ha_config.specs.Words.{Text}
use Rattle.ha_rehearse.proofs.text.count_line.Goals as goal

shape : (what space n end : Text) → what ++ (space ++ (n ++ end)) ≡ ((what ++ space) ++ n) ++ end
shape what space n end = simp append_assoc

pub returns : goal.returns
returns c = IfOk-weaker c.format.result _ _ (λ line e. e ∙ shape c.args.what.now (codes " ") (decimal c.args.count) (codes "\n")) c.format.ensures.ok
