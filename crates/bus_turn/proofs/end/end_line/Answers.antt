use Rattle.std.proofs.Common.{◌≡◌, ◌∙◌, ap, sym, append_assoc, [], ◌∷◌, ◌++◌, codes, decimal}
use Rattle.std.proofs.lemmas.Result.{IfOk-weaker}
use Rattle.ha_config.specs.CommandText.{one_key}
use Rattle.ha_config.specs.CheckText.{as_line}
use Rattle.ha_config.specs.Words.{Text}
use Rattle.bus_turn.proofs.end.end_line.Goals as goal

shape : (n : Text) → codes "{\"end\":" ++ (n ++ codes "}\n") ≡ as_line (one_key (codes "end") n)
shape n = ap (λ (t : Text). codes "{\"end\":" ++ t) (sym (append_assoc n (125 ∷ []) (10 ∷ [])))

pub returns : goal.returns
returns c = IfOk-weaker c.format.result _ _ (λ line e. e ∙ shape (decimal c.args.entries)) c.format.ensures.ok
