use Rattle.std.proofs.Common.{◌∙◌, ap, List, [], Option, codes, unwrap_or}
use Rattle.std.proofs.lemmas.Result.{IfOk-weaker}
use Rattle.clap.specs.Words.{Text, found_of}
use Rattle.clap.proofs.WalkLemmas.{raw_values-rows}
use Rattle.ha_words.proofs.texts.sources_of.Goals as goal

pub returns-in-Some : goal.returns-in-Some
returns-in-Some c =
    let e = c.in-Some.ensures ∙ raw_values-rows (found_of c.args.matches.now) (codes "source") in
    IfOk-weaker c.copied.result _ _ (λ v h. h ∙ ap (λ (o : Option (List Text)). unwrap_or o []) e) c.copied.ensures

pub returns-in-None : goal.returns-in-None
returns-in-None c =
    let e = c.in-None.ensures ∙ raw_values-rows (found_of c.args.matches.now) (codes "source") in
    c.make.ensures ∙ ap (λ (o : Option (List Text)). unwrap_or o []) e
