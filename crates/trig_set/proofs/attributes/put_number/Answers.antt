use Rattle.std.proofs.Common.{◌∙◌, sym, if◌then◌else◌}
use Rattle.std.specs.BTreeMap.{get_by_text}
use Rattle.ha_config.specs.Words.{same}
use Rattle.ha_past.specs.Looks.{or_else}
use Rattle.trig_set.proofs.TableLemmas.{changes-name}
use Rattle.trig_set.proofs.attributes.put_number.Goals as goal

pub returns : goal.returns
returns c q =
    let old = c.args.numbers.now in
    let name = c.args.name.now in
    changes-name old c.insert.new.self _ name _ c.in_ok-key.ensures c.in_ok-insert.ensures.updates q
    ∙ (λ i. if same name q then or_else (sym c.in-Some.is i) (get_by_text old q) else get_by_text old q)
