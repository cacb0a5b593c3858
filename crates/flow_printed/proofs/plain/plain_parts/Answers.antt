use Rattle.std.proofs.lemmas.List.{take_rest}
use Rattle.flow_printed.proofs.PlainReports.{plain_cut}
use Rattle.flow_printed.proofs.plain.plain_parts.Goals as goal

pub returns-in-Some-behind : goal.returns-in-Some-behind
returns-in-Some-behind c =
    plain_cut c.args.text.now _ _ _ _ c.in-Some-end_of_id.at c.in-Some.ensures c.in-Some-before.ensures (take_rest c.in-Some-before.texts.now c.in-Some-end_of_id.at) c.in-Some-behind.ensures
