use Rattle.flow_printed.proofs.PrintedLines.{one_line}
use Rattle.flow_printed.proofs.laws.one_line.Goals as goal

pub returns : goal.returns
returns c = λ l m small low p q. one_line c.args.text.now l m small low p q
