use Rattle.ha_config.specs.ValueText.{print_value}
use Rattle.flow_line.proofs.PrintedValue.{print_is_spelled}
use Rattle.flow_line.proofs.Whole.{document_read}
use Rattle.flow_line.proofs.laws.printed_value_is_read.Goals as goal

pub returns : goal.returns
returns c =
    let v = c.args.value.now in
    let spelled = print_is_spelled v c.requires.deep c.requires.sound c.requires.utf8 in
    record { spelled = spelled; read = document_read (print_value v) v spelled }
