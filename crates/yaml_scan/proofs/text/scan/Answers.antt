use Rattle.std.proofs.Common.{sym, ap, ◌∙◌, false}
use Rattle.yaml_scan.specs.Lines.{fault_from}
use Rattle.yaml_scan.proofs.Utf8.{each_utf8}
use Rattle.yaml_scan.proofs.text.scan.Goals as goal

pub seen-requires : goal.seen-requires
seen-requires c =
    each_utf8 c.as_slice-line-items.result.now false c.lines.line-index c.line-item.result
    (ap (fault_from false) (c.as_slice-line-items.ensures ∙ sym c.as_slice.ensures) ∙ sym c.line_fault.ensures ∙ c.in_default.is)
    c.lines-test.true c.line-item.is
