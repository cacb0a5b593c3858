use Rattle.std.proofs.Common.{Some, sym, ap, ◌∙◌}
use Rattle.flow_printed.proofs.Fronts.{some_is}
use Rattle.flow_printed.proofs.PrintedLines.{no_parts, parts_of_print, print_of_parts, same_line, shown_fits}
use Rattle.flow_printed.proofs.line.read_line.Goals as goal

pub returns-in_default-clause-only : goal.returns-in_default-clause-only
returns-in_default-clause-only c = λ l s n print. absurd (no_parts c.args.text.now l (record { source = s; number = n }) print c.in_default.ensures)

pub returns-in_default-read_u32-clause-only : goal.returns-in_default-read_u32-clause-only
returns-in_default-read_u32-clause-only c = λ l s n print.
    let parts = parts_of_print c.args.text.now _ _ _ l (record { source = s; number = n }) print c.in-Some.ensures in
    let made = c.read_u32.ensures.only l.source s parts.source_is in
    absurd (let none = c.in_default-read_u32.is in cc)

pub returns-in_default-read_u64-clause-only : goal.returns-in_default-read_u64-clause-only
returns-in_default-read_u64-clause-only c = λ l s n print.
    let parts = parts_of_print c.args.text.now _ _ _ l (record { source = s; number = n }) print c.in-Some.ensures in
    let made = c.read_u64.ensures.only l.number n parts.number_is in
    absurd (let none = c.in_default-read_u64.is in cc)

pub read_printed-requires : goal.read_printed-requires
read_printed-requires c = shown_fits c.args.text.now _ _ _ c.in-Some.ensures c.requires

pub returns-in-Ok-Some-clause-found : goal.returns-in-Ok-Some-clause-found
returns-in-Ok-Some-clause-found c =
    print_of_parts c.args.text.now _ _ _ _ c.in-Some.ensures
    (record {
      source_is = c.in-Some-read_u32.ensures.found;
      number_is = c.in-Some-read_u64.ensures.found;
      cmd_is = rw c.in-Ok-Some.field-0-is at c.in-Ok-Some.ensures.found;
    })

pub returns-in-Ok-Some-clause-only : goal.returns-in-Ok-Some-clause-only
returns-in-Ok-Some-clause-only c = λ l s n print.
    let parts = parts_of_print c.args.text.now _ _ _ l (record { source = s; number = n }) print c.in-Some.ensures in
    let source = some_is c.in-Some-read_u32.source l.source (sym c.in-Some-read_u32.is ∙ c.read_u32.ensures.only l.source s parts.source_is) in
    let number = some_is c.in-Some-read_u64.number l.number (sym c.in-Some-read_u64.is ∙ c.read_u64.ensures.only l.number n parts.number_is) in
    let cmd = some_is c.in-Ok-Some.cmd l.cmd (sym c.in-Ok-Some.field-0-is ∙ c.in-Ok-Some.ensures.only l.cmd parts.cmd_is) in
    ap (λ x. Some x) (same_line l c.in-Some-read_u32.source c.in-Some-read_u64.number c.in-Ok-Some.cmd source number cmd)

pub returns-in-Ok-None-clause-only : goal.returns-in-Ok-None-clause-only
returns-in-Ok-None-clause-only c = λ l s n print.
    let parts = parts_of_print c.args.text.now _ _ _ l (record { source = s; number = n }) print c.in-Some.ensures in
    let made = c.in-Ok-None.ensures.only l.cmd parts.cmd_is in
    absurd (let none = c.in-Ok-None.field-0-is in cc)
