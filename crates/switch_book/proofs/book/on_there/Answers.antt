use Rattle.std.proofs.Common.{◌∙◌, ap, refl, sym}
use Rattle.std.specs.Prelude.{None, Some, nat_eq, option_and_then, if◌then◌else◌}
use Rattle.std.proofs.lemmas.Option.{slice_get_past, slice_get_read}
use Rattle.switch_book.specs.Book.{Switch}
use Rattle.switch_book.proofs.book.on_there.Goals as goal

pub returns-in-Some : goal.returns-in-Some
returns-in-Some c =
    let x = c.in-Some.switch.now in
    let there = slice_get_read _ _ _ x refl c.in-Some.ensures.lookup.3.0 c.in-Some.ensures.lookup.1 in
    c.flag_of.ensures ∙ ap (option_and_then (λ (p : Switch). if nat_eq p.0 c.args.number then Some p.2 else None)) (sym there)

pub returns-in-None : goal.returns-in-None
returns-in-None c = ap (option_and_then (λ (p : Switch). if nat_eq p.0 c.args.number then Some p.2 else None)) (sym (slice_get_past _ _ c.in-None.ensures.lookup.3))
