use Rattle.std.proofs.Common.{◌∙◌, map, sym}
use Rattle.tpl_reads.specs.Reads.{expr_named, known_of, looked_up}
use Rattle.tpl_reads.proofs.FindLemmas.{along-none, finds-along}
use Rattle.tpl_reads.proofs.FormLemmas.{first-known, first-none}
use Rattle.tpl_reads.proofs.exprs.add_looked_up.Goals as goal

pub returns-then-looks_up : goal.returns-then-looks_up
returns-then-looks_up c =
    finds-along c.args.found.now c.add_named.new.found (expr_named c.first-item.result) (looked_up c.args.name (map known_of c.args.args.now)) c.add_named.result
    (first-known c.args.name c.args.args.now c.first-item.result c.in-len1-up.len_at_least c.first-item.is (sym c.looks_up.ensures ∙ c.if-looks_up.true))
    c.add_named.ensures

pub returns-else-looks_up : goal.returns-else-looks_up
returns-else-looks_up c =
    along-none c.args.found.now (looked_up c.args.name (map known_of c.args.args.now)) (first-none c.args.name c.args.args.now (sym c.looks_up.ensures ∙ c.if-looks_up.false))
