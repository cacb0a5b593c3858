use Rattle.std.proofs.Common.{ap, ◌∙◌}
use Rattle.ha_config.specs.Names.{names_of}
use Rattle.ha_whole.specs.Whole.{again_of}
use Rattle.segment_carry.proofs.AgainLemmas.{begins-segment, few-names, front-within, lines-fit, made-here, made-same}
use Rattle.segment_carry.proofs.closing.again.Goals as goal

pub entry_at-opening-requires : goal.entry_at-opening-requires
entry_at-opening-requires c =
    let s = c.args.closing.now in
    front-within s.journal.now s.front s.segments s.at s.config.now s.runs.now s.names.now s.last.now s.switches.now s.lasts.now c.requires

pub behind-requires : goal.behind-requires
behind-requires c =
    let s = c.args.closing.now in
    front-within s.journal.now s.front s.segments s.at s.config.now s.runs.now s.names.now s.last.now s.switches.now s.lasts.now c.requires

pub carry_of-requires : goal.carry_of-requires
carry_of-requires c =
    let s = c.args.closing.now in
    begins-segment s.journal.now s.front s.segments s.at s.config.now s.runs.now s.names.now s.last.now s.switches.now s.lasts.now c.requires c.entry_at-opening.result.now c.entry_at-opening.ensures

pub made-requires-clause-rules : goal.made-requires-clause-rules
made-requires-clause-rules c =
    let s = c.args.closing.now in
    few-names s.journal.now s.front s.segments s.at s.config.now s.runs.now s.names.now s.last.now s.switches.now s.lasts.now c.requires c.as_slice-2.result.now
    (c.as_slice-2.ensures ∙ c.in_ok-rules.ensures ∙ ap names_of c.as_slice.ensures)

pub made-requires-clause-lines : goal.made-requires-clause-lines
made-requires-clause-lines c =
    let s = c.args.closing.now in
    lines-fit s.journal.now s.front s.segments s.at s.config.now s.runs.now s.names.now s.last.now s.switches.now s.lasts.now c.requires c.entry_at-opening.result.now c.entry_at-opening.ensures
    c.carry_of.result.now c.carry_of.ensures c.behind.result.now c.behind.ensures

pub returns : goal.returns
returns c =
    let s = c.args.closing.now in
    let same = made-here s.journal.now s.front s.segments s.at s.config.now s.runs.now s.names.now s.last.now s.switches.now s.lasts.now c.requires c.entry_at-opening.result.now c.entry_at-opening.ensures
    c.carry_of.result.now c.carry_of.ensures c.behind.result.now c.behind.ensures c.as_slice-2.result.now
    (c.as_slice-2.ensures ∙ c.in_ok-rules.ensures ∙ ap names_of c.as_slice.ensures) in
    made-same c.made.result _ (again_of s.journal.now) same c.made.ensures
