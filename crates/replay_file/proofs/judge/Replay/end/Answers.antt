use Rattle.std.proofs.Common.{◌∙◌, length, refl, rules, sym}
use Rattle.std.specs.Prelude.{◌==◌}
use Rattle.ha_config.proofs.ListLemmas.{true-false}
use Rattle.ha_replay.specs.Traces.{reached, told}
use Rattle.replay_file.proofs.StopLemmas.{empty_is, finished, full_at_end, read_failed, refused_at_end, too_long}
use Rattle.replay_file.proofs.ToldLemmas.{full_told, told_full}
use Rattle.replay_file.proofs.judge.Replay.end.Goals as goal

pub returns-then-is_empty-clause-judged : goal.returns-then-is_empty-clause-judged
returns-then-is_empty-clause-judged g c = λ text o o' e e' at.
    let s = c.args.self.now in
    let r = reached (g.E.Core.entries s.core) (g.E.Core.runs s.core) s.closing s.again in
    finished text c.args.end (told r) r.records s.ended c.args.left.now o o' e e' at c.in-Whole.is c.if-self.true (empty_is c.args.left.now c.is_empty.result c.is_empty.ensures c.if-is_empty.true)

pub returns-then-self-clause-judged : goal.returns-then-self-clause-judged
returns-then-self-clause-judged g c = λ text o o' e e' at.
    let s = c.args.self.now in
    let r = reached (g.E.Core.entries s.core) (g.E.Core.runs s.core) s.closing s.again in
    refused_at_end text c.args.end (told r) r.records s.ended c.args.left.now o o' e e' at s.lines c.in-Whole.is
    (λ closed none. true-false (sym (c.is_empty.ensures ∙ (λ i. length (none i) == 0)) ∙ c.if-is_empty.false)) (λ running. absurd (true-false (sym c.if-self.true ∙ running))) c.requires.no_line
    c.requires.ready.counted c.status_of.result (c.status_of.ensures.refused refl)

pub returns-then-is_full-clause-judged : goal.returns-then-is_full-clause-judged
returns-then-is_full-clause-judged g c = λ text o o' e e' at.
    let s = c.args.self.now in
    let r = reached (g.E.Core.entries s.core) (g.E.Core.runs s.core) s.closing s.again in
    full_at_end text c.args.end (told r) r.records s.ended c.args.left.now o o' e e' at c.in-Whole.is c.if-self.false
    (full_told r c.requires.ready.stands c.journal.result.now c.journal.ensures.value (c.is_full.ensures.0 (search (rules, c.if-is_full.true)))) c.requires.no_line

pub returns-else-is_full-clause-judged : goal.returns-else-is_full-clause-judged
returns-else-is_full-clause-judged g c = λ text o o' e e' at.
    let s = c.args.self.now in
    let r = reached (g.E.Core.entries s.core) (g.E.Core.runs s.core) s.closing s.again in
    refused_at_end text c.args.end (told r) r.records s.ended c.args.left.now o o' e e' at s.lines c.in-Whole.is
    (λ closed. absurd (true-false (sym closed ∙ c.if-self.false)))
    (λ _ full. search (rules, c.is_full.ensures.1 (told_full r c.requires.ready.stands c.journal.result.now c.journal.ensures.value full), c.if-is_full.false)) c.requires.no_line c.requires.ready.counted
    c.status_of-in-Whole.result (c.status_of-in-Whole.ensures.refused refl)

pub returns-in-Failed-clause-judged : goal.returns-in-Failed-clause-judged
returns-in-Failed-clause-judged g c = λ text o o' e e' at.
    let s = c.args.self.now in
    let r = reached (g.E.Core.entries s.core) (g.E.Core.runs s.core) s.closing s.again in
    read_failed text c.args.end (told r) r.records s.ended c.args.left.now o o' e e' at c.in-Failed.is c.requires.no_line

pub returns-in-TooLong-clause-judged : goal.returns-in-TooLong-clause-judged
returns-in-TooLong-clause-judged g c = λ text o o' e e' at.
    let s = c.args.self.now in
    let r = reached (g.E.Core.entries s.core) (g.E.Core.runs s.core) s.closing s.again in
    too_long text c.args.end (told r) r.records s.ended c.args.left.now o o' e e' at c.in-TooLong.is c.requires.no_line
