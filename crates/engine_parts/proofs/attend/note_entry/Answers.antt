use Rattle.std.proofs.Common.{◌-◌, ◌∙◌, length, take, ap, subst, sym}
use Rattle.ha_journal.specs.Journal.{automations}
use Rattle.ha_journal.proofs.MoreLemmas.{has-entry}
use Rattle.trig_set.specs.Stands.{attached}
use Rattle.engine_parts.specs.declared.parts.Parts.{Parts}
use Rattle.engine_parts.specs.Owners.{attempts_by, ordered}
use Rattle.engine_parts.specs.Sorted.{AreSorted}
use Rattle.engine_parts.proofs.OrderLemmas.{attempts-last}
use Rattle.engine_parts.proofs.SortedLemmas.{firings-sorted}
use Rattle.engine_parts.proofs.ViewLemmas.{rules-first, rules-numbered}
use Rattle.engine_parts.proofs.attend.note_entry.Goals as goal

pub returns-clause-noted : goal.returns-clause-noted
returns-clause-noted c = c.in_ok-fired.ensures.noted

pub ordered-requires-clause-numbered : goal.ordered-requires-clause-numbered
ordered-requires-clause-numbered c =
    rules-numbered c.args.journal.now c.note_parts.new.parts.numbers (ap (λ (p : Parts). p.numbers) c.in_ok-fired.ensures.rest ∙ c.requires.sees.looks.numbers_are)

pub ordered-requires-clause-sorted : goal.ordered-requires-clause-sorted
ordered-requires-clause-sorted c =
    let k = c.args.journal.now in
    subst (AreSorted 0) (sym c.in_ok-fired.ensures.fired) (firings-sorted k (length k - 1) 0 (attached c.args.parts.now.triggers) c.requires.untold.owned.ascend)

pub returns-clause-fired : goal.returns-clause-fired
returns-clause-fired c =
    let k = c.args.journal.now in
    let named = ap (λ (p : Parts). p.numbers) c.in_ok-fired.ensures.rest ∙ c.requires.sees.looks.numbers_are in
    let flag = ap (λ (p : Parts). p.ascending) c.in_ok-fired.ensures.rest ∙ c.requires.sees.ascending_is in
    let owned = c.requires.untold.owned in
    ap attempts_by (c.in_ok-made.ensures ∙ (λ i. ordered c.note_parts.new.parts.ascending (take (length (automations k)) c.note_parts.new.parts.numbers) (c.in_ok-fired.ensures.fired i)))
    ∙ attempts-last k (attached c.args.parts.now.triggers) c.note_parts.new.parts.ascending (take (length (automations k)) c.note_parts.new.parts.numbers)
    (has-entry k c.requires.untold.journal) c.requires.sees.few owned.ascend owned.automations_attached flag (rules-first k c.note_parts.new.parts.numbers named)
