use Rattle.std.proofs.Common.{◌≡◌, sym, subst, ◌∙◌}
use Rattle.ha_journal.specs.declared.entry.Entry.{Entry}
use Rattle.ha_journal.specs.Force.{force}
use Rattle.ha_journal.specs.Journal.{Journal, more}
use Rattle.ha_model.specs.Lawful.{Right}
use Rattle.ha_whole.specs.Segments.{segment}
use Rattle.engine_parts.specs.Kept.{Kept}
use Rattle.engine_entry.specs.Stepping.{StepPushed}
use Rattle.trig_set.proofs.OnLemmas.{on-then}
use Rattle.unit_book.specs.Book.{Holds}
use Rattle.ha_engine.specs.Lies.{Lies}
use Rattle.ha_engine.specs.Named.{AreFirsts}
use Rattle.ha_engine.proofs.LieLemmas.{more-boot, more-few, more-front, more-seen}
use Rattle.ha_engine.proofs.advance.follow_made.Goals as goal

pub of_list-segment-requires-clause-boot : goal.of_list-segment-requires-clause-boot
of_list-segment-requires-clause-boot c = (let h = c.requires in more-boot h.j c.args.bounds h.lies c.args.journal.now h.x h.journal_is)

pub of_list-segment-requires-clause-few : goal.of_list-segment-requires-clause-few
of_list-segment-requires-clause-few c = (let h = c.requires in more-few h.j c.args.bounds h.lies c.args.journal.now h.x h.journal_is)

pub of_list-segment-requires-clause-front : goal.of_list-segment-requires-clause-front
of_list-segment-requires-clause-front c = (let h = c.requires in more-front h.j c.args.bounds h.lies c.args.journal.now h.x h.journal_is)

pub of_list-segment-requires-clause-held : goal.of_list-segment-requires-clause-held
of_list-segment-requires-clause-held c =
    let h = c.requires in
    record {
      j = h.j;
      x = h.x;
      journal_is = h.journal_is;
      holds = subst (λ (i : Journal). Holds c.args.journal.now (force i) c.args.book.now) (sym (more-seen h.j c.args.bounds h.lies c.args.journal.now h.x h.journal_is)) h.holds;
    }

pub follow_step-requires : goal.follow_step-requires
follow_step-requires c =
    let h = c.requires in
    let is : c.of_list-segment.result ≡ more (segment h.j) h.x = c.of_list-segment.ensures h.j h.x h.journal_is ∙ more-seen h.j c.args.bounds h.lies c.args.journal.now h.x h.journal_is in
    record {
      pushed = subst (λ (i : Journal). StepPushed i c.args.runs.now.list c.args.parts.now c.args.progress c.args.wait c.args.due) (sym is) h.pushed;
      named = subst (λ (i : Journal). AreFirsts i c.args.runs.now.firsts) (sym is) h.named;
    }

pub returns-clause-ok : goal.returns-clause-ok
returns-clause-ok c =
    on-then _ ((j : Journal) (x : Entry) → Lies j c.args.bounds → c.args.journal.now ≡ more j x → Right (more (segment j) x) c.follow_step.new.runs.list × Kept (more (segment j) x) c.follow_step.new.runs.list c.follow_step.new.parts) c.follow_step.result
    (λ h j x lies e. (let is : c.of_list-segment.result ≡ more (segment j) x = c.of_list-segment.ensures j x e ∙ more-seen j c.args.bounds lies c.args.journal.now x e in (
      subst (λ (i : Journal). Right i c.follow_step.new.runs.list) is h.0,
      subst (λ (i : Journal). Kept i c.follow_step.new.runs.list c.follow_step.new.parts) is h.1,
    ))) c.follow_step.ensures.ok
