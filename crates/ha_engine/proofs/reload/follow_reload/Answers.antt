use Rattle.std.proofs.Common.{◌≡◌, ◌-◌, sym, subst, ◌∙◌}
use Rattle.ha_config.specs.declared.config.Config.{Config}
use Rattle.ha_config.proofs.ListLemmas.{some-same}
use Rattle.ha_journal.specs.Force.{IsAlike}
use Rattle.ha_journal.specs.Journal.{Journal, configured, names}
use Rattle.ha_model.specs.Lawful.{Right}
use Rattle.ha_model.specs.Records.{Records}
use Rattle.conf_reload.specs.Plan.{IsPlan}
use Rattle.segment_runs.specs.Segment.{number_at}
use Rattle.unit_book.specs.Book.{config_at, firsts_of}
use Rattle.engine_parts.specs.Kept.{Kept}
use Rattle.engine_parts.specs.Numbers.{AreFew}
use Rattle.trig_set.proofs.OnLemmas.{on-any-err}
use Rattle.ha_engine.proofs.LieLemmas.{more-boot, more-few, more-front, more-seen}
use Rattle.ha_engine.proofs.PartedLemmas.{parted-all}
use Rattle.ha_engine.proofs.ReloadLemmas.{before, behind, brings, enters, fair-s, few-s, holds-next, last-is-j, line, new-there, next-firsts, old-there, plans, seen-k}
use Rattle.ha_engine.proofs.ReloadTable.{enters-numbers}
use Rattle.ha_engine.proofs.reload.follow_reload.Goals as goal

pub plan_last-requires : goal.plan_last-requires
plan_last-requires c = plans c.args.journal.now c.args.bounds c.args.book.now c.args.runs.now c.args.parts.now c.args.lasts.now c.requires

pub next_of-requires : goal.next_of-requires
next_of-requires c =
    let k : Journal = c.args.journal.now in
    let h = c.requires in
    let old = old-there k c.args.bounds c.args.book.now c.args.runs.now c.args.parts.now c.args.lasts.now h in
    let new = (λ i. config_at k (last-is-j k c.args.bounds c.args.book.now c.args.runs.now c.args.parts.now c.args.lasts.now h i)) ∙ new-there k c.args.bounds c.args.book.now c.args.runs.now c.args.parts.now c.args.lasts.now h in
    brings k c.args.bounds c.args.book.now c.args.runs.now c.args.parts.now c.args.lasts.now h old.0 c.in_ok-plan.plan old.2 (c.in_ok-plan.ensures old.0 h.config old.1 new)

pub enter_units-requires : goal.enter_units-requires
enter_units-requires c =
    let k : Journal = c.args.journal.now in
    let h = c.requires in
    let old = old-there k c.args.bounds c.args.book.now c.args.runs.now c.args.parts.now c.args.lasts.now h in
    let new = (λ i. config_at k (last-is-j k c.args.bounds c.args.book.now c.args.runs.now c.args.parts.now c.args.lasts.now h i)) ∙ new-there k c.args.bounds c.args.book.now c.args.runs.now c.args.parts.now c.args.lasts.now h in
    let brought = brings k c.args.bounds c.args.book.now c.args.runs.now c.args.parts.now c.args.lasts.now h old.0 c.in_ok-plan.plan old.2 (c.in_ok-plan.ensures old.0 h.config old.1 new) in
    enters k c.args.bounds c.args.book.now c.args.runs.now c.args.parts.now c.args.lasts.now h c.in_ok-next.next.book (c.in_ok-next.ensures.holds brought)

pub of_list-segment-requires-clause-boot : goal.of_list-segment-requires-clause-boot
of_list-segment-requires-clause-boot c = (let h = c.requires in more-boot h.j c.args.bounds h.told.lies c.args.journal.now _ h.journal_is)

pub of_list-segment-requires-clause-few : goal.of_list-segment-requires-clause-few
of_list-segment-requires-clause-few c = (let h = c.requires in more-few h.j c.args.bounds h.told.lies c.args.journal.now _ h.journal_is)

pub of_list-segment-requires-clause-front : goal.of_list-segment-requires-clause-front
of_list-segment-requires-clause-front c = (let h = c.requires in more-front h.j c.args.bounds h.told.lies c.args.journal.now _ h.journal_is)

pub of_list-segment-requires-clause-held : goal.of_list-segment-requires-clause-held
of_list-segment-requires-clause-held c =
    let k : Journal = c.args.journal.now in
    let h = c.requires in
    let old = old-there k c.args.bounds c.args.book.now c.args.runs.now c.args.parts.now c.args.lasts.now h in
    let new = (λ i. config_at k (last-is-j k c.args.bounds c.args.book.now c.args.runs.now c.args.parts.now c.args.lasts.now h i)) ∙ new-there k c.args.bounds c.args.book.now c.args.runs.now c.args.parts.now c.args.lasts.now h in
    let brought = brings k c.args.bounds c.args.book.now c.args.runs.now c.args.parts.now c.args.lasts.now h old.0 c.in_ok-plan.plan old.2 (c.in_ok-plan.ensures old.0 h.config old.1 new) in
    seen-k k c.args.bounds c.args.book.now c.args.runs.now c.args.parts.now c.args.lasts.now h c.in_ok-next.next.book (c.in_ok-next.ensures.holds brought)

pub config_in-old-requires : goal.config_in-old-requires
config_in-old-requires c =
    let old = old-there c.args.journal.now c.args.bounds c.args.book.now c.args.runs.now c.args.parts.now c.args.lasts.now c.requires in
    (old.0, (λ i. config_at c.args.journal.now (c.latest.ensures i)) ∙ old.1)

pub follow_entered-requires-clause-entering : goal.follow_entered-requires-clause-entering
follow_entered-requires-clause-entering c =
    let k : Journal = c.args.journal.now in
    let h = c.requires in
    let b = c.args.bounds in
    let u = c.args.book.now in
    let t = c.args.runs.now in
    let p = c.args.parts.now in
    let ls = c.args.lasts.now in
    let old = old-there k b u t p ls h in
    let new = (λ i. config_at k (last-is-j k b u t p ls h i)) ∙ new-there k b u t p ls h in
    let is : c.config_in-old.result.now ≡ old.0 = some-same c.config_in-old.result.now old.0 (sym c.config_in-old.ensures ∙ (λ i. config_at k (c.latest.ensures i)) ∙ old.1) in
    let seen : c.of_list-segment.result ≡ behind k b u t p ls h = c.of_list-segment.ensures h.j (line k b u t p ls h) h.journal_is ∙ more-seen h.j b h.told.lies k (line k b u t p ls h) h.journal_is in
    record {
      j = before k b u t p ls h;
      source = h.source;
      number = h.number;
      text = h.text;
      config = h.config;
      journal_is = seen;
      known = h.known;
      fair = fair-s k b u t p ls h;
      sound = h.sound;
      few = subst AreFew (sym seen) (few-s k b u t p ls h);
      old_is = subst (λ (o : Config). IsAlike o (configured (before k b u t p ls h))) (sym is) old.2;
      planned = subst (λ (o : Config). IsPlan o p.numbers p.free h.config c.in_ok-plan.plan) (sym is) (c.in_ok-plan.ensures old.0 h.config old.1 new);
      right = subst (λ (l : Records). Right (before k b u t p ls h) l) (sym c.enter_units.ensures.list) h.told.own_right;
      kept = subst (λ (l : Records). Kept (before k b u t p ls h) l p) (sym c.enter_units.ensures.list) h.kept;
    }

pub follow_entered-requires-clause-named : goal.follow_entered-requires-clause-named
follow_entered-requires-clause-named c =
    let k : Journal = c.args.journal.now in
    let h = c.requires in
    let b = c.args.bounds in
    let u = c.args.book.now in
    let t = c.args.runs.now in
    let p = c.args.parts.now in
    let ls = c.args.lasts.now in
    let old = old-there k b u t p ls h in
    let new = (λ i. config_at k (last-is-j k b u t p ls h i)) ∙ new-there k b u t p ls h in
    let brought = brings k b u t p ls h old.0 c.in_ok-plan.plan old.2 (c.in_ok-plan.ensures old.0 h.config old.1 new) in
    let seen : c.of_list-segment.result ≡ behind k b u t p ls h = c.of_list-segment.ensures h.j (line k b u t p ls h) h.journal_is ∙ more-seen h.j b h.told.lies k (line k b u t p ls h) h.journal_is in
    c.in_ok-enter_units.ensures.ok.firsts_are ∙ next-firsts k b u t p ls h c.in_ok-next.next.book (c.in_ok-next.ensures.holds brought) ∙ (λ i. firsts_of (names (sym seen i)))

pub returns-clause-ok : goal.returns-clause-ok
returns-clause-ok c h =
    let k : Journal = c.args.journal.now in
    let b = c.args.bounds in
    let u = c.args.book.now in
    let t = c.args.runs.now in
    let p = c.args.parts.now in
    let ls = c.args.lasts.now in
    let old = old-there k b u t p ls h in
    let new = (λ i. config_at k (last-is-j k b u t p ls h i)) ∙ new-there k b u t p ls h in
    let brought = brings k b u t p ls h old.0 c.in_ok-plan.plan old.2 (c.in_ok-plan.ensures old.0 h.config old.1 new) in
    let holds = c.in_ok-next.ensures.holds brought in
    let seen : c.of_list-segment.result ≡ behind k b u t p ls h = c.of_list-segment.ensures h.j (line k b u t p ls h) h.journal_is ∙ more-seen h.j b h.told.lies k (line k b u t p ls h) h.journal_is in
    record {
      right = subst (λ (i : Journal). Right i c.follow_entered.new.runs.list) seen c.in_ok-follow_entered.ensures.ok.0;
      kept = subst (λ (i : Journal). Kept i c.follow_entered.new.runs.list c.follow_entered.new.parts) seen c.in_ok-follow_entered.ensures.ok.1;
      holds = holds-next k b u t p ls h c.in_ok-next.next.book holds;
      firsts_are = c.follow_entered.ensures.firsts ∙ c.in_ok-enter_units.ensures.ok.firsts_are;
      order_is = c.in_ok-next.ensures.order_is brought;
      lasts_are = c.in_ok-next.ensures.lasts_are brought;
      numbers = (λ i. (c.follow_entered.ensures.closed i).numbers) ∙ c.in_ok-enter_units.ensures.ok.numbers (enters k b u t p ls h c.in_ok-next.next.book holds);
    }

pub returns-in_err-follow_entered-clause-numbers : goal.returns-in_err-follow_entered-clause-numbers
returns-in_err-follow_entered-clause-numbers c =
    let k : Journal = c.args.journal.now in
    let h = c.requires in
    let b = c.args.bounds in
    let u = c.args.book.now in
    let t = c.args.runs.now in
    let p = c.args.parts.now in
    let ls = c.args.lasts.now in
    let old = old-there k b u t p ls h in
    let new = (λ i. config_at k (last-is-j k b u t p ls h i)) ∙ new-there k b u t p ls h in
    let brought = brings k b u t p ls h old.0 c.in_ok-plan.plan old.2 (c.in_ok-plan.ensures old.0 h.config old.1 new) in
    let entered = enters k b u t p ls h c.in_ok-next.next.book (c.in_ok-next.ensures.holds brought) in
    let are = (λ m. (c.follow_entered.ensures.closed m).numbers) ∙ c.in_ok-enter_units.ensures.ok.numbers entered in
    on-any-err _ c.from_residual-in_err-follow_entered.result (λ a lt. (λ i. number_at (are i) a) ∙ sym (enters-numbers k b c.in_ok-next.next.book t entered a lt))

pub returns-in_err-follow_entered-clause-all : goal.returns-in_err-follow_entered-clause-all
returns-in_err-follow_entered-clause-all c =
    let k : Journal = c.args.journal.now in
    let h = c.requires in
    let b = c.args.bounds in
    let u = c.args.book.now in
    let t = c.args.runs.now in
    let p = c.args.parts.now in
    let ls = c.args.lasts.now in
    let old = old-there k b u t p ls h in
    let new = (λ i. config_at k (last-is-j k b u t p ls h i)) ∙ new-there k b u t p ls h in
    let brought = brings k b u t p ls h old.0 c.in_ok-plan.plan old.2 (c.in_ok-plan.ensures old.0 h.config old.1 new) in
    let entered = enters k b u t p ls h c.in_ok-next.next.book (c.in_ok-next.ensures.holds brought) in
    let are = (λ m. (c.follow_entered.ensures.closed m).numbers) ∙ c.in_ok-enter_units.ensures.ok.numbers entered in
    on-any-err _ c.from_residual-in_err-follow_entered.result
    (parted-all h.j b u t c.follow_entered.new.runs h.told h.firsts_are (c.in_err-follow_entered.ensures.err ∙ c.enter_units.ensures.list)
    ((λ m. (c.follow_entered.ensures.closed m).records) ∙ c.in_ok-enter_units.ensures.ok.records)
    ((λ m. (c.follow_entered.ensures.closed m).entries) ∙ c.in_ok-enter_units.ensures.ok.entries)
    (λ a lt. (λ i. number_at (are i) a) ∙ sym (enters-numbers k b c.in_ok-next.next.book t entered a lt)))
