use Rattle.std.proofs.Common.{◌≡◌, ◌+◌, ◌-◌, ◌<◌, length, ap, sym, subst, ◌∙◌, arith}
use Rattle.std.specs.Prelude.{◌^◌}
use Rattle.std.proofs.lemmas.Result.{IfOk-weaker}
use Rattle.ha_config.specs.declared.config.Config.{Config}
use Rattle.ha_config.proofs.ListLemmas.{some-same}
use Rattle.ha_journal.specs.Force.{IsAlike}
use Rattle.ha_journal.specs.Journal.{configured}
use Rattle.conf_reload.specs.Plan.{IsPlan}
use Rattle.unit_book.specs.Book.{config_at}
use Rattle.unit_book.proofs.BookLemmas.{alike-there}
use Rattle.ha_journal.proofs.MoreLemmas.{length-more}
use Rattle.ha_engine.proofs.ReloadLemmas.{numbers-below, numbers-whole}
use Rattle.ha_engine.proofs.reload.plan_last.Goals as goal

pub config_in-old-requires : goal.config_in-old-requires
config_in-old-requires c =
    let h = c.requires in
    let got = alike-there (configured h.s) (config_at c.args.journal.now c.args.book.now.latest) h.holds.config_is in
    (got.0, (λ i. config_at c.args.journal.now (c.latest.ensures i)) ∙ got.1)

pub config_in-new-requires : goal.config_in-new-requires
config_in-new-requires c =
    let h = c.requires in
    let at : length c.args.journal.now - 1 ≡ length h.j = omega (arith, ap length h.journal_is, length-more h.j h.x) in
    (h.new, (λ i. config_at c.args.journal.now (at i)) ∙ h.new_is)

pub plan-requires-clause-whole : goal.plan-requires-clause-whole
plan-requires-clause-whole c =
    let h = c.requires in
    let got = alike-there (configured h.s) (config_at c.args.journal.now c.args.book.now.latest) h.holds.config_is in
    let is : c.config_in-old.result.now ≡ got.0 = some-same c.config_in-old.result.now got.0 (sym c.config_in-old.ensures ∙ (λ i. config_at c.args.journal.now (c.latest.ensures i)) ∙ got.1) in
    numbers-whole h.s c.args.parts.now.numbers c.config_in-old.result.now h.numbers_are (subst (λ (o : Config). IsAlike o (configured h.s)) (sym is) got.2)

pub plan-requires-clause-below : goal.plan-requires-clause-below
plan-requires-clause-below c = (let h = c.requires in numbers-below h.s c.args.parts.now.numbers c.args.parts.now.free h.numbers_are h.free_is)

pub plan-requires-clause-room : goal.plan-requires-clause-room
plan-requires-clause-room c =
    let h = c.requires in
    let at : length c.args.journal.now - 1 ≡ length h.j = omega (arith, ap length h.journal_is, length-more h.j h.x) in
    let is : h.new ≡ c.config_in-new.result.now = some-same h.new c.config_in-new.result.now (sym h.new_is ∙ (λ i. config_at c.args.journal.now (sym at i)) ∙ c.config_in-new.ensures) in
    subst (λ (n : Config). c.args.parts.now.free + (length n.automations + length n.scripts) < 2 ^ 32) is h.room

pub returns : goal.returns
returns c =
    IfOk-weaker c.plan.result _ _
    (λ p planned old new one two. (let a : c.config_in-old.result.now ≡ old = some-same c.config_in-old.result.now old (sym c.config_in-old.ensures ∙ (λ i. config_at c.args.journal.now (c.latest.ensures i)) ∙ one) in
    let b : c.config_in-new.result.now ≡ new = some-same c.config_in-new.result.now new (sym c.config_in-new.ensures ∙ two) in
    subst (λ (n : Config). IsPlan old c.args.parts.now.numbers c.args.parts.now.free n p) b (subst (λ (o : Config). IsPlan o c.args.parts.now.numbers c.args.parts.now.free c.config_in-new.result.now p) a planned)))
    c.plan.ensures
