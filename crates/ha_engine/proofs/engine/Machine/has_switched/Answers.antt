use Rattle.std.proofs.Common.{◌≡◌, ◌+◌, suc, length, true, false, sym, ap, ◌∙◌, rules, arith}
use Rattle.ha_journal.specs.Entries.{is_reload}
use Rattle.ha_journal.specs.Journal.{Journal}
use Rattle.ha_model.specs.Records.{last_is}
use Rattle.ha_whole.specs.Segments.{front}
use Rattle.ha_engine.specs.Core.{Core}
use Rattle.ha_engine.specs.Noted.{changes_switches}
use Rattle.ha_engine.proofs.ChangeLemmas.{changes-inside, last-inside}
use Rattle.ha_engine.proofs.LieLemmas.{lies-front}
use Rattle.ha_engine.proofs.engine.Machine.has_switched.Goals as goal

pub overflow_add-opening : goal.overflow_add-opening
overflow_add-opening c =
    let j : Journal = c.self.inside.journal.items in
    let lies = c.self.invariant.told.lies in
    omega (arith, lies-front j c.self.inside.bounds lies, lies.few)

pub returns-then-opening : goal.returns-then-opening
returns-then-opening c =
    let j : Journal = c.self.inside.journal.items in
    let told = c.self.invariant.told in
    let followed = c.self.invariant.followed (ap (λ (v : Core). v.is_spent) c.self.view_is ∙ c.requires.kept) in
    let at : c.len.result ≡ c.self.inside.bounds.front + 1 = search (rules, c.if-opening.true) in
    sym (followed.reset_is (omega (arith, at, c.len.ensures, c.self.inside.journal.ok.0, told.lies.front_is))) ∙ ap (λ (v : Core). changes_switches v.entries) c.self.view_is

pub returns-else-opening : goal.returns-else-opening
returns-else-opening c =
    let j : Journal = c.self.inside.journal.items in
    let told = c.self.invariant.told in
    let followed = c.self.invariant.followed (ap (λ (v : Core). v.is_spent) c.self.view_is ∙ c.requires.kept) in
    let apart : c.len.result ≡ c.self.inside.bounds.front + 1 → ⊥ = search (rules, c.if-opening.false) in
    let plain = ap (λ (v : Core). last_is is_reload v.entries) c.self.view_is ∙ c.requires.plain in
    let inner : length j ≡ suc (front j) → ⊥ = λ e. apart (omega (arith, e, c.len.ensures, c.self.inside.journal.ok.0, told.lies.front_is)) in
    followed.kept.going.sees.changed_is (last-inside j told.lies.entries inner plain)
    ∙ sym (changes-inside j told.lies.entries inner plain)
    ∙ ap (λ (v : Core). changes_switches v.entries) c.self.view_is
