use Rattle.std.proofs.Common.{ℕ, ◌≡◌, ◌∙◌, ap, sym, subst}
use Rattle.yaml_scan.specs.Answers.{Gives}
use Rattle.conf_field.specs.declared.key.Key.{Key}
use Rattle.conf_field.specs.Readings.{Read, both}
use Rattle.conf_field.specs.Spans.{part, or_zero, total}
use Rattle.conf_field.specs.Capped.{at_cap, bounded}
use Rattle.conf_field.proofs.SpanSums.{parts_capped}
use Rattle.conf_field.proofs.spans.parts.Goals as goal

pub returns : goal.returns
returns c =
    let line = c.args.line in
    let pairs = c.args.pairs.now in
    let d = part Key.Days pairs in
    let h = part Key.Hours pairs in
    let m = part Key.Minutes pairs in
    let s = part Key.Seconds pairs in
    let ms = part Key.Milliseconds pairs in
    let Sum : ℕ → Type 0 = λ n. Gives (bounded line n) c.bounded.result in
    let Told-days : Read ℕ → Type 0 = λ r. Gives r c.told-3.result in
    let Told-hours : Read ℕ → Type 0 = λ r. Gives r c.told-4.result in
    let Told-minutes : Read ℕ → Type 0 = λ r. Gives r c.told-5.result in
    let Told-seconds : Read ℕ → Type 0 = λ r. Gives r c.told.result in
    let Told-milliseconds : Read ℕ → Type 0 = λ r. Gives r c.told-2.result in
    let Whole : Read ℕ → Type 0 = λ r. Gives r c.first.result in
    let weighed = total (or_zero (at_cap d)) (or_zero (at_cap h)) (or_zero (at_cap m)) (or_zero (at_cap s)) (or_zero (at_cap ms)) in
    let sum : c.total-sum.result ≡ weighed =
    c.total-sum.ensures
    ∙ (λ k. total ((c.weight.ensures.value ∙ ap or_zero c.part-days.ensures.value) k) ((c.weight-2.ensures.value ∙ ap or_zero c.part-hours.ensures.value) k)
    ((c.weight-3.ensures.value ∙ ap or_zero c.part-minutes.ensures.value) k) ((c.weight-4.ensures.value ∙ ap or_zero c.part-seconds.ensures.value) k)
    ((c.weight-5.ensures.value ∙ ap or_zero c.part-milliseconds.ensures.value) k)) in
    let last = both (at_cap s) (at_cap ms) in
    let from-minutes = both (at_cap m) last in
    let from-hours = both (at_cap h) from-minutes in
    let rest = both (at_cap d) from-hours in
    subst Whole (sym (parts_capped line d h m s ms))
    (c.first.ensures (both (bounded line weighed) rest)
    (c.both-3.ensures (bounded line weighed) rest (subst Sum sum c.bounded.ensures)
    (c.both-rest.ensures (at_cap d) from-hours (subst Told-days c.part-days.ensures.value c.told-3.ensures)
    (c.both-2.ensures (at_cap h) from-minutes (subst Told-hours c.part-hours.ensures.value c.told-4.ensures)
    (c.both.ensures (at_cap m) last (subst Told-minutes c.part-minutes.ensures.value c.told-5.ensures)
    (c.both-last.ensures (at_cap s) (at_cap ms) (subst Told-seconds c.part-seconds.ensures.value c.told.ensures)
    (subst Told-milliseconds c.part-milliseconds.ensures.value c.told-2.ensures)))))))
