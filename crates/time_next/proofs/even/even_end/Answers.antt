use Rattle.std.proofs.Common.{◌≡◌, ◌∙◌, ◌+◌, ◌*◌, Bool, true, false, ap, sym, subst, List, ℕ}
use Rattle.std.specs.Prelude.{IsSome}
use Rattle.jiff_tz.specs.PosixReader.{read_whole}
use Rattle.jiff_tz.specs.PosixText.{tz_view}
use Rattle.time_next.specs.Next.{is_steady}
use Rattle.time_next.proofs.ZoneLemmas.{rule-read, rule-same, steady-same}
use Rattle.time_next.proofs.even.even_end.Goals as goal

pub returns-then-is_steady-clause-even : goal.returns-then-is_steady-clause-even
returns-then-is_steady-clause-even c = λ k less.
    steady-same c.args.zone.now (sym c.is_steady.ensures ∙ c.if-is_steady.true) ((c.args.first + k) * 1000) (c.args.first * 1000)

pub returns-clause-even : goal.returns-clause-even
returns-clause-even c = λ k less.
    let other : is_steady c.args.zone.now ≡ false = sym c.is_steady.ensures ∙ c.if-is_steady.false in
    rule-same c.args.zone.now (tz_view c.in-Ok.rule) c.args.first k other (sym (ap read_whole c.text.ensures.text) ∙ c.in-Ok.ensures.value) (c.change_behind.ensures.even k less)

pub returns-clause-steady : goal.returns-clause-steady
returns-clause-steady c = λ steady.
    let bad : ◌≡◌ {A = Bool} true false = sym steady ∙ sym c.is_steady.ensures ∙ c.if-is_steady.false in
    absurd (cc)

pub unreachable-requires : goal.unreachable-requires
unreachable-requires c =
    let other : is_steady c.args.zone.now ≡ false = sym c.is_steady.ensures ∙ c.if-is_steady.false in
    let read = rule-read c.args.zone.now other c.text.ensures.named in
    let none = c.in-Err.ensures.succeeds.1 (subst (λ (t : List ℕ). IsSome (read_whole t)) (sym c.text.ensures.text) read) in
    let bad : ◌≡◌ {A = Bool} false true = none in
    cc
