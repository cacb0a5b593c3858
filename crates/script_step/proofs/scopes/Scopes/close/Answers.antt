use Rattle.std.proofs.Common.{◌≡◌, ◌-◌, ◌∙◌, sym, ap, arith, length, take}
use Rattle.ha_sight.specs.Scripts.{outer}
use Rattle.script_step.specs.Cuts.{cut, total}
use Rattle.script_step.proofs.CutLemmas.{cut-close, total-snoc, length-take}
use Rattle.script_step.proofs.scopes.Scopes.close.Goals as goal

pub overflow_sub-len : goal.overflow_sub-len
overflow_sub-len c = omega (arith, total-snoc c.pop.new.self c.in-Some.size, ap total c.in-Some.ensures, c.self.invariant, c.len.ensures)

pub invariant_of-self : goal.invariant_of-self
invariant_of-self c =
    let sum : length c.self.inside.pairs - c.in-Some.size ≡ total c.pop.new.self = omega (arith, total-snoc c.pop.new.self c.in-Some.size, ap total c.in-Some.ensures, c.self.invariant) in
    sym (ap length (c.truncate.ensures ∙ (λ i. take ((ap (λ n. n - c.in-Some.size) c.len.ensures ∙ sum) i) c.self.inside.pairs))
    ∙ length-take (total c.pop.new.self) c.self.inside.pairs (omega (arith, sum, c.self.invariant)))

pub returns-in-Some : goal.returns-in-Some
returns-in-Some c =
    let sum : length c.self.inside.pairs - c.in-Some.size ≡ total c.pop.new.self = omega (arith, total-snoc c.pop.new.self c.in-Some.size, ap total c.in-Some.ensures, c.self.invariant) in
    ap (cut c.pop.new.self) (c.truncate.ensures ∙ (λ i. take ((ap (λ n. n - c.in-Some.size) c.len.ensures ∙ sum) i) c.self.inside.pairs))
    ∙ sym (cut-close c.pop.new.self c.in-Some.size c.self.inside.pairs)
    ∙ ap outer (sym (ap (λ l. cut l c.self.inside.pairs) c.in-Some.ensures) ∙ c.self.view_is)
