use Rattle.std.proofs.Common.{◌≡◌, ◌-◌, ◌≤◌, List, true, sym, subst, ◌∙◌, arith, rules}
use Rattle.std.specs.Prelude.{if◌then◌else◌}
use Rattle.ha_journal.specs.declared.firing.Firing.{Firing}
use Rattle.ha_journal.specs.Attempts.{Attempt}
use Rattle.ha_engine.specs.Admits.{ArePassing}
use Rattle.engine_parts.specs.Owners.{attempt_by, attempts_by, is_attempt}
use Rattle.ha_engine.proofs.PrepareLemmas.{first-attempt, passing-next}
use Rattle.ha_engine.proofs.prepare.prepare_firing.Goals as goal

pub returns-clause-done : goal.returns-clause-done
returns-clause-done g c k fs seen known h =
    let f : Firing = c.args.firing in
    let on : is_attempt f ≡ true = sym c.is_attempt.ensures ∙ search (rules, c.if-not-is_attempt.false) in
    let some : 1 ≤ c.args.left = subst (λ b. (if b then 1 else 0) ≤ c.args.left) on c.requires.left in
    subst (λ (l : List Attempt). ArePassing k (c.args.left - 1) l c.prepare_one.new.stack.items) (sym (first-attempt f fs on))
    (passing-next k (c.args.left - 1) c.args.left (attempt_by f) (attempts_by fs) c.args.stack.now.items c.prepare_one.new.stack.items (omega (arith, some)) (c.in_ok-prepare_one.ensures k seen known) h)
