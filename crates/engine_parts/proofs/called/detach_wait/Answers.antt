use Rattle.std.proofs.Common.{◌≡◌, ◌∙◌, ◌≤◌, ◌∷◌, [], ℕ, ap, subst, sym}
use Rattle.std.specs.Prelude.{Option, None, Some, option_map, option_to_list}
use Rattle.wait_set.specs.declared.asked.Asked.{Asked}
use Rattle.trig_set.specs.Stands.{attached}
use Rattle.engine_parts.specs.Pending.{AreOthers}
use Rattle.engine_parts.specs.Without.{without_owners}
use Rattle.engine_parts.specs.Runs.{first_wait}
use Rattle.engine_parts.proofs.called.detach_wait.Goals as goal

pub returns-in-Some-clause-owned : goal.returns-in-Some-clause-owned
returns-in-Some-clause-owned c j a w found low others owned =
    let is : Some c.in-Some.owner ≡ Some a.owner = sym c.in-Some.is ∙ c.owner_of.ensures ∙ ap (option_map (λ (x : Asked). x.owner)) found in
    let same : a.owner ≡ c.in-Some.owner = (let got = sym is in cc) in
    c.detach.ensures.owned j [] w (subst (λ n. first_wait ≤ n) same low) (subst (λ n. AreOthers (n ∷ []) w.asks) same others) owned

pub returns-in-None-clause-owned : goal.returns-in-None-clause-owned
returns-in-None-clause-owned c j a w found low others owned =
    absurd (let bad : ◌≡◌ {A = Option ℕ} None (Some a.owner) = sym c.in-None.is ∙ c.owner_of.ensures ∙ ap (option_map (λ (x : Asked). x.owner)) found in cc)

pub returns-in-Some-clause-rest : goal.returns-in-Some-clause-rest
returns-in-Some-clause-rest c =
    c.detach.ensures.rest ∙ ap (λ (o : Option ℕ). without_owners (option_to_list o) (attached c.args.triggers.now)) (sym c.in-Some.is ∙ c.owner_of.ensures)

pub returns-in-None-clause-rest : goal.returns-in-None-clause-rest
returns-in-None-clause-rest c = ap (λ (o : Option ℕ). without_owners (option_to_list o) (attached c.args.triggers.now)) (sym c.in-None.is ∙ c.owner_of.ensures)
