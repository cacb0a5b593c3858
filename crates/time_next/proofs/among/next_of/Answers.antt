use Rattle.std.proofs.Common.{◌≤◌, ℕ, zero, suc, List, [], ◌∷◌, length, arith, inl, inr, subst, Option, Some, None, MatchOption, slice_get}
use Rattle.std.proofs.lemmas.Bool.Decides.{eqb_tells, leb_tells}
use Rattle.ha_config.specs.declared.config.Trigger.{Trigger}
use Rattle.ha_config.specs.declared.config.TriggerRule.{TriggerRule}
use Rattle.time_next.specs.Next.{Sleeps}
use Rattle.time_next.proofs.among.next_of.Goals as goal

beyond : (P : Trigger → Type 0) (ts : List Trigger) (k : ℕ) → length ts ≤ k → MatchOption (slice_get ts k) (Unit {0}) P
beyond P [] k le = tt
beyond P (t ∷ ts) zero le = absurd (omega (arith, le))
beyond P (t ∷ ts) (suc k) le = beyond P ts k (omega (arith, le))

at-then : (P Q : TriggerRule → Type 0) (o : Option Trigger) → ((r : TriggerRule) → P r → Q r) → MatchOption o (Unit {0}) (λ t. P t.rule) → MatchOption o (Unit {0}) (λ t. Q t.rule)
at-then P Q None f h = tt
at-then P Q (Some t) f h = f t.rule h

pub loop-place-preserved : goal.loop-place-preserved
loop-place-preserved c =
    let zone = c.args.zone.now in
    let after = c.args.after in
    let new = c.earlier_at-next.result in
    record {
      asleep = λ k lt. elim (eqb_tells c.loop-place.place k) [
        | inl same ↦ subst (λ (n : ℕ). MatchOption (slice_get c.args.triggers.now n) (Unit {0}) (λ t. Sleeps zone after new t.rule)) same.1 c.earlier_at-next.ensures.own
        | inr other ↦ (let apart = other.1 in
            at-then (Sleeps zone after c.loop-place.next) (Sleeps zone after new) (slice_get c.args.triggers.now k) c.earlier_at-next.ensures.others (c.loop-place.invariant.asleep k (omega (arith, lt, apart))))
      ];
      later = c.earlier_at-next.ensures.later c.loop-place.invariant.later;
    }

pub returns-clause-asleep : goal.returns-clause-asleep
returns-clause-asleep c = λ k. elim (leb_tells (length c.args.triggers.now) k) [
  | inl over ↦ beyond (λ t. Sleeps c.args.zone.now c.args.after c.loop-place.next t.rule) c.args.triggers.now k over.1
  | inr within ↦ (let below = within.1 in c.loop-place.invariant.asleep k (omega (arith, below)))
]
