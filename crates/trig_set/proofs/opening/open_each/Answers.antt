use Rattle.std.proofs.Common.{◌≡◌, ◌<◌, ◌+◌, ◌++◌, ◌∙◌, ℕ, [], ◌∷◌, append_assoc, arith, false, inl, inr, nat_eq, subst, sym}
use Rattle.std.specs.Prelude.{flat_map, slice_get}
use Rattle.std.proofs.lemmas.Bool.Decides.{eqb_tells, nat_tests}
use Rattle.ha_config.specs.Words.{up_to}
use Rattle.trig_set.specs.Queued.{HasDue}
use Rattle.trig_set.specs.Stands.{AtOwner, OwnerStands, firings_at}
use Rattle.trig_set.proofs.OwnersLemmas.{apart, at-along, fired-along, flat-up}
use Rattle.trig_set.proofs.opening.open_each.Goals as goal

earlier : (p n : ℕ) → n < (p + 1) → nat_eq p n ≡ false → n < p
earlier p n lt other = grind (arith, nat_tests, lt, other)

pub loop-place-preserved : goal.loop-place-preserved
loop-place-preserved g c =
    let init = c.args.owners.now in
    let now = c.loop-place.owners in
    let new = c.open_owner_at.new.owners in
    let p = c.loop-place.place in
    let inv = c.loop-place.invariant in
    let here : slice_get now p ≡ slice_get init p = inv.left p (omega arith) in
    record {
      stands = λ x boot sees all n lt. elim (eqb_tells p n) [
        | inl same ↦ subst (λ m. AtOwner new m (OwnerStands (x ∷ []))) same.1 (c.in_ok-open_owner_at.ensures.stands x boot sees (at-along (OwnerStands []) now init p here (all p)))
        | inr other ↦ at-along (OwnerStands (x ∷ [])) new now n (c.in_ok-open_owner_at.ensures.elsewhere n other.0) (inv.stands x boot sees all n (earlier p n lt other.0))
      ];
      left = λ n le. c.in_ok-open_owner_at.ensures.elsewhere n (apart p n le) ∙ inv.left n (omega (arith, le));
      queued = λ queue all n lt. elim (eqb_tells p n) [
        | inl same ↦ subst (λ m. AtOwner new m (HasDue queue)) same.1 (c.in_ok-open_owner_at.ensures.queued queue (at-along (HasDue queue) now init p here (all p)))
        | inr other ↦ at-along (HasDue queue) new now n (c.in_ok-open_owner_at.ensures.elsewhere n other.0) (inv.queued queue all n (earlier p n lt other.0))
      ];
      owners = c.open_owner_at.ensures.owners ∙ inv.owners;
      fired = λ x boot sees all.
          let f = firings_at [] x init in
          c.in_ok-open_owner_at.ensures.fired x boot sees (at-along (OwnerStands []) now init p here (all p))
          ∙ (λ i. inv.fired x boot sees all i ++ fired-along [] x now init p here i)
          ∙ append_assoc c.args.fired.now (flat_map f (up_to p)) (f p)
          ∙ (λ i. c.args.fired.now ++ sym (flat-up f p) i);
    }
