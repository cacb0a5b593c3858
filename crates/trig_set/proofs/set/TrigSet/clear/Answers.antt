use Rattle.std.proofs.Common.{refl, sym, subst, length, map}
use Rattle.trig_set.specs.Known.{AreKnown}
use Rattle.trig_set.specs.Noted.{AreNoted}
use Rattle.trig_set.specs.Queued.{HasDue}
use Rattle.trig_set.specs.Order.{owner_of}
use Rattle.trig_set.specs.Stands.{AllOwners, OwnerStands}
use Rattle.trig_set.proofs.set.TrigSet.clear.Goals as goal

pub returns-clause-stands : goal.returns-clause-stands
returns-clause-stands c j stands = record {
  owners = subst (λ l. AllOwners l (OwnerStands j)) (sym c.clear.ensures) (λ n. tt);
  known = subst (λ l. AreKnown c.clear-2.new.self (map owner_of l)) (sym c.clear.ensures) (record { ascend = refl; exact = c.clear-2.ensures });
  noted = subst (λ l. AreNoted c.clear-3.new.self (length j) (map owner_of l)) (sym c.clear.ensures) (c.clear-3.ensures (length j));
  queued = subst (λ l. AllOwners l (HasDue c.clear-4.new.self)) (sym c.clear.ensures) (λ n. tt);
  at = stands.at;
  zone = stands.zone;
  numbers = stands.numbers;
}
