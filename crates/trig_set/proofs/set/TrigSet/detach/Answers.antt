use Rattle.std.proofs.Common.{sym, subst, length}
use Rattle.trig_set.specs.Known.{AreKnown}
use Rattle.trig_set.specs.Queued.{HasDue}
use Rattle.trig_set.specs.Noted.{AreNoted}
use Rattle.trig_set.specs.Stands.{AllOwners, attached}
use Rattle.trig_set.proofs.NotedLemmas.{noted-without}
use Rattle.trig_set.proofs.SetLemmas.{reads-of}
use Rattle.trig_set.proofs.set.TrigSet.detach.Goals as goal

pub returns-clause-stands : goal.returns-clause-stands
returns-clause-stands c j stands = record {
  owners = c.take_out.ensures.stands j stands.owners;
  known = subst (AreKnown c.unlist.new.index) (sym c.take_out.ensures.rest) (c.unlist.ensures (λ n. reads-of c.args.self.now.owners j stands.owners n) stands.known);
  noted = subst (AreNoted c.args.self.now.recent (length j)) (sym c.take_out.ensures.rest) (noted-without c.args.self.now.recent (length j) c.args.owner (attached c.args.self.now) stands.noted);
  queued = subst (λ q. AllOwners c.take_out.new.self (HasDue q)) (sym c.remove.ensures.rest) (c.take_out.ensures.queued c.args.self.now.queue stands.queued);
  at = stands.at;
  zone = stands.zone;
  numbers = stands.numbers;
}
