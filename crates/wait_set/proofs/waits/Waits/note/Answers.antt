use Rattle.std.proofs.Common.{sym, subst}
use Rattle.ha_journal.specs.Journal.{more}
use Rattle.wait_set.specs.Stands.{StandsFor}
use Rattle.std.proofs.Common.{◌∙◌, ap, ◌||◌, ◌++◌, All, nat_eq, is_some}
use Rattle.std.specs.List.{list_any}
use Rattle.wait_set.specs.Asked.{WaitTable, end_of, owners_ended}
use Rattle.wait_set.specs.Concern.{has}
use Rattle.wait_set.specs.Tested.{TestedOrQuiet}
use Rattle.wait_set.proofs.FreshLemmas.{fresh-tells}
use Rattle.wait_set.proofs.StandsLaws.{noted-stands}
use Rattle.wait_set.proofs.waits.Waits.note.Goals as goal

pub note_entry-requires-clause-quiet : goal.note_entry-requires-clause-quiet
note_entry-requires-clause-quiet g c =
    subst (λ (w : WaitTable). All (TestedOrQuiet (g.A.Answers.sight c.args.answers.now) (has c.args.tested.now)) w.asks) (sym c.self.view_is) c.requires.quiet

pub returns-clause-stands : goal.returns-clause-stands
returns-clause-stands g c =
    rw (← c.self.view_is) (λ j x stands next. subst (λ a. StandsFor a (more j x)) (sym c.in_ok-note_entry.ensures.ok) (noted-stands j x c.args.place (g.A.Answers.sight c.args.answers.now) c.args.fired.now c.self.inside.asks.items stands next))

pub returns-clause-told : goal.returns-clause-told
returns-clause-told g c =
    rw (← c.self.view_is) (λ serial branch a got.
    ap (λ asks. is_some (end_of asks serial branch)) c.in_ok-note_entry.ensures.ok
    ∙ fresh-tells c.args.place (g.A.Answers.sight c.args.answers.now) c.args.fired.now serial branch c.self.inside.asks.items a c.self.invariant.timed.apart got
    ∙ (λ i. is_some (end_of c.self.inside.asks.items serial branch) || list_any (nat_eq a.owner) (sym (c.in_ok-note_entry.ensures.fresh ∙ (λ k. c.clear.ensures.items k ++ owners_ended c.args.place (g.A.Answers.sight c.args.answers.now) c.args.fired.now c.self.inside.asks.items)) i)))
