use Rattle.std.proofs.Common.{◌≡◌, ℕ, ◌-◌, List, [], length, Bool, false, sym, ap, subst, ◌∙◌, arith}
use Rattle.ha_config.specs.declared.config.Config.{Config}
use Rattle.ha_journal.specs.declared.event.BusEvent.{BusEvent}
use Rattle.ha_journal.specs.Force.{IsAlike}
use Rattle.ha_journal.specs.Journal.{Journal, configured, last_place}
use Rattle.ha_journal.proofs.ForceLaws.{configured-more}
use Rattle.ha_journal.proofs.MoreLemmas.{length-more}
use Rattle.trig_set.specs.Next.{Listed}
use Rattle.engine_parts.specs.declared.parts.Parts.{Parts}
use Rattle.engine_entry.specs.Between.{Between, Turning, TurnsAll}
use Rattle.engine_parts.specs.Stages.{Entered}
use Rattle.engine_entry.specs.Turned.{is_target}
use Rattle.engine_entry.proofs.TurnedParts.{turning-begins, turning-ends}
use Rattle.engine_entry.proofs.turn.enter_switches.Goals as goal

abbrev begun : (k : Journal) (targets : List (ℕ × Bool × Bool)) (p : Parts) (h : Turning k targets p) (config : Config) → IsAlike config (configured k) → (before : Listed) → before ≡ []
    → (place : ℕ) → place ≡ last_place k → (v : List BusEvent) → TurnsAll config targets place (record p { given = v; changed = false }) before
begun k targets p h config config_is before none place place_is v = record {
  j = h.j;
  x = h.x;
  only = h.turn.only;
  sound = h.sees.sound;
  few = h.sees.few;
  config_is = subst (IsAlike config) (ap (λ (i : Journal). configured i) h.journal_is ∙ sym (configured-more h.j h.x h.turn.only.some h.turn.only.reloads)) config_is;
  numbers_are = h.sees.looks.numbers_are;
  at = omega (arith, place_is, ap length h.journal_is, length-more h.j h.x);
  once = h.turn.once;
  set = h.turn.set;
  between = subst (λ (l : Listed). Between h.j h.x (is_target targets) (record p { given = v; changed = false }) l) (sym none) (turning-begins k targets p h v);
}

pub turn_all-requires : goal.turn_all-requires
turn_all-requires c = begun c.args.journal.now c.args.targets.now c.args.parts.now c.requires c.configuration.result.now c.configuration.ensures.configured c.make-before.result c.make-before.ensures c.place.result c.place.ensures.place c.make.result

pub returns-clause-entered : goal.returns-clause-entered
returns-clause-entered c =
    let p : Parts = c.args.parts.now in
    let q : Parts = c.turn_all.new.parts in
    let h : TurnsAll c.configuration.result.now c.args.targets.now c.place.result (record p { given = c.make.result; changed = false }) c.make-before.result
    = begun c.args.journal.now c.args.targets.now p c.requires c.configuration.result.now c.configuration.ensures.configured c.make-before.result c.make-before.ensures c.place.result c.place.ensures.place c.make.result in
    let rest : q ≡ record p { switches = q.switches; states = q.states; triggers = q.triggers; given = c.make.result; changed = q.changed } = c.in_ok-turn_all.ensures.rest in
    subst (λ (r : Parts). Entered c.args.journal.now r c.turn_all.new.before) (sym rest)
    (turning-ends c.args.journal.now c.args.targets.now p c.requires q.switches q.states q.triggers c.make.result q.changed c.turn_all.new.before c.make.ensures
    (subst (λ (r : Parts). Between c.requires.j c.requires.x (is_target []) r c.turn_all.new.before) rest (c.in_ok-turn_all.ensures.turned h)))
