use Rattle.std.proofs.Common.{◌≡◌, ◌+◌, ◌<◌, ℕ, Bool, List, length, sym, ap, subst, ◌∙◌, arith}
use Rattle.ha_journal.specs.declared.entry.Entry.{Entry}
use Rattle.ha_journal.specs.declared.entry.Entry.TheVariants.{Step}
use Rattle.ha_sight.specs.declared.item.Item.{Item}
use Rattle.ha_config.specs.Numbered.{has_number}
use Rattle.ha_journal.specs.Journal.{in_force}
use Rattle.ha_journal.proofs.MoreLemmas.{length-more}
use Rattle.timer_queue.specs.Timers.{Timer}
use Rattle.trig_set.specs.Stands.{attached}
use Rattle.wait_set.specs.Asked.{WaitTable}
use Rattle.std.proofs.Common.{false}
use Rattle.std.specs.Prelude.{nat_eq}
use Rattle.std.specs.List.{list_any}
use Rattle.engine_parts.specs.Kept.{KeysBelow}
use Rattle.engine_entry.specs.Lasts.{AreLasts, knows}
use Rattle.engine_parts.specs.Owners.{AreBelow}
use Rattle.engine_parts.specs.Runs.{first_wait}
use Rattle.engine_entry.specs.Stepping.{IsTaken}
use Rattle.engine_entry.specs.Turned.{IsTurn, Target}
use Rattle.engine_entry.proofs.LastLemmas.{knows-force, switched-turn}
use Rattle.engine_entry.proofs.TakeLemmas.{none-early}
use Rattle.engine_entry.proofs.step_enter.enter_targets.Goals as goal

pub enter_switches-requires : goal.enter_switches-requires
enter_switches-requires c =
    let h = c.requires.here in
    let x : Entry = Step h.worker h.serial h.branch h.item in
    let lasts : AreLasts (has_number (in_force h.j)) c.args.targets.now c.in_ok-last.last.items
    = subst (λ (known : ℕ → Bool). AreLasts known c.args.targets.now c.in_ok-last.last.items) (knows-force h.j c.args.parts.now.switches h.sees.switches_stand)
    (subst (λ (l : List Target). AreLasts (knows c.args.parts.now.switches) l c.in_ok-last.last.items) c.as_slice.ensures c.in_ok-last.ensures) in
    let turn : IsTurn h.j x c.in_ok-last.last.items
    = subst (λ (i : Item). IsTurn h.j (Step h.worker h.serial h.branch i) c.in_ok-last.last.items) (sym c.requires.item_is) (switched-turn h.j h.worker h.serial h.branch c.args.targets.now c.in_ok-last.last.items h.some lasts) in
    record {
      j = h.j;
      x = x;
      journal_is = h.journal_is;
      journal = h.journal;
      turn = subst (λ (l : List Target). IsTurn h.j x l) (sym c.as_slice-2.ensures.value) turn;
      sees = h.sees;
      triggers_stand = h.triggers_stand;
      waits_stand = h.waits_stand;
      owned = h.owned;
      keys_early = h.keys_early;
    }

pub returns-clause-entered : goal.returns-clause-entered
returns-clause-entered c wait taken =
    let h = c.requires.here in
    let p = c.args.parts.now in
    let e = c.in_ok-before.ensures.entered in
    let size : length h.j ≡ length e.untold.j
    = omega (arith, ap length h.journal_is, length-more h.j (Step h.worker h.serial h.branch h.item), ap length e.untold.journal_is, length-more e.untold.j e.untold.x) in
    let waits : c.enter_switches.new.parts.waits ≡ p.waits = ap (λ q. q.waits) c.in_ok-before.ensures.rest in
    let delays : c.enter_switches.new.parts.delays ≡ p.delays = ap (λ q. q.delays) c.in_ok-before.ensures.rest in
    record {
      entered = e;
      here = ap length e.untold.journal_is ∙ length-more e.untold.j e.untold.x;
      room = subst (λ n. n < 1048576) size h.room;
      below = c.in_ok-before.ensures.below (first_wait + length e.untold.j) (omega arith) (subst (λ n. AreBelow (first_wait + n) (attached p.triggers)) size h.owned.early);
      early = subst (λ (w : WaitTable). list_any (λ a. nat_eq a.owner (first_wait + length e.untold.j)) w.asks ≡ false) (sym waits)
          (subst (λ n. list_any (λ a. nat_eq a.owner (first_wait + n)) p.waits.asks ≡ false) size (none-early (length h.j) (length h.j) (attached p.triggers) p.waits.asks (omega arith) h.owned.waits_owned));
      keys_early = subst (λ (l : List Timer). KeysBelow (length e.untold.j) l) (sym delays) (subst (λ n. KeysBelow n p.delays) size h.keys_early);
      taken = subst (λ (w : WaitTable). IsTaken wait w) (sym waits) taken;
    }
