use Rattle.std.proofs.Common.{◌≡◌, ◌∙◌, List, length, sym, ap, arith}
use Rattle.std.specs.Prelude.{Some, slice_get}
use Rattle.ha_config.specs.declared.config.Automation.{Automation}
use Rattle.ha_journal.specs.Journal.{automations, more}
use Rattle.engine_entry.proofs.NamedLemmas.{read-here}
use Rattle.engine_entry.proofs.OpenLemmas.{open-end, opened-known}
use Rattle.engine_entry.proofs.open.open_all.Goals as goal

pub open_one-requires : goal.open_one-requires
open_one-requires c =
    let h = c.requires in
    let here : slice_get (automations (more h.j h.x)) c.rules.at ≡ Some c.index-rules-at.result
    = ap (λ (l : List Automation). slice_get l c.rules.at) (sym h.all_are) ∙ read-here c.args.rules.now c.rules.at c.index-rules-at.result c.index-rules-at.result c.rules-test.true c.index-rules-at.is in
    record {
      j = h.j;
      x = h.x;
      opens = h.opens;
      numbered = h.numbered;
      sound = h.sound;
      here = here;
      on_is = sym (c.on_of-on.ensures (more h.j h.x) h.switches_stand (opened-known (more h.j h.x) h.numbered c.rules.at c.index-rules-at.result here));
      place_is = h.place_is;
      at_is = h.at_is;
      opened = c.rules.invariant h;
    }

pub rules-preserved : goal.rules-preserved
rules-preserved c h =
    let here : slice_get (automations (more h.j h.x)) c.rules.at ≡ Some c.index-rules-at.result
    = ap (λ (l : List Automation). slice_get l c.rules.at) (sym h.all_are) ∙ read-here c.args.rules.now c.rules.at c.index-rules-at.result c.index-rules-at.result c.rules-test.true c.index-rules-at.is in
    c.in_ok-open_one.ensures (record {
      j = h.j;
      x = h.x;
      opens = h.opens;
      numbered = h.numbered;
      sound = h.sound;
      here = here;
      on_is = sym (c.on_of-on.ensures (more h.j h.x) h.switches_stand (opened-known (more h.j h.x) h.numbered c.rules.at c.index-rules-at.result here));
      place_is = h.place_is;
      at_is = h.at_is;
      opened = c.rules.invariant h;
    })

pub returns : goal.returns
returns c h = open-end h.j h.x h.opens h.numbered c.rules.at (omega (arith, c.rules-test.false, ap length h.all_are)) c.rules.states c.rules.triggers (c.rules.invariant h)
