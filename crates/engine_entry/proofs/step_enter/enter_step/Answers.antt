use Rattle.std.proofs.Common.{◌≡◌, [], false, refl, sym, ap, subst, ◌∙◌}
use Rattle.std.specs.Prelude.{Option}
use Rattle.ha_sight.specs.declared.item.Item.{Item}
use Rattle.ha_sight.specs.declared.waiting.WaitAsk.{WaitAsk}
use Rattle.ha_sight.specs.Items.{SwitchesNone, changes_by}
use Rattle.ha_journal.specs.Journal.{Journal}
use Rattle.trig_set.specs.Next.{Listed}
use Rattle.engine_parts.specs.declared.parts.Parts.{Parts}
use Rattle.engine_entry.specs.Stepping.{IsTaken, StepEntered, StepHere}
use Rattle.engine_entry.proofs.StepEnters.{step-entered}
use Rattle.engine_entry.proofs.step_enter.enter_step.Goals as goal

-- an item that switches nothing, and changes no helper
plain : (k : Journal) (p p' : Parts) (h : StepHere k p) (item : Item) (before : Listed) → h.item ≡ item → SwitchesNone item → changes_by item ≡ [] → before ≡ [] → p'.given ≡ [] → p' ≡ record p { given = p'.given; changed = false }
    → (wait : Option WaitAsk) → IsTaken wait p.waits → StepEntered k p' before wait
plain k p p' h item before is none unchanged listed quiet rest wait taken =
    subst (λ (q : Parts). StepEntered k q before wait) (sym rest)
    (subst (λ (l : Listed). StepEntered k (record p { given = p'.given; changed = false }) l wait) (sym listed) (step-entered k p h (subst SwitchesNone (sym is) none) (ap changes_by is ∙ unchanged) p'.given quiet wait taken))

pub enter_targets-requires : goal.enter_targets-requires
enter_targets-requires c =
    (let h = c.requires in record { here = h; item_is = sym (c.last_item.ensures h.j h.worker h.serial h.branch h.item h.journal_is) ∙ c.in-Switched.is })

pub returns-in-Nothing-clause-entered : goal.returns-in-Nothing-clause-entered
returns-in-Nothing-clause-entered c wait taken =
    (let h = c.requires in
    plain c.args.journal.now c.args.parts.now c.enter_none.new.parts h (Item.Nothing) c.enter_none.result (sym (c.last_item.ensures h.j h.worker h.serial h.branch h.item h.journal_is) ∙ c.in-Nothing.is) tt refl c.enter_none.ensures.listed c.enter_none.ensures.given
    c.enter_none.ensures.rest wait taken)

pub returns-in-Call-clause-entered : goal.returns-in-Call-clause-entered
returns-in-Call-clause-entered c wait taken =
    (let h = c.requires in
    plain c.args.journal.now c.args.parts.now c.enter_none-in-Call.new.parts h (Item.Call c.in-Call.service c.in-Call.target c.in-Call.fields) c.enter_none-in-Call.result (sym (c.last_item.ensures h.j h.worker h.serial h.branch h.item h.journal_is) ∙ c.in-Call.is) tt refl c.enter_none-in-Call.ensures.listed c.enter_none-in-Call.ensures.given
    c.enter_none-in-Call.ensures.rest wait taken)

pub returns-in-Fired-clause-entered : goal.returns-in-Fired-clause-entered
returns-in-Fired-clause-entered c wait taken =
    (let h = c.requires in
    plain c.args.journal.now c.args.parts.now c.enter_none-in-Fired.new.parts h (Item.Fired c.in-Fired.kind c.in-Fired.pairs) c.enter_none-in-Fired.result (sym (c.last_item.ensures h.j h.worker h.serial h.branch h.item h.journal_is) ∙ c.in-Fired.is) tt refl c.enter_none-in-Fired.ensures.listed c.enter_none-in-Fired.ensures.given
    c.enter_none-in-Fired.ensures.rest wait taken)

pub returns-in-Triggered-clause-entered : goal.returns-in-Triggered-clause-entered
returns-in-Triggered-clause-entered c wait taken =
    (let h = c.requires in
    plain c.args.journal.now c.args.parts.now c.enter_none-in-Triggered.new.parts h (Item.Triggered c.in-Triggered.automations c.in-Triggered.skip) c.enter_none-in-Triggered.result (sym (c.last_item.ensures h.j h.worker h.serial h.branch h.item h.journal_is) ∙ c.in-Triggered.is) tt refl c.enter_none-in-Triggered.ensures.listed c.enter_none-in-Triggered.ensures.given
    c.enter_none-in-Triggered.ensures.rest wait taken)

pub returns-in-Failed-clause-entered : goal.returns-in-Failed-clause-entered
returns-in-Failed-clause-entered c wait taken =
    (let h = c.requires in
    plain c.args.journal.now c.args.parts.now c.enter_none-in-Failed.new.parts h (Item.Failed c.in-Failed.field-0) c.enter_none-in-Failed.result (sym (c.last_item.ensures h.j h.worker h.serial h.branch h.item h.journal_is) ∙ c.in-Failed.is) tt refl c.enter_none-in-Failed.ensures.listed c.enter_none-in-Failed.ensures.given
    c.enter_none-in-Failed.ensures.rest wait taken)

pub returns-in-Started-clause-entered : goal.returns-in-Started-clause-entered
returns-in-Started-clause-entered c wait taken =
    (let h = c.requires in
    plain c.args.journal.now c.args.parts.now c.enter_none-in-Started.new.parts h (Item.Started c.in-Started.scripts c.in-Started.fields c.in-Started.waits) c.enter_none-in-Started.result (sym (c.last_item.ensures h.j h.worker h.serial h.branch h.item h.journal_is) ∙ c.in-Started.is) tt refl c.enter_none-in-Started.ensures.listed c.enter_none-in-Started.ensures.given
    c.enter_none-in-Started.ensures.rest wait taken)

pub returns-in-Halted-clause-entered : goal.returns-in-Halted-clause-entered
returns-in-Halted-clause-entered c wait taken =
    (let h = c.requires in
    plain c.args.journal.now c.args.parts.now c.enter_none-in-Halted.new.parts h (Item.Halted c.in-Halted.field-0) c.enter_none-in-Halted.result (sym (c.last_item.ensures h.j h.worker h.serial h.branch h.item h.journal_is) ∙ c.in-Halted.is) tt refl c.enter_none-in-Halted.ensures.listed c.enter_none-in-Halted.ensures.given
    c.enter_none-in-Halted.ensures.rest wait taken)

pub enter_changes-requires : goal.enter_changes-requires
enter_changes-requires c =
    (let h = c.requires in record { here = h; item_is = sym (c.last_item.ensures h.j h.worker h.serial h.branch h.item h.journal_is) ∙ c.in-Helped.is })
