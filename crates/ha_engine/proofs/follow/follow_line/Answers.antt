use Rattle.std.proofs.Common.{◌≡◌, ◌∙◌, Bool, true, false, ap, refl, subst, sym, IsTrue}
use Rattle.std.specs.Prelude.{Option, None, Some, is_some}
use Rattle.ha_value.specs.declared.word.Word.{Word}
use Rattle.ha_config.specs.declared.command.Cmd.{Cmd}
use Rattle.ha_config.specs.declared.config.Config.{Config}
use Rattle.ha_config.specs.Fair.{IsPlain}
use Rattle.ha_config.proofs.ListLemmas.{true-false}
use Rattle.ha_journal.specs.declared.entry.Entry.TheVariants.{Line}
use Rattle.ha_journal.specs.Commands.{IsFair}
use Rattle.ha_journal.specs.Entries.{is_restart, reloads_to}
use Rattle.ha_model.specs.Records.{last_is}
use Rattle.ha_model.proofs.LastEntry.{last-is}
use Rattle.ha_engine.proofs.follow.follow_line.Goals as goal

plain-of : (cmd : Cmd) → ((name : Word) (on stop : Bool) → cmd ≡ Cmd.Switch name on stop → ⊥) → (cmd ≡ Cmd.Restart → ⊥) → ((text : Word) (config : Option Config) → cmd ≡ Cmd.Reload text config → ⊥)
    → IsPlain cmd
plain-of (Cmd.Report entity text attributes) f g r = tt
plain-of (Cmd.Gone entity) f g r = tt
plain-of (Cmd.Event kind pairs) f g r = tt
plain-of (Cmd.Moment at) f g r = tt
plain-of (Cmd.Switch name on stop) f g r = f name on stop refl
plain-of (Cmd.Trigger name skip) f g r = tt
plain-of Cmd.Restart f g r = g refl
plain-of (Cmd.Reload text config) f g r = r text config refl
plain-of (Cmd.Refused code) f g r = tt
plain-of Cmd.Lost f g r = tt
plain-of Cmd.TooLong f g r = tt

pub last_command-cmd-requires : goal.last_command-cmd-requires
last_command-cmd-requires c =
    let h = c.requires.pushed in
    record { j = h.j; source = h.source; number = h.number; cmd = h.cmd; journal_is = h.journal_is }

pub follow_plain-requires : goal.follow_plain-requires
follow_plain-requires c =
    let h = c.requires.pushed in
    record {
      pushed = record { pushed = h; cmd_is = sym (c.last_command-cmd.ensures h.j h.source h.number h.cmd h.journal_is) };
      plain = plain-of c.last_command-cmd.result.now c.in_default.not-Switch c.in_default.not-Restart c.in_default.not-Reload;
      named = c.requires.named;
    }

pub follow_switch-requires : goal.follow_switch-requires
follow_switch-requires c =
    let h = c.requires.pushed in
    record { pushed = record { pushed = h; cmd_is = sym (c.last_command-cmd.ensures h.j h.source h.number h.cmd h.journal_is) ∙ c.in-Switch.is }; named = c.requires.named }

pub unreachable-requires : goal.unreachable-requires
unreachable-requires c =
    let h = c.requires.pushed in
    let cmd : h.cmd ≡ Cmd.Restart = sym (c.last_command-cmd.ensures h.j h.source h.number h.cmd h.journal_is) ∙ c.in-Restart.is in
    let stays : true ≡ false = (λ i. is_restart (Line h.source h.number (sym cmd i))) ∙ sym (last-is is_restart h.j (Line h.source h.number h.cmd)) ∙ (λ i. last_is is_restart (sym h.journal_is i)) ∙ c.requires.stays in
    true-false stays

none-reloads : (o : Option Config) → IsTrue (is_some o) → o ≡ None → ⊥
none-reloads None h e = (let bad = h in cc)
none-reloads (Some config) h e = cc

pub unreachable-requires-in-Reload : goal.unreachable-requires-in-Reload
unreachable-requires-in-Reload c =
    let h = c.requires.pushed in
    let cmd : h.cmd ≡ Cmd.Reload c.in-Reload.text c.in-Reload.config = sym (c.last_command-cmd.ensures h.j h.source h.number h.cmd h.journal_is) ∙ c.in-Reload.is in
    none-reloads c.in-Reload.config (subst (IsFair h.j) cmd h.fair).1 (ap reloads_to (sym cmd) ∙ h.unreloaded)

pub follow_report-requires : goal.follow_report-requires
follow_report-requires c =
    let h = c.requires.pushed in
    record { pushed = record { pushed = h; cmd_is = sym (c.last_command-cmd.ensures h.j h.source h.number h.cmd h.journal_is) ∙ c.in-Report.is }; named = c.requires.named }
