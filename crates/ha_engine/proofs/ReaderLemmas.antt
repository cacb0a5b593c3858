-- Entries whose reloads have the configurations of their texts.
use Rattle.std.proofs.Common.{◌≡◌, ℕ, Bool, true, false, refl, sym, subst}
use Rattle.std.specs.Prelude.{Option}
use Rattle.ha_config.specs.declared.command.Cmd.{Cmd}
use Rattle.ha_config.specs.declared.config.Config.{Config}
use Rattle.ha_config.specs.Fair.{prepared}
use Rattle.ha_config.specs.Words.{Text}
use Rattle.ha_journal.specs.declared.entry.Entry.{Entry}
use Rattle.ha_journal.specs.declared.entry.Entry.TheVariants.{Line, Step}
use Rattle.ha_journal.specs.Commands.{AreRead, put_as}
use Rattle.ha_journal.specs.Entries.{is_restart}
use Rattle.ha_journal.specs.Journal.{Journal, more}
use Rattle.ha_journal.proofs.ReloadLemmas.{put-read}
use Rattle.ha_model.proofs.ReadLaws.{read-more}
use Rattle.ha_sight.specs.declared.item.Item.{Item}
use Rattle.ha_sight.specs.Scripts.{Branch}
use Rattle.ha_whole.specs.Whole.{again_of, put}
use Rattle.whole_laws.proofs.PutLemmas.{put-on, put-restart}

-- LAW: so it stays with the line of a prepared command
pub read-put : (read : Text → Option Config) (j : Journal) (source number : ℕ) (c : Cmd) → AreRead read j → AreRead read (put j (Line source number (put_as j (prepared read c))))
read-put read j source number c all = by (is_restart x) refl
  where
    x : Entry
    x = Line source number (put_as j (prepared read c))

    one : AreRead read (more j x)
    one = read-more read j x all (put-read read j c)

    by : (b : Bool) → is_restart x ≡ b → AreRead read (put j x)
    by false e = subst (AreRead read) (sym (put-on j x e)) one
    by true e = subst (AreRead read) (sym (put-restart j x e)) (read-more read (more j x) (again_of (more j x)) one tt)

-- LAW: and with a step
pub read-step : (read : Text → Option Config) (j : Journal) (worker serial : ℕ) (branch : Branch) (item : Item) → AreRead read j → AreRead read (more j (Step worker serial branch item))
read-step read j worker serial branch item all = read-more read j (Step worker serial branch item) all tt
