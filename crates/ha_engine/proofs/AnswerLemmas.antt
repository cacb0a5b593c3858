-- What follows from a call's answer, be it right or an error.
use Rattle.std.proofs.Common.{◌≡◌, ℕ, sym, subst, ◌∙◌}
use Rattle.std.specs.Prelude.{Option, Result, Ok, Err, OnOk, OnErr}
use Rattle.ha_config.specs.declared.command.Cmd.{Cmd}
use Rattle.ha_config.specs.declared.config.Config.{Config}
use Rattle.ha_config.specs.Fair.{prepared}
use Rattle.ha_config.specs.Words.{Text}
use Rattle.ha_journal.specs.declared.entry.Entry.TheVariants.{Line}
use Rattle.ha_journal.specs.Commands.{AreRead, put_as}
use Rattle.ha_journal.specs.Journal.{Journal}
use Rattle.ha_whole.specs.Whole.{put}
use Rattle.ha_engine.proofs.ReaderLemmas.{read-put}

-- LAW: where both lead to the same, it is so
pub either-way : {T E : Type 0} {P Q R : Type 0} (r : Result T E) → OnOk r P → OnErr r Q → (P → R) → (Q → R) → R
either-way (Ok x) p q f g = f p
either-way (Err e) p q f g = g q

module _ {T E : Type 0} (read : Text → Option Config) (new j : Journal) (source number : ℕ) (cmd told : Cmd) (is : told ≡ prepared read cmd) where
  -- LAW: reloads have the configurations of their texts, also where the put failed
  pub read-after : (S : Type 0) (r : Result T E) → AreRead read j → OnOk r (new ≡ put j (Line source number (put_as j told))) → OnErr r ((new ≡ j) × S) → AreRead read new
  read-after S (Ok x) all put_is stays = subst (AreRead read) (sym (put_is ∙ (λ i. put j (Line source number (put_as j (is i)))))) (read-put read j source number cmd all)
  read-after S (Err e) all put_is stays = subst (AreRead read) (sym stays.0) all

  -- LAW: what was put is the line of the command as it is read
  pub put-told : (old : Journal) (r : Result T E) → j ≡ old → OnOk r (new ≡ put j (Line source number (put_as j told))) → OnOk r (new ≡ put old (Line source number (put_as old (prepared read cmd))))
  put-told old (Ok x) same put_is = put_is ∙ (λ i. put (same i) (Line source number (put_as (same i) (is i))))
  put-told old (Err e) same put_is = put_is

-- LAW: nor does it matter how the command is written
pub put-alike : {T E : Type 0} (r : Result T E) (new j : Journal) (source number : ℕ) (c d : Cmd) → d ≡ c → OnOk r (new ≡ put j (Line source number c)) → OnOk r (new ≡ put j (Line source number d))
put-alike (Ok x) new j source number c d same put_is = put_is ∙ (λ i. put j (Line source number (sym same i)))
put-alike (Err e) new j source number c d same put_is = put_is
