-- Switches with one more entry.
use Rattle.std.proofs.Common.{◌≡◌, ℕ, ◌<◌, ◌≤◌, List, [], ◌∷◌, ◌++◌, length, true, false, refl, sym, subst, ◌∙◌, rules, Bool, Option}
use Rattle.std.specs.Prelude.{Some, None, nat_lt, fold, if◌then◌else◌}
use Rattle.std.specs.Option.{option_map_or}
use Rattle.ha_config.specs.declared.command.Cmd.{Cmd}
use Rattle.ha_config.specs.declared.config.Automation.{Automation}
use Rattle.ha_config.specs.declared.config.Config.{Config}
use Rattle.ha_config.specs.Names.{unit_of}
use Rattle.ha_journal.specs.declared.entry.Entry.{Entry}
use Rattle.ha_journal.specs.declared.entry.Entry.TheVariants.{Boot, Line, Step, Again}
use Rattle.ha_journal.specs.Entries.{Turning, turning, reload_in}
use Rattle.ha_journal.specs.Force.{Force, first_force, force, force_after, reloaded}
use Rattle.ha_journal.specs.Journal.{Journal, HasEntry, more, units}
use Rattle.ha_journal.specs.Switches.{is_on, on_after, on_entered, on_turned, switches_after, switches_from}
use Rattle.ha_journal.proofs.ForceLaws.{force-reloaded}

is-less : (a b : ℕ) → a < b → nat_lt a b ≡ true
is-less a b lt = search (rules, lt)

not-less : (a b : ℕ) → b ≤ a → nat_lt a b ≡ false
not-less a b le = search (rules, le)

abbrev IsLeft : Turning → Type 0
IsLeft Turning.Leaves = Unit {0}
IsLeft Turning.Reloads = ⊥
IsLeft Turning.Restarts = ⊥
IsLeft (Turning.Opens stored) = ⊥
IsLeft (Turning.Turns name on stop) = ⊥
IsLeft (Turning.TurnsEach targets) = ⊥

-- what turns no switch brings no configuration
pub leaves-none : (x : Entry) → turning x ≡ Turning.Leaves → reload_in x ≡ None
leaves-none (Boot text config stored start zone carry) h = refl
leaves-none (Again number start stored carry) h = refl
leaves-none (Line source number Cmd.Restart) h = refl
leaves-none (Line source number (Cmd.Reload text config)) h = absurd (subst IsLeft (sym h) tt)
leaves-none (Line source number (Cmd.Report entity text attributes)) h = refl
leaves-none (Line source number (Cmd.Gone entity)) h = refl
leaves-none (Line source number (Cmd.Event kind pairs)) h = refl
leaves-none (Line source number (Cmd.Moment at)) h = refl
leaves-none (Line source number (Cmd.Switch name on stop)) h = refl
leaves-none (Line source number (Cmd.Trigger name skip)) h = refl
leaves-none (Line source number (Cmd.Refused code)) h = refl
leaves-none (Line source number Cmd.Lost) h = refl
leaves-none (Line source number Cmd.TooLong) h = refl
leaves-none (Step worker serial branch item) h = refl

-- what a Reload, and nothing else, brings
pub brought : {X : Type 0} (x : Entry) (c : Config) → reload_in x ≡ Some c → (f : Turning → X) → f (turning x) ≡ f Turning.Reloads
brought (Line source number (Cmd.Reload text config)) c h f = refl
brought (Boot text config stored start zone carry) c h f = cc
brought (Again number start stored carry) c h f = cc
brought (Line source number Cmd.Restart) c h f = cc
brought (Line source number (Cmd.Report entity text attributes)) c h f = cc
brought (Line source number (Cmd.Gone entity)) c h f = cc
brought (Line source number (Cmd.Event kind pairs)) c h f = cc
brought (Line source number (Cmd.Moment at)) c h f = cc
brought (Line source number (Cmd.Switch name on stop)) c h f = cc
brought (Line source number (Cmd.Trigger name skip)) c h f = cc
brought (Line source number (Cmd.Refused code)) c h f = cc
brought (Line source number Cmd.Lost) c h f = cc
brought (Line source number Cmd.TooLong) c h f = cc
brought (Step worker serial branch item) c h f = cc

switches-snoc : (f : Force) (on : ℕ → Bool) (xs : List Entry) (x : Entry) → switches_from f on (xs ++ (x ∷ [])) ≡ switches_after (fold force_after f xs) (switches_from f on xs) x
switches-snoc f on [] x = refl
switches-snoc f on (y ∷ ys) x = switches-snoc (force_after f y) (switches_after f on y) ys x

-- the switch of a number with which a Reload goes on
abbrev reload_switch : Force → (ℕ → Bool) → ℕ → Config → Bool
reload_switch f on a c = if nat_lt a (length f.units) then on a else option_map_or (on_entered f on) (unit_of (reloaded f c).units a) true

-- LAW: the switches with one more entry
pub on-told : (j : Journal) (x : Entry) (a : ℕ) → HasEntry j → is_on (more j x) a ≡ switches_after (force j) (is_on j) x a
on-told [] x a h = absurd h
on-told (e ∷ es) x a h = (λ i. switches-snoc (first_force e) (λ b. on_after (first_force e).units b true e) es x i a)

-- LAW: a switch after one more entry that is no Reload
pub on-more : (j : Journal) (x : Entry) (a : ℕ) → HasEntry j → reload_in x ≡ None → is_on (more j x) a ≡ on_after (units j) a (is_on j a) x
on-more j x a h none =
    on-told j x a h ∙ (λ i. option_map_or (reload_switch (force j) (is_on j) a) (none i) (on_after (units j) a (is_on j a) x))

-- LAW: the switch of one that was in force at some time, after any entry
pub on-known : (j : Journal) (x : Entry) (a : ℕ) → HasEntry j → a < length (units j) → is_on (more j x) a ≡ on_after (units j) a (is_on j a) x
on-known j x a h lt = on-told j x a h ∙ by (reload_in x) refl
  where
    by : (o : Option Config) → reload_in x ≡ o
        → option_map_or (reload_switch (force j) (is_on j) a) o (on_after (units j) a (is_on j a) x) ≡ on_after (units j) a (is_on j a) x
    by None e = refl
    by (Some c) e =
        (λ i. if is-less a (length (units j)) lt i then is_on j a else option_map_or (on_entered (force j) (is_on j)) (unit_of (reloaded (force j) c).units a) true)
        ∙ sym (brought x c e (λ t. on_turned (units j) a (is_on j a) t))

-- LAW: the switch of one that comes into force with a Reload
pub on-enters : (j : Journal) (x : Entry) (c : Config) (a : ℕ) (y : Automation) → HasEntry j → reload_in x ≡ Some c → length (units j) ≤ a
    → unit_of (units (more j x)) a ≡ Some y → is_on (more j x) a ≡ on_entered (force j) (is_on j) y
on-enters j x c a y h e le at =
    on-told j x a h
    ∙ (λ i. option_map_or (reload_switch (force j) (is_on j) a) (e i) (on_after (units j) a (is_on j a) x))
    ∙ (λ i. if not-less a (length (units j)) le i then is_on j a else option_map_or (on_entered (force j) (is_on j)) (unit_of (reloaded (force j) c).units a) true)
    ∙ (λ i. option_map_or (on_entered (force j) (is_on j)) (unit_of (sym (force-reloaded j x c h e) i).units a) true)
    ∙ (λ i. option_map_or (on_entered (force j) (is_on j)) (at i) true)
