-- What each call on the switches leaves stands for the journal with the entry.
use Rattle.std.proofs.Common.{◌≡◌, ℕ, List, [], ◌∷◌, map, Bool, true, false, refl, sym, ap, subst, ◌∙◌, ◌||◌, rules, Option}
use Rattle.std.specs.Prelude.{IsSome, Some, None, nat_eq, zip, if◌then◌else◌}
use Rattle.ha_config.specs.declared.config.Automation.{Automation}
use Rattle.ha_config.specs.declared.config.Config.{Config}
use Rattle.ha_config.specs.declared.command.Cmd.{Cmd}
use Rattle.ha_config.specs.ValueFacts.{all_distinct}
use Rattle.ha_config.specs.Names.{names_of, unit_of}
use Rattle.ha_config.specs.Numbered.{has_number}
use Rattle.ha_config.specs.Words.{Text}
use Rattle.ha_config.proofs.ListLemmas.{true-false}
use Rattle.ha_journal.specs.declared.carry.Carry.{Carry}
use Rattle.ha_journal.specs.declared.entry.Entry.{Entry}
use Rattle.ha_journal.specs.declared.entry.Entry.TheVariants.{Boot, Line}
use Rattle.ha_journal.specs.Entries.{reload_in}
use Rattle.ha_journal.specs.Journal.{Journal, HasEntry, automations, in_force, more, units}
use Rattle.ha_journal.specs.Sights.{switch_of}
use Rattle.ha_journal.specs.Switches.{is_on, on_after}
use Rattle.ha_sight.specs.Sight.{Automations, switch_at}
use Rattle.store_text.specs.Store.{AreStorable, Switches, by_names}
use Rattle.switch_book.specs.Book.{StandsFor, Switch, reloaded, restarted, restored, with_switch}
use Rattle.switch_book.proofs.SwitchLaws.{Rules, boot-stands, more-stands, named-one, names-of-journal, reload-stands, restart-stands, seen_by, switch-of-journal}

pub restored-stands : (s : Automations) (config : Config) (stored : Option Switches) → s ≡ restored stored config.automations → (text : Text) (start : ℕ) (zone : Text) (carry : Carry) → StandsFor s (Boot text config stored start zone carry ∷ [])
restored-stands s config stored e text start zone carry = e ∙ boot-stands text config stored start zone carry

pub restarted-stands : (s s' : Automations) (all : List Automation) → s' ≡ restarted all s → (j : Journal) (source number : ℕ) → HasEntry j → automations j ≡ all → StandsFor s j
    → StandsFor s' (more j (Line source number Cmd.Restart))
restarted-stands s s' all is j source number some same stands = is ∙ (λ i. restarted (sym same i) s) ∙ restart-stands s j source number some stands

pub entered-stands : (s s' : Automations) (all : List Automation) (numbers : List ℕ) → s' ≡ reloaded s (zip numbers all) → (j : Journal) (x : Entry) (c : Config) → HasEntry j → reload_in x ≡ Some c
    → zip numbers all ≡ in_force (more j x) → StandsFor s j → StandsFor s' (more j x)
entered-stands s s' all numbers is j x c some brings same stands = is ∙ (λ i. reloaded s (same i)) ∙ reload-stands s j x c some brings stands

-- ---- a switch command

-- the numbers of all these are in force
abbrev AreIn : Rules → Rules → Type 0
AreIn all [] = Unit {0}
AreIn all (p ∷ ps) = (has_number all p.0 ≡ true) × AreIn all ps

itself : (m : ℕ) → nat_eq m m ≡ true
itself m = search rules

or-true : (b : Bool) → (b || true) ≡ true
or-true true = refl
or-true false = refl

are-in : (all ps : Rules) → ((n : ℕ) → has_number ps n ≡ true → has_number all n ≡ true) → AreIn all ps
are-in all [] h = tt
are-in all (p ∷ ps) h =
    (h p.0 (λ i. itself p.0 i || has_number ps p.0), are-in all ps (λ n e. h n ((λ i. nat_eq p.0 n || e i) ∙ or-true (nat_eq p.0 n))))

-- a switch that is there is one of an automation in force
in-force-here : (j : Journal) (a : ℕ) (o : Option Bool) → IsSome o → o ≡ switch_of j a → has_number (in_force j) a ≡ true
in-force-here j a o there is = by (has_number (in_force j) a) refl
  where
    by : (b : Bool) → has_number (in_force j) a ≡ b → has_number (in_force j) a ≡ true
    by true e = e
    by false e = absurd (let gone : o ≡ None = is ∙ (λ i. if e i then Some (is_on j a) else None) in true-false (sym (subst (λ (q : Option Bool). IsSome q) gone there)))

pub turned-stands : (s s' : Automations) (a : ℕ) (on : Bool) → AreStorable (by_names s) → IsSome (switch_at s a) → s' ≡ with_switch a on s
    → (j : Journal) (x : Automation) (source number : ℕ) (stop : Bool) → HasEntry j → unit_of (units j) a ≡ Some x → StandsFor s j → StandsFor s' (more j (Line source number (Cmd.Switch x.name on stop)))
turned-stands s s' a on storable there is j x source number stop some here stands =
    is ∙ (λ i. with_switch a on (stands i)) ∙ same (in_force j) (are-in (in_force j) (in_force j) (λ n e. e))
    ∙ (λ i. map {A = Switch} {B = Switch} (λ p. (p.0, p.1, on_after (units j) p.0 p.2 (Line source number (Cmd.Switch x.name on stop)))) (sym stands i))
    ∙ more-stands s j (Line source number (Cmd.Switch x.name on stop)) some refl stands
  where
    distinct : all_distinct (names_of (automations j)) ≡ true
    distinct = ap all_distinct (sym (names-of-journal s j stands)) ∙ storable.distinct

    has : has_number (in_force j) a ≡ true
    has = in-force-here j a (switch_at s a) there (switch-of-journal s j stands a)

    same : (ps : Rules) → AreIn (in_force j) ps → with_switch a on (seen_by (is_on j) ps) ≡ map {A = Switch} {B = Switch} (λ p. (p.0, p.1, on_after (units j) p.0 p.2 (Line source number (Cmd.Switch x.name on stop)))) (seen_by (is_on j) ps)
    same [] h = refl
    same (p ∷ ps) h = λ i. (p.0, p.1.name, sym (named-one j a p.0 x source number (is_on j p.0) on stop distinct has h.0 here) i) ∷ same ps h.1 i

pub seen-on : (s : Automations) (a : ℕ) (o : Option Bool) → o ≡ switch_at s a → (j : Journal) → StandsFor s j → o ≡ switch_of j a
seen-on s a o e j stands = e ∙ switch-of-journal s j stands a
