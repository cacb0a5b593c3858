-- A Reload of what is in force leaves it as it is, word for word.
use Rattle.std.proofs.Common.{◌≡◌, ℕ, ◌+◌, inl, inr, Bool, true, List, [], ◌∷◌, ◌++◌, length, map, refl, sym, ◌∙◌}
use Rattle.std.specs.Prelude.{Some}
use Rattle.ha_config.specs.declared.config.Automation.{Automation}
use Rattle.ha_config.specs.declared.config.Config.{Config}
use Rattle.ha_config.specs.declared.config.Script.{Script}
use Rattle.ha_config.specs.Equality.{same_automation, same_script}
use Rattle.ha_config.specs.Numbered.{fresh, kept_number, numbered}
use Rattle.ha_config.specs.Sound.{IsSoundConfig}
use Rattle.ha_config.specs.Units.{as_unit}
use Rattle.ha_config.specs.ValueFacts.{all_distinct}
use Rattle.ha_config.specs.Words.{Text}
use Rattle.ha_config.proofs.EqualityLemmas.{rule-refl, rule-sound, script-refl, script-sound}
use Rattle.ha_config.proofs.ListLemmas.{append-nil}
use Rattle.ha_config.proofs.NumberedLemmas.{fresh-kept, numbered-kept}
use Rattle.ha_journal.specs.declared.entry.Entry.{Entry}
use Rattle.ha_journal.specs.Entries.{reload_in}
use Rattle.ha_journal.specs.Force.{Force, IsAlike, force, new_rules, new_scripts, reloaded}
use Rattle.ha_journal.specs.Journal.{HasEntry, Journal, configured, more}
use Rattle.ha_journal.proofs.AlikeLaws.{alike-rules, alike-scripts}
use Rattle.ha_journal.proofs.ForceLaws.{force-reloaded, in-force-are, scripts-are}
use Rattle.reload_laws.proofs.KeptLemmas.{IsAmong, apart-rules, apart-scripts, names_in, own-kept}

module _ {A : Type 0} (equal : A → A → Bool) (name : A → Text) (sound : (x y : A) → equal x y ≡ true → x ≡ y) (itself : (x : A) → equal x x ≡ true) where
  -- each of these keeps its own number
  abbrev KeepThemselves : List (ℕ × A) → List (ℕ × A) → Type 0
  KeepThemselves all [] = Unit {0}
  KeepThemselves all (p ∷ ps) = (kept_number equal all p.1 ≡ Some p.0) × KeepThemselves all ps

  all-keep : (all : List (ℕ × A)) → all_distinct (names_in equal name sound all) ≡ true → (ps : List (ℕ × A)) → ((p : ℕ × A) → IsAmong p ps → IsAmong p all) → KeepThemselves all ps
  all-keep all apart [] f = tt
  all-keep all apart (p ∷ ps) f = (own-kept equal name sound p all p.1 apart (f p (inl refl)) (itself p.1), all-keep all apart ps (λ q h. f q (inr h)))

  same-numbers : (all : List (ℕ × A)) (free : ℕ) (ps : List (ℕ × A)) → KeepThemselves all ps → numbered equal all free (map {A = ℕ × A} {B = A} (λ p. p.1) ps) ≡ ps
  same-numbers all free [] h = refl
  same-numbers all free (p ∷ ps) h =
      numbered-kept equal all free p.1 (map {A = ℕ × A} {B = A} (λ p. p.1) ps) p.0 h.0 ∙ (λ i. p ∷ same-numbers all free ps h.1 i)

  none-fresh : (all ps : List (ℕ × A)) → KeepThemselves all ps → fresh equal all (map {A = ℕ × A} {B = A} (λ p. p.1) ps) ≡ []
  none-fresh all [] h = refl
  none-fresh all (p ∷ ps) h = fresh-kept equal all p.1 (map {A = ℕ × A} {B = A} (λ p. p.1) ps) p.0 h.0 ∙ none-fresh all ps h.1

module _ (f : Force) (c : Config) (alike : IsAlike c f.config)
    (rules : map {A = ℕ × Automation} {B = Automation} (λ p. p.1) f.rules ≡ f.config.automations)
    (scripts : map {A = ℕ × Script} {B = Script} (λ p. p.1) f.scripts ≡ f.config.scripts) (sound : IsSoundConfig f.config) where
  abbrev by_name : Automation → Text
  by_name x = x.name

  abbrev by_script : Script → Text
  by_script x = x.name

  rules-keep : KeepThemselves same_automation by_name rule-sound rule-refl f.rules f.rules
  rules-keep = all-keep same_automation by_name rule-sound rule-refl f.rules (apart-rules f rules sound) f.rules (λ p h. h)

  scripts-keep : KeepThemselves same_script by_script script-sound script-refl f.scripts f.scripts
  scripts-keep = all-keep same_script by_script script-sound script-refl f.scripts (apart-scripts f scripts sound) f.scripts (λ p h. h)

  rules-alike : c.automations ≡ map {A = ℕ × Automation} {B = Automation} (λ p. p.1) f.rules
  rules-alike = alike-rules c f.config alike ∙ sym rules

  scripts-alike : c.scripts ≡ map {A = ℕ × Script} {B = Script} (λ p. p.1) f.scripts
  scripts-alike = alike-scripts c f.config alike ∙ sym scripts

  same-rules : (free : ℕ) → numbered same_automation f.rules free c.automations ≡ f.rules
  same-rules free = (λ i. numbered same_automation f.rules free (rules-alike i)) ∙ same-numbers same_automation by_name rule-sound rule-refl f.rules free f.rules rules-keep

  same-scripts : (free : ℕ) → numbered same_script f.scripts free c.scripts ≡ f.scripts
  same-scripts free = (λ i. numbered same_script f.scripts free (scripts-alike i)) ∙ same-numbers same_script by_script script-sound script-refl f.scripts free f.scripts scripts-keep

  no-rules : new_rules f c ≡ []
  no-rules = (λ i. fresh same_automation f.rules (rules-alike i)) ∙ none-fresh same_automation by_name rule-sound rule-refl f.rules f.rules rules-keep

  no-scripts : new_scripts f c ≡ []
  no-scripts = (λ i. fresh same_script f.scripts (scripts-alike i)) ∙ none-fresh same_script by_script script-sound script-refl f.scripts f.scripts scripts-keep

  same-units : (f.units ++ new_rules f c) ++ map as_unit (new_scripts f c) ≡ f.units
  same-units = (λ i. (f.units ++ no-rules i) ++ map as_unit (no-scripts i)) ∙ append-nil (f.units ++ []) ∙ append-nil f.units

  pub reloaded-same : reloaded f c ≡ f
  reloaded-same = (λ i. record {
    config = alike i;
    units = same-units i;
    rules = same-rules (length f.units) i;
    scripts = same-scripts (length f.units + length (new_rules f c)) i;
  })

-- LAW: what is in force is the same behind a Reload of it
pub force-same : (j : Journal) (x : Entry) (c : Config) → HasEntry j → reload_in x ≡ Some c → IsSoundConfig (configured j) → IsAlike c (configured j) → force (more j x) ≡ force j
force-same j x c some reloads sound alike = force-reloaded j x c some reloads ∙ reloaded-same (force j) c alike (in-force-are j) (scripts-are j) sound
