-- The parts that stand for a journal see what its next entry sees.
use Rattle.std.proofs.Common.{◌≡◌, ◌∙◌, ap, refl, sym, ℕ, Bool, true, false, List, [], length, take, map}
use Rattle.std.proofs.Math.Path.{fun_ext}
use Rattle.std.proofs.Math.Seq.{take-length}
use Rattle.std.specs.Prelude.{Option, Some, option_map, codes, if◌then◌else◌}
use Rattle.std.specs.Option.{option_map_or}
use Rattle.ha_config.specs.declared.config.Automation.{Automation}
use Rattle.ha_config.specs.declared.config.Config.{Config}
use Rattle.ha_config.specs.Names.{named_among}
use Rattle.ha_sight.specs.declared.state.StateObject.{StateObject}
use Rattle.ha_config.specs.Words.{Text}
use Rattle.ha_journal.specs.Journal.{Journal, in_force, now, scripts_in, zone_of}
use Rattle.ha_sight.specs.Known.{Known}
use Rattle.ha_journal.specs.Switches.{is_on}
use Rattle.ha_journal.specs.States.{of_automation, states, switches_seen}
use Rattle.ha_journal.specs.Moves.{sight}
use Rattle.state_table.specs.declared.table.StateTable.{StateTable}
use Rattle.state_laws.specs.Stands.{IsViewOf, StandsFor}
use Rattle.cond_eval.specs.Seen.{automation_id, is_shown_on, says_on, shown_of, sight_of}
use Rattle.cond_eval.proofs.NameLemmas.{EachIn, each-named, each-switch, each-weaker}

shows : (j : Journal) (k : ℕ) → says_on (of_automation j k) ≡ is_on j k
shows j k = by (is_on j k)
  where
    by : (b : Bool) → says_on (record { text = if b then codes "on" else codes "off"; attributes = (of_automation j k).attributes; changed = (of_automation j k).changed; updated = (of_automation j k).updated }) ≡ b
    by true = refl
    by false = refl

-- a table that stands for the journal shows the switch of the automation that is found under its name
shown : (t : StateTable) (j : Journal) → StandsFor t j → (k : ℕ) (name : Text) → named_among (in_force j) name ≡ Some k → is_shown_on t name ≡ is_on j k
shown t j stands k name h =
    ap (λ (o : Option StateObject). option_map_or says_on o false) (stands (automation_id name) ∙ (λ i. option_map (of_automation j) (h i))) ∙ shows j k

pub shown-seen : (t : StateTable) (j : Journal) → StandsFor t j → EachIn (λ k y. named_among (in_force j) y.name ≡ Some k) (in_force j) → shown_of t (in_force j) ≡ switches_seen j
shown-seen t j stands each = each-switch (is_shown_on t) (is_on j) (in_force j) (each-weaker _ _ (λ k y h. shown t j stands k y.name h) (in_force j) each)

pub parts_see : (t : StateTable) (numbers : List ℕ) (config : Config) (zone : Text) (moment : ℕ) (j : Journal) → IsViewOf t numbers config zone moment j
    → sight_of t numbers config zone moment ≡ record (sight j (length j)) { scripts = []; helpers = [] }
parts_see t numbers config zone moment j is =
    (λ i. record { states = fun_ext is.states_are i; now = is.now_is i; zone = is.zone_is i; automations = shown_of t (is.rules_are i); scripts = []; helpers = [] })
    ∙ (λ i. record { states = states j; now = now j; zone = zone_of j; automations = shown-seen t j is.states_are (each-named (in_force j) is.names_differ) i; scripts = []; helpers = [] })
    ∙ (let all = sym (take-length j) in λ i. record { states = states (all i); now = now (all i); zone = zone_of j; automations = switches_seen (all i); scripts = []; helpers = [] })

-- LAW: with the scripts in force, and what is known of the helpers, they see all of it
pub scripts_see : (t : StateTable) (numbers : List ℕ) (config : Config) (zone : Text) (moment : ℕ) (j : Journal) (named : List (Text × ℕ)) (all : List Known) → IsViewOf t numbers config zone moment j → named ≡ scripts_in j → all ≡ (sight j (length j)).helpers
    → record (sight_of t numbers config zone moment) { scripts = named; helpers = all } ≡ sight j (length j)
scripts_see t numbers config zone moment j named all is same these =
    (λ i. record (parts_see t numbers config zone moment j is i) { scripts = same i; helpers = these i })
    ∙ (let whole = sym (take-length j) in λ i. record (sight j (length j)) { scripts = scripts_in (whole i) })
