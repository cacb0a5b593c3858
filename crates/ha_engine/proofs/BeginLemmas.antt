-- A journal of its boot alone.
use Rattle.std.proofs.Common.{◌≡◌, ℕ, zero, suc, ◌+◌, ◌-◌, ◌<◌, ◌≤◌, List, [], ◌∷◌, ◌++◌, length, length-append, map, filter, true, false, refl, sym, ap, ◌∙◌, rules, arith}
use Rattle.std.specs.Prelude.{IsSome, None, Option, Some, nat_le, slice_get, ◌&&◌}
use Rattle.std.specs.List.{enumerate_from}
use Rattle.std.proofs.lemmas.List.{length-map}
use Rattle.std.specs.Option.{option_map_or}
use Rattle.ha_value.specs.declared.value.EntityId.{EntityId}
use Rattle.ha_sight.specs.StateStep.{next_object}
use Rattle.ha_clock.specs.Zone as clock
use Rattle.ha_clock.specs.Local.{last_moment}
use Rattle.ha_config.specs.declared.config.Automation.{Automation}
use Rattle.ha_config.specs.declared.config.Config.{Config}
use Rattle.ha_config.specs.declared.config.Script.{Script}
use Rattle.ha_journal.specs.declared.carry.Carry.{Carry}
use Rattle.ha_journal.specs.declared.entry.Entry.{Entry}
use Rattle.ha_journal.specs.declared.entry.Entry.TheVariants.{Boot}
use Rattle.ha_journal.specs.Journal.{Journal, automations, now, units, zone_of}
use Rattle.ha_journal.specs.States.{states as states_of}
use Rattle.ha_model.specs.Records.{Records, records_of}
use Rattle.ha_model.specs.Lawful.{Right}
use Rattle.ha_config.specs.Sound.{IsSoundConfig}
use Rattle.ha_config.specs.Units.{as_unit, units_of}
use Rattle.ha_config.specs.Words.{Text, numbers_from, up_to}
use Rattle.store_text.specs.Store.{Switches}
use Rattle.state_laws.specs.Stands as states
use Rattle.state_table.specs.Table.{at}
use Rattle.state_table.specs.declared.table.StateTable.{StateTable}
use Rattle.state_laws.proofs.StateLaws.{states-empty}
use Rattle.switch_book.specs.Book as switches
use Rattle.trig_set.specs.Stands as triggers
use Rattle.trig_set.specs.declared.set.TrigSet.{TrigSet}
use Rattle.ha_ready.specs.Agree.{step_at}
use Rattle.ha_ready.specs.RestedFlags.{RestedKept}
use Rattle.ha_engine.specs.Begun.{trues}
use Rattle.engine_parts.specs.Kept.{Looks}
use Rattle.engine_parts.specs.Numbers.{AreFew, ascends_from, is_ascending, numbers_in, rule_numbers}
use Rattle.engine_parts.specs.Owners.{is_automation, owners_on}
use Rattle.ha_sight.specs.Sight.{Automations}
use Rattle.engine_entry.specs.Opened.{AllOpened, Opening}
use Rattle.engine_parts.specs.Records.{IsTable}
use Rattle.engine_parts.specs.Texts.{first_change, first_of}
use Rattle.engine_parts.proofs.TextLemmas.{begin-given, told-at}
use Rattle.engine_parts.proofs.ViewLemmas.{sound-outside}
use Rattle.engine_entry.proofs.OpenLemmas.{open-begin, opened-automations, owners-opened}
use Rattle.engine_entry.proofs.TurnedOwners.{owners-whole}
use Rattle.engine_parts.proofs.FewLemmas.{few-opened}

more-true : (n : ℕ) → trues n ++ (true ∷ []) ≡ trues (suc n)
more-true zero = refl
more-true (suc n) = ap (λ l. true ∷ l) (more-true n)

pub true-next : (n m : ℕ) → m ≡ suc n → trues n ++ (true ∷ []) ≡ trues m
true-next n m e = more-true n ∙ ap trues (sym e)

get-true : (n k : ℕ) → k < n → slice_get (trues n) k ≡ Some true
get-true zero k lt = absurd (omega (arith, lt))
get-true (suc n) zero lt = refl
get-true (suc n) (suc k) lt = get-true n k (omega (arith, lt))

true-count : (n : ℕ) → length (trues n) ≡ n
true-count zero = refl
true-count (suc n) = ap suc (true-count n)

ascends : (all : List Automation) (n m : ℕ) → n ≤ m → ascends_from n (map {A = ℕ × Automation} {B = ℕ} (λ p. p.0) (enumerate_from m all)) ≡ true
ascends [] n m le = refl
ascends (y ∷ ys) n m le = (λ i. is-le n m le i && ascends ys (suc m) (m + 1) (omega arith) i)
  where
    is-le : (a b : ℕ) → a ≤ b → nat_le a b ≡ true
    is-le a b h = search (rules, h)

enumerated : {A : Type 0} (xs : List A) (n : ℕ) → map {A = ℕ × A} {B = ℕ} (λ p. p.0) (enumerate_from n xs) ≡ numbers_from n (length xs)
enumerated [] n = refl
enumerated (x ∷ xs) n = (λ i. n ∷ enumerated xs (n + 1) i)

numbers-join : (low a b : ℕ) → numbers_from low a ++ numbers_from (low + a) b ≡ numbers_from low (a + b)
numbers-join low zero b = (let here : low + 0 ≡ low = omega arith in let all : b ≡ 0 + b = omega arith in λ i. numbers_from (here i) (all i))
numbers-join low (suc a) b =
    (let next : low + suc a ≡ (low + 1) + a = omega arith in
    let all : suc (a + b) ≡ suc a + b = omega arith in
    (λ i. low ∷ (numbers_from (low + 1) a ++ numbers_from (next i) b)) ∙ ap (λ l. low ∷ l) (numbers-join (low + 1) a b) ∙ (λ i. numbers_from low (all i)))

pub numbers-many : (low n : ℕ) → length (numbers_from low n) ≡ n
numbers-many low zero = refl
numbers-many low (suc n) = ap suc (numbers-many (low + 1) n)

-- LAW: one number more
pub up-to-more : (n : ℕ) (old new : List ℕ) → old ≡ up_to n → new ≡ old ++ (n ∷ []) → new ≡ up_to (n + 1)
up-to-more n old new before is = is ∙ (λ i. before i ++ (n ∷ [])) ∙ (let here : n ≡ 0 + n = omega arith in λ i. up_to n ++ (here i ∷ [])) ∙ numbers-join 0 n 1

module _ (text : Text) (config : Config) (stored : Option Switches) (start : ℕ) (zone : Text) (carry : Carry) where
  abbrev x : Entry
  x = Boot text config stored start zone carry

  abbrev k : Journal
  k = x ∷ []

  pub starts : start ≡ now k
  starts = omega arith

  -- LAW: the numbers of its automations ascend, and there are few units
  pub boot-ascends : is_ascending (rule_numbers k) ≡ true
  boot-ascends = ascends config.automations 0 0 (omega arith)

  pub boot-numbers : (numbers : List ℕ) → numbers ≡ numbers_in k → length numbers ≡ length (units k)
  boot-numbers numbers is =
      ap length is ∙ length-append (rule_numbers k) (map {A = ℕ × Script} {B = ℕ} (λ p. p.0) (enumerate_from (length config.automations) config.scripts))
      ∙ (λ i. many {A = Automation} config.automations 0 i + many {A = Script} config.scripts (length config.automations) i)
      ∙ sym (length-append config.automations (map as_unit config.scripts) ∙ (λ i. length config.automations + length-map config.scripts as_unit i))
    where
      many : {A : Type 0} (xs : List A) (n : ℕ) → length (map {A = ℕ × A} {B = ℕ} (λ p. p.0) (enumerate_from n xs)) ≡ length xs
      many [] n = refl
      many (x ∷ xs) n = ap suc (many xs (n + 1))

  -- LAW: and they are the first ones
  pub boot-up-to : numbers_in k ≡ up_to (length (units_of config))
  boot-up-to =
      (let rules : ℕ = length config.automations in
      let from : rules ≡ 0 + rules = omega arith in
      let count : rules + length config.scripts ≡ length (units_of config)
      = (λ i. rules + sym (length-map config.scripts as_unit) i) ∙ sym (length-append config.automations (map as_unit config.scripts)) in
      (λ i. enumerated config.automations 0 i ++ enumerated config.scripts rules i)
      ∙ (λ i. numbers_from 0 rules ++ numbers_from (from i) (length config.scripts))
      ∙ numbers-join 0 rules (length config.scripts)
      ∙ (λ i. numbers_from 0 (count i)))

  pub boot-few : IsSoundConfig config → AreFew k
  boot-few sound = few-opened x (record { text = text; config = config; stored = stored; start = start; zone = zone; carry = carry }) refl refl sound

  -- LAW: once all automations are set, the owners are those of its automations that are on
  pub boot-owners : IsSoundConfig config → (table : StateTable) (t : TrigSet) → AllOpened [] x table t → filter is_automation (triggers.attached t) ≡ owners_on k 0
  boot-owners sound table t opened =
      opened-automations [] x refl refl sound table t opened ∙ sym (owners-opened k refl (map as_unit config.scripts) refl) ∙ sym (owners-whole k (omega arith))

  -- LAW: of the boot alone the journal is right with its records
  pub boot-right : Right k (records_of k)
  boot-right = record { journal = (tt, tt); records_are = refl; entries = (tt, tt) }

  pub boot-table : IsTable k []
  boot-table = record { numbered = tt; past = tt; unstepped = λ s p behind. none s p }
    where
      none : (s p : ℕ) → step_at k s p ≡ false
      none s zero = refl
      none s (suc p) = refl

  -- LAW: all sources are rested
  pub boot-rested : (rs : Records) → RestedKept k rs (trues 16)
  boot-rested rs = record { count = true-count 16; known = λ s lt. get-true 16 s lt ∙ (λ i. Some true); others = λ s le. refl }

  pub boot-looks : IsSome (clock.zone_of zone) → start ≤ last_moment → (table : StateTable) → states.StandsFor table k → (numbers : List ℕ) → numbers ≡ numbers_in k → Looks k table numbers zone start
  boot-looks read in_time table stand numbers are = record { now_is = starts; in_time = in_time; zone_is = refl; zone_read = read; states_stand = stand; numbers_are = are }

  -- the state of an entity that is no automation
  pub begun-at : IsSoundConfig config → (e : EntityId) → states.sets_anew [] x e ≡ false → option_map_or (λ c. Some (next_object None c.text [] start)) (first_of (map first_change config.helpers) e) None ≡ states_of k e
  begun-at sound e left =
      (λ i. option_map_or (λ c. Some (next_object None c.text [] (starts i))) (first_of (map first_change config.helpers) e) None)
      ∙ told-at [] x (map first_change config.helpers) (begin-given text config stored start zone carry) (sound-outside config sound) refl refl refl e left None (sym (states-empty e))

  -- LAW: before any automation is set, but with the first texts of the helpers
  abbrev pub boot-opening : IsSoundConfig config → (s : Automations) → switches.StandsFor s k → (table : StateTable) (t : TrigSet)
      → ((e : EntityId) → at table e ≡ option_map_or (λ c. Some (next_object None c.text [] start)) (first_of (map first_change config.helpers) e) None) → triggers.attached t ≡ [] → triggers.StandsFor t []
      → (rules : List Automation) → rules ≡ automations k → Opening rules 0 start s table t
  boot-opening sound s stand table t begun none stands rules are = record {
    j = [];
    x = x;
    opens = refl;
    all_are = are;
    numbered = refl;
    sound = sound;
    place_is = refl;
    at_is = starts;
    switches_stand = stand;
    begun = open-begin [] x refl refl (λ name. refl) table t (λ e left. begun e ∙ begun-at sound e left) none stands;
  }
